-- What the tests of a count and of a policy say.
use Rattle.std.proofs.Common.{◌≡◌, ℕ, zero, suc, ◌≤◌, Bool, true, false, not, ◌||◌, eqb, ltb, refl, ap, true≢false, arith, ltb-false, le-ltb, ne_eqb, leb-true}
use borrow.Author.Tests.{eqb-false}
use Rattle.sheet.specs.Constants.{deadline_monotonic}
use Rattle.sheet.specs.Admission.{known_policy}

neither : (a b : Bool) → (a || b) ≡ false → (a ≡ false) × (b ≡ false)
neither true b e = absurd (true≢false e)
neither false b e = (refl, e)

pub count_passes : (n m : ℕ) → 1 ≤ n → n ≤ m → (eqb n 0 || ltb m n) ≡ false
count_passes n m l h = rw (ne_eqb n 0 (λ e. omega arith), le-ltb m n h)

pub count_passed : (n m : ℕ) → (eqb n 0 || ltb m n) ≡ false → (1 ≤ n) × (n ≤ m)
count_passed n m e = (some_of n (eqb-false n 0 (neither (eqb n 0) (ltb m n) e).0), ltb-false m n (neither (eqb n 0) (ltb m n) e).1)
  where
    some_of : (k : ℕ) → (k ≡ 0 → ⊥) → 1 ≤ k
    some_of zero f = absurd (f refl)
    some_of (suc k) f = omega arith

-- ---- policies

pub policy_passes : (policy : ℕ) → known_policy policy ≡ true → not (known_policy policy) ≡ false
policy_passes policy e = ap not e

pub policy_passed : (policy : ℕ) → not (known_policy policy) ≡ false → known_policy policy ≡ true
policy_passed policy e = go (known_policy policy) e
  where
    go : (b : Bool) → not b ≡ false → b ≡ true
    go true e = refl
    go false e = absurd (true≢false e)

-- the greatest of the known policies bounds them
pub known_small : (policy : ℕ) → known_policy policy ≡ true → policy ≤ deadline_monotonic
unfolding known_policy
known_small policy e = leb-true policy deadline_monotonic e
