-- Tests and what they test.
use mathlib.Core.Bool.{Bool, true, false, So, and-eq-true_iff}
use mathlib.Core.List.{List, [], ◌∷◌}
use mathlib.Core.Logic.{◌↔◌}
use mathlib.Core.Path.{◌≡◌, refl, sym}
use Prim.Native.Nat.{ℕ, zero, suc, ◌<◌}
use native.Mathlib.Nat.{le_of_suc-le-suc}
use native.Mathlib.Omega.{arith}
use lib.ListN.{length, get_or}
use Rattle.sheet.specs.Admission.{all}

-- two tests that pass together have the same outcome
pub same_outcome : (a b : Bool) → (a ≡ true → b ≡ true) → (b ≡ true → a ≡ true) → a ≡ b
same_outcome true b f g = sym (f refl)
same_outcome false true f g = g refl
same_outcome false false f g = refl

-- a test whose passing is absurd fails
pub fails : (a : Bool) → (a ≡ true → ⊥) → a ≡ false
fails true f = absurd (f refl)
fails false f = refl

-- every number of a list passes, by its positions
pub is_all : {P : ℕ → Type 0} (test : ℕ → Bool) → ((n : ℕ) → So (test n) ↔ P n) → (ns : List ℕ)
    → So (all test ns) ↔ ((k : ℕ) → k < length ns → P (get_or ns k 0))
unfolding all
is_all {P} test f ns = (there ns, back ns)
  where
    there : (ns : List ℕ) → So (all test ns) → (k : ℕ) → k < length ns → P (get_or ns k 0)
    there [] e k h = let z : ⊥ = omega arith in absurd z
    there (n ∷ ns) e zero h = (f n).0 ((and-eq-true_iff (test n) (all test ns)).0 e).0
    there (n ∷ ns) e (suc k) h = there ns ((and-eq-true_iff (test n) (all test ns)).0 e).1 k (le_of_suc-le-suc h)

    back : (ns : List ℕ) → ((k : ℕ) → k < length ns → P (get_or ns k 0)) → So (all test ns)
    back [] h = refl
    back (n ∷ ns) h = (and-eq-true_iff (test n) (all test ns)).1 ((f n).1 (h 0 (omega arith)), back ns (λ k l. h (suc k) (omega arith)))
