-- Parts of lists: equal elements, and what is laid over memory of the same length.
use mathlib.Core.List.{List, ◌∷◌, append-nil}
use mathlib.Core.Path.{◌≡◌, refl, ap, ◌∙◌}
use Prim.Native.Nat.{ℕ, zero, suc, ◌-◌, ◌≤◌}
use native.Mathlib.Omega.{arith}
use lib.ListN.{length, take, drop, replicate, drop_of_length-le}
use Rattle.lent.specs.Lent.{laid}

-- as many as the memory holds
pub laid_whole : {A : Type 0} (written memory : List A) → length memory ≡ length written → laid written memory ≡ written
unfolding laid
laid_whole written memory e = rw (drop_of_length-le memory {i = length written} (omega arith)) (append-nil written)

pub drop_replicate {ℓ} : {A : Type ℓ} (n m : ℕ) (a : A) → drop n (replicate m a) ≡ replicate (m - n) a
drop_replicate zero m a = let e : m ≡ m - 0 = omega arith in ap (λ (k : ℕ). replicate k a) e
drop_replicate (suc n) zero a = let e : 0 ≡ 0 - suc n = omega arith in ap (λ (k : ℕ). replicate k a) e
drop_replicate (suc n) (suc m) a = let e : m - n ≡ suc m - suc n = omega arith in drop_replicate n m a ∙ ap (λ (k : ℕ). replicate k a) e

pub take_replicate {ℓ} : {A : Type ℓ} (n m : ℕ) (a : A) → n ≤ m → take n (replicate m a) ≡ replicate n a
take_replicate zero m a h = refl
take_replicate (suc n) zero a h = let z : ⊥ = omega arith in absurd z
take_replicate (suc n) (suc m) a h = ap (◌∷◌ a) (take_replicate n m a (omega arith))
