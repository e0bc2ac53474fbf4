-- Task numbers and places: each is found from the other.
use mathlib.Core.List.{List}
use mathlib.Core.Path.{◌≡◌}
use Prim.Native.Nat.{ℕ, ◌<◌, zero-le}
use native.Mathlib.Omega.{arith}
use borrow.Author.Tests.{eqb-true, eq-eqb}
use lib.Dec.{eqb}
use lib.ListN.{length, get_or}
use Rattle.theory.proofs.Search.{first_some, first_exists}
use Rattle.order.specs.Claims.{Permutes}
use Rattle.analysis.specs.Times.{number_at, place_of}

module _ (n : ℕ) (order : List ℕ) (h : Permutes n order) where
  found_place : (i : ℕ) → i < n → (place_of order i < n) × (number_at order (place_of order i) ≡ i)
  unfolding place_of number_at
  found_place i l =
      let (p, p_in, e) = h.each_number i l in
      let (j, f, _) = first_exists 0 (length order) (λ q. eqb (get_or order q 0) i) p zero-le (omega (arith, h.same_length)) (eq-eqb _ _ e) in
      let it = first_some 0 (length order) (λ q. eqb (get_or order q 0) i) f in
      rw f (omega (arith, it.before, h.same_length), eqb-true _ _ it.passes)

  pub place_in : (i : ℕ) → i < n → place_of order i < n
  place_in i l = (found_place i l).0

  -- the task at the place of a number has that number
  pub number_back : (i : ℕ) → i < n → number_at order (place_of order i) ≡ i
  number_back i l = (found_place i l).1

  pub number_in : (p : ℕ) → p < n → number_at order p < n
  unfolding number_at
  number_in p l = h.each_place p l

  -- the place of the number at a place is that place
  pub place_back : (p : ℕ) → p < n → place_of order (number_at order p) ≡ p
  unfolding number_at
  place_back p l = h.no_two _ p (place_in (number_at order p) (number_in p l)) l (number_back (number_at order p) (number_in p l))
