-- Elements laid over the front of lent memory one by one.
use mathlib.Core.List.{List, ◌++◌}
use mathlib.Core.Path.{◌≡◌, refl, sym, ap, ap₂, ◌∙◌}
use Prim.Native.Nat.{ℕ, suc, ◌+◌, ◌≤◌, ◌<◌, min}
use native.Mathlib.Decide.{dec_le}
use native.Mathlib.Nat.{le_of_lt, min_comm, min-eq_left, min-eq_right}
use native.Mathlib.Numerals.{add-one}
use native.Mathlib.Omega.{arith}
use lib.ListN.{length, get_or, take, drop, set, length-append, length-take, length-drop}
use lib.Seq.{append_snoc, drop-cons, set_at, take_at, take-suc, take_all, take-length, length-take-le}
use Rattle.lent.specs.Lent.{laid}

module _ {A : Type 0} (written memory : List A) where
  -- after n of them
  pub laid_to : ℕ → List A
  laid_to n = take n written ++ drop n memory

  pub laid_none : laid_to 0 ≡ memory
  unfolding laid_to
  laid_none = refl

  pub laid_more : (n : ℕ) (d : A) → n < length written → n < length memory → set (laid_to n) n (get_or written n d) ≡ laid_to (n + 1)
  unfolding laid_to
  laid_more n d h l =
      let t : A = get_or written n d in
      ap (λ (r : List A). set (take n written ++ r) n t) (drop-cons memory n d l)
      ∙ set_at (take n written) (get_or memory n d) (drop (suc n) memory) t n (length-take-le n written (le_of_lt h))
      ∙ sym (append_snoc (take n written) t (drop (suc n) memory))
      ∙ ap (λ (r : List A). r ++ drop (suc n) memory) (sym (take-suc written n d h))
      ∙ ap (λ (k : ℕ). take k written ++ drop k memory) (sym (add-one n))

  pub laid_to_length : (n : ℕ) → n ≤ length written → n ≤ length memory → length (laid_to n) ≡ length memory
  unfolding laid_to
  laid_to_length n h l = simp (length-append, length-take, length-drop) (omega arith)

  -- the first n of them are all that is written
  pub laid_all : (n : ℕ) → length (take n written) ≡ n → laid_to n ≡ laid (take n written) memory
  unfolding laid_to laid
  laid_all n e = ap (λ (k : ℕ). take n written ++ drop k memory) (sym e)

  -- what was written stands first
  pub take_laid : take (length written) (laid written memory) ≡ written
  unfolding laid
  take_laid = take_at written (drop (length written) memory) (length written) refl

  -- no more of them than `most`
  pub laid_most : (most : ℕ) → laid_to (min (length written) most) ≡ laid (take most written) memory
  unfolding laid_to laid
  laid_most most = ap₂ (λ (r : List A) (k : ℕ). r ++ drop k memory) (go (dec_le (length written) most)) (min_comm (length written) most ∙ sym (length-take most written))
    where
      go : Dec (length written ≤ most) → take (min (length written) most) written ≡ take most written
      go (yes h) = ap (λ (k : ℕ). take k written) (min-eq_left h) ∙ take-length written ∙ sym (take_all most written h)
      go (no h) = let over : most ≤ length written = omega arith in ap (λ (k : ℕ). take k written) (min-eq_right over)

  -- the memory keeps its length
  pub laid_length : length written ≤ length memory → length (laid written memory) ≡ length memory
  unfolding laid
  laid_length h = simp (length-append, length-drop) (omega arith)
