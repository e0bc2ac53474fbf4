-- The largest of a list of frame times, and whether each lies between 1 and its deadline and that within the period.
use Rattle.std.specs.Prelude.{unwrap_or}
use Rattle.std.specs.List.{reduce}
use Rattle.std.proofs.Common.{◌≡◌, ℕ, zero, suc, ◌≤◌, ◌<◌, ◌↔◌, max, List, [], ◌∷◌, length, get_or, fold, refl, sym, ◌∙◌, arith}
use native.Mathlib.Nat.{max-zero}
use mathlib.Core.Bool.{So, and-eq-true_iff}
use Rattle.theory.specs.Tasks.{largest}
use Rattle.theory.proofs.Tests.{is_and, is_leb}
use Rattle.admission.specs.Inside.Frames.{between, all_between}

largest_folded : (c : ℕ) (cs : List ℕ) → fold max c cs ≡ max c (largest cs)
unfolding largest
largest_folded c [] = sym (max-zero c)
largest_folded c (d ∷ cs) = largest_folded (max c d) cs ∙ omega arith

-- as the iterator's `max` finds it
pub largest_reduced : (cs : List ℕ) → unwrap_or (reduce max cs) 0 ≡ largest cs
unfolding largest
largest_reduced [] = refl
largest_reduced (c ∷ cs) = largest_folded c cs

-- ---- between

between_is : (period c d : ℕ) → So (between period c d) ↔ (((1 ≤ c) × (c ≤ d)) × (d ≤ period))
between_is period c d = is_and (is_and (is_leb 1 c) (is_leb c d)) (is_leb d period)

-- every frame and its deadline, by place
pub all_between_is : (period : ℕ) (cs ds : List ℕ) → length ds ≡ length cs
    → So (all_between period cs ds) ↔ ((k : ℕ) → k < length cs → ((1 ≤ get_or cs k 0) × (get_or cs k 0 ≤ get_or ds k 0)) × (get_or ds k 0 ≤ period))
unfolding all_between
all_between_is period cs ds same = (there cs ds same, back cs ds same)
  where
    there : (cs ds : List ℕ) → length ds ≡ length cs → So (all_between period cs ds) → (k : ℕ) → k < length cs
        → ((1 ≤ get_or cs k 0) × (get_or cs k 0 ≤ get_or ds k 0)) × (get_or ds k 0 ≤ period)
    there [] ds same e k h = let z : ⊥ = omega arith in absurd z
    there (c ∷ cs) [] same e k h = let z : ⊥ = omega arith in absurd z
    there (c ∷ cs) (d ∷ ds) same e zero h = (between_is period c d).0 ((and-eq-true_iff (between period c d) (all_between period cs ds)).0 e).0
    there (c ∷ cs) (d ∷ ds) same e (suc k) h =
        there cs ds (omega arith) ((and-eq-true_iff (between period c d) (all_between period cs ds)).0 e).1 k (omega arith)

    back : (cs ds : List ℕ) → length ds ≡ length cs
        → ((k : ℕ) → k < length cs → ((1 ≤ get_or cs k 0) × (get_or cs k 0 ≤ get_or ds k 0)) × (get_or ds k 0 ≤ period)) → So (all_between period cs ds)
    back [] ds same h = refl
    back (c ∷ cs) [] same h = let z : ⊥ = omega arith in absurd z
    back (c ∷ cs) (d ∷ ds) same h =
        (and-eq-true_iff (between period c d) (all_between period cs ds)).1
        ((between_is period c d).1 (h 0 (omega arith)), back cs ds (omega arith) (λ k l. h (suc k) (omega arith)))
