-- Why no frame qualifies: the searches for the largest frame, for a frame that exceeds it, and for the length, turn by turn.
use Rattle.std.specs.Prelude.{None, Option, Some, unwrap_or}
use Rattle.std.specs.List.{find, position_from, range_with_len}
use Rattle.std.proofs.Common.{◌≡◌, ℕ, ◌+◌, ◌-◌, ◌≤◌, ◌<◌, List, length, refl, ap, zero-add, arith, le-ltb}
use lib.Dec.{eqb, ltb, lit≤}
use Rattle.theory.specs.First.{first}
use Rattle.theory.specs.Tasks.{Task, frame_count, frame, work, largest, largest_frame}
use Rattle.theory.specs.Reason.{exceeds, exceeding, exceeded, exceeded_length, exceeding_frame}
use Rattle.theory.proofs.Laws.{work_zero, largest_is, reason_within}
use Rattle.theory.proofs.Reason.{exceeded_at}
use Rattle.theory.proofs.Search.{first_some, first_is_none}
use Rattle.sheet.specs.Admission.{reason_of}
use Rattle.sheet.specs.declared.Reason.{Reason}
use Rattle.admission.specs.Inside.Frames.{of_frames}
use Rattle.admission.proofs.Rows.{first_listed, position_first}
use Rattle.admission.proofs.Sums.{count_is, frame_is}

module _ (frames : List ℕ) where
  abbrev T : Task
  T = of_frames frames

  -- ---- the lowest-numbered largest frame

  pub largest_found : (most : ℕ) → most ≡ largest frames → unwrap_or (position_from (λ c. eqb c most) 0 frames) 0 ≡ largest_frame T
  unfolding largest_frame of_frames frame_count
  largest_found most e =
      ap (λ (o : Option ℕ). unwrap_or o 0)
      (position_first frames 0 (λ c. eqb c most) (λ k. eqb (frame T k) (largest frames)) (λ k h. rw (zero-add k, frame_is frames k h, e) refl))

  -- where there is a frame it is one
  pub largest_frame_in : 1 ≤ length frames → largest_frame T < length frames
  largest_frame_in h = omega (arith, (largest_is T (omega (arith, count_is frames))).largest_in, count_is frames)

  pub largest_frame_few : largest_frame T ≤ length frames
  largest_frame_few = omega (arith, (reason_within T).0, count_is frames)

  -- ---- the lowest-numbered frame with a greater sum than frame s

  pub exceeding_found : (s n sum : ℕ) → sum ≡ work T s n → find (λ k. ltb sum (work T k n)) (range_with_len 0 (length frames)) ≡ exceeding T s n
  unfolding exceeding exceeds frame_count of_frames
  exceeding_found s n sum e = rw e (first_listed 0 (length frames) (λ k. ltb (work T s n) (work T k n)))

  pub exceeding_in : (s n k : ℕ) → exceeding T s n ≡ Some k → k < length frames
  unfolding exceeding
  exceeding_in s n k e = omega (arith, (first_some 0 (frame_count T) (exceeds T s n) e).before, count_is frames)

  -- ---- the shortest length

  pub exceeded_all : (s : ℕ) → first 1 (length frames + 1 - 1) (exceeded_at T s) ≡ exceeded T s
  unfolding exceeded
  exceeded_all s = let back : length frames + 1 - 1 ≡ length frames = omega arith in rw (back, count_is frames) refl

  module _ (s : ℕ) (s_is : s ≡ largest_frame T) where
    pub reason_at : (n k : ℕ) → exceeded T s ≡ Some n → exceeding T s n ≡ Some k → ◌≡◌ {A = Reason} (record { frame = s; length = n; other = k }) (reason_of T)
    unfolding reason_of exceeded_length exceeding_frame
    reason_at n k e q = rw (← s_is, e, q)

    -- no frame has a greater sum of no frames
    none_of_none : exceeding T s 0 ≡ None
    unfolding exceeding exceeds
    none_of_none = first_is_none 0 (frame_count T) (exceeds T s 0) (λ k l h. rw (work_zero T s, work_zero T k) (le-ltb 0 0 (lit≤ tt)))

    pub reason_none : exceeded T s ≡ None → ◌≡◌ {A = Reason} (record { frame = s; length = 0; other = 0 }) (reason_of T)
    unfolding reason_of exceeded_length exceeding_frame
    reason_none e = rw (← s_is, e, none_of_none)
