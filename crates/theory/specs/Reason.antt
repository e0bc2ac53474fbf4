-- SCOPE.md, "Why there is no start": for the lowest-numbered largest frame, the shortest length at which another frame's sum is greater, and the
-- lowest-numbered such frame.
use Rattle.std.specs.Prelude.{Bool, ℕ, ◌≤◌, ◌<◌, ltb, Option, unwrap_or}
use Rattle.theory.specs.First.{first, found}
use Rattle.theory.specs.Tasks.{Task, frame_count, frame, work, largest_frame}

-- the sum of n frames from frame k is greater than that from frame s, going round
unfoldable pub exceeds : Task → ℕ → ℕ → ℕ → Bool
exceeds t s n k = ltb (work t s n) (work t k n)

-- the lowest-numbered frame with a greater sum of n frames than frame s, if there is one
unfoldable pub exceeding : Task → ℕ → ℕ → Option ℕ
exceeding t s n = first 0 (frame_count t) (exceeds t s n)

-- the shortest length, up to the number of frames, at which there is one; none exactly if frame s qualifies
unfoldable pub exceeded : Task → ℕ → Option ℕ
exceeded t s = first 1 (frame_count t) (λ n. found (exceeding t s n))

-- that length for the lowest-numbered largest frame; 0 if there is none
unfoldable pub exceeded_length : Task → ℕ
exceeded_length t = unwrap_or (exceeded t (largest_frame t)) 0

-- the frame that exceeds it at that length; 0 if there is none
unfoldable pub exceeding_frame : Task → ℕ
exceeding_frame t = unwrap_or (exceeding t (largest_frame t) (exceeded_length t)) 0

-- Frame s, length n and frame k are the reason: no other numbers are.
pub record IsReason (t : Task) (s n k : ℕ) : Type 0 where
  -- s is the lowest-numbered largest frame
  pub frame_in : s < frame_count t
  pub largest : (j : ℕ) → j < frame_count t → frame t j ≤ frame t s
  pub lowest_largest : (j : ℕ) → j < s → frame t j < frame t s
  -- the sum of n frames from frame k exceeds that from frame s
  pub other_in : k < frame_count t
  pub sum_exceeds : work t s n < work t k n
  -- no shorter sum does, from any frame
  pub shortest : (m j : ℕ) → m < n → j < frame_count t → work t j m ≤ work t s m
  -- no sum of that length does, from a lower-numbered frame
  pub lowest_other : (j : ℕ) → j < k → work t j n ≤ work t s n
