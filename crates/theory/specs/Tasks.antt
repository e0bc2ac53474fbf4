-- SCOPE.md, "A task and a set": a task, its frames going round, its start frame, and when a set is admitted.
use Rattle.std.specs.Prelude.{Bool, List, [], ◌∷◌, ◌≡◌, ℕ, zero, suc, ◌+◌, ◌%◌, ◌≤◌, ◌<◌, min, max, leb, eqb, length, get_or, unwrap_or}
use Rattle.theory.specs.First.{first, every}

-- a task: the least distance of its releases, the longest locked stretch, and frame by frame the time of a job and how long it may take
pub record Task : Type 0 where
  pub period : ℕ
  pub lock : ℕ
  pub frames : List ℕ
  pub deadlines : List ℕ

-- the task at a place of a list in priority order (place 0 is highest); past the list, a task of zeros that nothing reads
unfoldable pub task_at : List Task → ℕ → Task
task_at set p = get_or set p (record { period = 0; lock = 0; frames = []; deadlines = [] })

-- the number of frames
unfoldable pub frame_count : Task → ℕ
frame_count t = length t.frames

-- the frame that follows frame k, going round the list
unfoldable pub next_frame : Task → ℕ → ℕ
next_frame t k = suc k % frame_count t

-- the time of frame k, going round the list
unfoldable pub frame : Task → ℕ → ℕ
frame t k = get_or t.frames (k % frame_count t) 0

-- the deadline of frame k, going round the list
unfoldable pub deadline_of : Task → ℕ → ℕ
deadline_of t k = get_or t.deadlines (k % frame_count t) 0

-- the smallest number of a list; 0 where there is none
unfoldable pub smallest : List ℕ → ℕ
smallest [] = 0
smallest (d ∷ []) = d
smallest (d ∷ e ∷ ds) = min d (smallest (e ∷ ds))

-- the shortest deadline of a task's frames
unfoldable pub shortest_deadline : Task → ℕ
shortest_deadline t = smallest t.deadlines

-- the work of n jobs from frame k: the sum of n frames, going round
unfoldable pub work : Task → ℕ → ℕ → ℕ
work t k zero = 0
work t k (suc n) = work t k n + frame t (k + n)

-- the largest number of a list
unfoldable pub largest : List ℕ → ℕ
largest [] = 0
largest (c ∷ cs) = max c (largest cs)

-- the lowest-numbered largest frame
unfoldable pub largest_frame : Task → ℕ
largest_frame t = unwrap_or (first 0 (frame_count t) (λ k. eqb (frame t k) (largest t.frames))) 0

-- A frame qualifies as start if no other frame begins a greater sum, at any length up to a whole round.
unfoldable pub Qualifies : Task → ℕ → Type 0
Qualifies t s = (n k : ℕ) → 1 ≤ n → n ≤ frame_count t → k < frame_count t → work t k n ≤ work t s n

-- the same as a test
unfoldable pub qualifies : Task → ℕ → Bool
qualifies t s = every 1 (frame_count t) (λ n. every 0 (frame_count t) (λ k. leb (work t k n) (work t s n)))

-- the start frame: the lowest-numbered that qualifies
unfoldable pub start_frame : Task → ℕ
start_frame t = unwrap_or (first 0 (frame_count t) (qualifies t)) 0

-- well formed: there is a frame, each has a deadline, takes at least one tick, at most its deadline, and that is at most the period
pub record WellFormed (t : Task) : Type 0 where
  pub has_frame : 1 ≤ frame_count t
  pub each_deadline : length t.deadlines ≡ frame_count t
  pub frame_positive : (k : ℕ) → k < frame_count t → 1 ≤ frame t k
  pub frame_in_deadline : (k : ℕ) → k < frame_count t → frame t k ≤ deadline_of t k
  pub deadline_in_period : (k : ℕ) → k < frame_count t → deadline_of t k ≤ t.period

-- accumulatively monotonic: some frame qualifies as start
pub record Monotonic (t : Task) : Type 0 where
  pub start : ℕ
  pub start_in : start < frame_count t
  pub start_qualifies : Qualifies t start

-- what is asked of each task
pub record AdmittedTask (t : Task) : Type 0 where
  pub well_formed : WellFormed t
  -- no locked stretch is longer than the largest frame
  pub lock_rule : t.lock ≤ largest t.frames
  pub monotonic : Monotonic t

-- a set of one or more such tasks, in priority order; the upper limits of the sheet play no part here
pub record Admitted (set : List Task) : Type 0 where
  pub some_task : 1 ≤ length set
  pub each_task : (p : ℕ) → p < length set → AdmittedTask (task_at set p)
