-- SCOPE.md, "Runs": the worst run of a frame, as a run that computes.
use Rattle.std.specs.Prelude.{true, false, List, ℕ, zero, suc, ◌+◌, ◌/◌, ◌%◌, ltb, eqb, None, Option, Some}
use Rattle.theory.specs.Tasks.{Task, task_at, frame, start_frame, largest_frame, deadline_of}
use Rattle.theory.specs.Analysis.{blocker}
use Rattle.theory.specs.Runs.{Run}

-- what a task is to the frame's task: a higher task, that task itself, its blocker, or a task without a release
pub data Role : Type 0 where
  above own blocks absent : Role

-- a lower task is the blocker, if that is named, or has no release
unfoldable pub below_own : Option ℕ → ℕ → Role
below_own None q = absent
below_own (Some b) q = elim (eqb q b) [ true ↦ blocks | false ↦ absent ]

-- the role of the task at place q to the task at place p
unfoldable pub role : List Task → ℕ → ℕ → Role
role set p q = elim (ltb q p) [ true ↦ above | false ↦ elim (eqb q p) [ true ↦ own | false ↦ below_own (blocker set p) q ] ]

-- first frames: a higher task begins at its start frame, the blocker at its lowest-numbered largest frame
unfoldable pub worst_first : Task → ℕ → Role → ℕ
worst_first t k above = start_frame t
worst_first t k own = k
worst_first t k blocks = largest_frame t
worst_first t k absent = 0

-- one release, at a tick, with that work
unfoldable pub once : ℕ → ℕ → ℕ → Option ℕ
once at w now = elim (eqb now at) [ true ↦ Some w | false ↦ None ]

-- releases from tick 1 on, a period apart, with full work
unfoldable pub every_period : Task → ℕ → Option ℕ
every_period t zero = None
every_period t (suc n) = elim (eqb (n % t.period) 0) [ true ↦ Some (frame t (start_frame t + n / t.period)) | false ↦ None ]

-- the releases: the blocker's before all others, with as much work as it may lock; the frame's own job with its full time
unfoldable pub worst_release : Task → ℕ → Role → ℕ → Option ℕ
worst_release t k above now = every_period t now
worst_release t k own now = once 1 (frame t k) now
worst_release t k blocks now = once 0 t.lock now
worst_release t k absent now = None

-- the only stretch is the blocker's, as long as it may be
unfoldable pub worst_stretch : List Task → Option ℕ → ℕ → ℕ
worst_stretch set None now = 0
worst_stretch set (Some b) zero = (task_at set b).lock
worst_stretch set (Some b) (suc n) = 0

-- the worst run of frame k of the task at place p; it ends with the deadline of the frame's job
unfoldable pub worst_run : List Task → ℕ → ℕ → Run
worst_run set p k =
    record {
      first_frame = λ q. worst_first (task_at set q) k (role set p q);
      input = λ now. record { release_of = λ q. worst_release (task_at set q) k (role set p q) now; stretch = worst_stretch set (blocker set p) now };
      ticks = suc (deadline_of (task_at set p) k);
    }
