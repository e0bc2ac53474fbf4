-- SCOPE.md, "The worst run written": the script of the worst run of frame k of the task at place p, and when two runs are the same.
use Rattle.std.specs.Prelude.{List, [], ◌∷◌, ◌≡◌, ℕ, zero, suc, ◌<◌, length, None, Option, Some}
use Rattle.theory.specs.Tasks.{Task, task_at, deadline_of}
use Rattle.theory.specs.Runs.{Run}
use Rattle.theory.specs.WorstRun.{Role, above, own, blocks, absent, role, worst_first, worst_release}
use Rattle.analysis.specs.Times.{place_of}
use Rattle.analysis.specs.Findings.{in_turn}
use Rattle.plays.specs.Script.{Script}
use Rattle.plays.specs.declared.Entry.{Entry}
use Rattle.plays.specs.ScriptRun.{by_place}

-- the blocker has its Q as lock, the other tasks none
unfoldable pub worst_lock : Task → Role → ℕ
worst_lock t above = 0
worst_lock t own = 0
worst_lock t blocks = t.lock
worst_lock t absent = 0

-- a release of task i at tick t as a row of entries
unfoldable pub entry_row : ℕ → ℕ → ℕ → Option ℕ → List Entry
entry_row i t lock None = []
entry_row i t lock (Some w) = record { task = i; tick = t; work = w; lock = lock } ∷ []

module _ (order : List ℕ) (tasks : List Task) (p k : ℕ) where
  -- what task i is to the task at place p
  unfoldable pub role_of_task : ℕ → Role
  role_of_task i = role (by_place order tasks) p (place_of order i)

  -- the releases of tick t, by task number
  unfoldable pub worst_row : ℕ → ℕ → List Entry
  worst_row t i =
      entry_row i t (worst_lock (task_at tasks i) (role_of_task i)) (worst_release (task_at tasks i) k (role_of_task i) t)

  -- the first frames, of n tasks from task i on
  unfoldable pub worst_firsts : ℕ → ℕ → List ℕ
  worst_firsts i zero = []
  worst_firsts i (suc n) = worst_first (task_at tasks i) k (role_of_task i) ∷ worst_firsts (suc i) n

  -- the script: tick by tick up to the deadline of the frame's job, which is released at tick 1, and in each tick by task number
  unfoldable pub worst_script : Script
  worst_script =
      record {
        firsts = worst_firsts 0 (length tasks);
        entries = in_turn (λ t. in_turn (worst_row t) 0 (length tasks)) 0 (suc (deadline_of (task_at (by_place order tasks) p) k));
      }

-- two runs of a set, of so many ticks, that are the same: the same first frames, and at each tick the same choices
pub record SameRun (ticks : ℕ) (set : List Task) (run run' : Run) : Type 0 where
  pub same_firsts : (q : ℕ) → q < length set → run.first_frame q ≡ run'.first_frame q
  pub same_releases : (t q : ℕ) → t < ticks → q < length set → (run.input t).release_of q ≡ (run'.input t).release_of q
  pub same_stretches : (t : ℕ) → t < ticks → (run.input t).stretch ≡ (run'.input t).stretch
  pub same_ticks : (run.ticks ≡ ticks) × (run'.ticks ≡ ticks)
