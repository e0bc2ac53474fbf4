-- SCOPE.md, "The analysis": blocking, demand, response times, the verdict. Tasks stand in priority order, place 0 is highest.
use Rattle.std.specs.Prelude.{Bool, not, ◌&&◌, List, [], ◌∷◌, map, ◌≡◌, ℕ, zero, suc, ◌+◌, ◌-◌, ◌/◌, ◌≤◌, ◌<◌, leb, length, take, drop, None, Option, Some}
use Rattle.theory.specs.First.{first, every, found}
use Rattle.theory.specs.Tasks.{Task, task_at, frame_count, frame, work, largest, start_frame, deadline_of}

-- the tasks of lower priority than place p
unfoldable pub lower : List Task → ℕ → List Task
lower set p = drop (suc p) set

-- the largest Q of a list of tasks
unfoldable pub largest_lock : List Task → ℕ
largest_lock tasks = largest (map (λ t. t.lock) tasks)

-- how long lower tasks can block: a stretch that delays a release began at least a tick before it (0 less 1 is 0)
unfoldable pub blocking : List Task → ℕ
blocking below = largest_lock below - 1

-- the blocker of the task at place p: the first lower place with the largest Q, where that Q is at least 2
unfoldable pub blocker : List Task → ℕ → Option ℕ
blocker set p =
    first (suc p) (length set - suc p) (λ q. leb 2 (task_at set q).lock && leb (largest_lock (lower set p)) (task_at set q).lock)

-- a higher task, and the frame from which its work is counted
pub record Higher : Type 0 where
  pub task : Task
  pub start : ℕ

-- a task, its work counted from its start frame
abbrev pub from_start : Task → Higher
from_start t = record { task = t; start = start_frame t }

-- the tasks of higher priority than place p, each from its start frame
unfoldable pub higher : List Task → ℕ → List Higher
higher set p = map from_start (take p set)

-- how many jobs a task can have released in a window of t ticks: ⌈t/T⌉
unfoldable pub releases : ℕ → ℕ → ℕ
releases t T = (t + (T - 1)) / T

-- the work that the higher tasks can have released in it
unfoldable pub higher_work : List Higher → ℕ → ℕ
higher_work [] t = 0
higher_work (h ∷ hs) t = work h.task h.start (releases t h.task.period) + higher_work hs t

-- the demand at t: blocking, the frame's own time, and what the higher tasks can have released
unfoldable pub demand : ℕ → ℕ → List Higher → ℕ → ℕ
demand blocked own above t = blocked + own + higher_work above t

-- the completion-time equation: t is the least time from 1 to D that is enough for the demand at it
pub record IsResponse (demand_at : ℕ → ℕ) (D t : ℕ) : Type 0 where
  pub positive : 1 ≤ t
  pub within : t ≤ D
  pub enough : demand_at t ≤ t
  pub least : (u : ℕ) → 1 ≤ u → u < t → u < demand_at u

-- the same, computed
unfoldable pub response : (ℕ → ℕ) → ℕ → Option ℕ
response demand_at D = first 1 D (λ t. leb (demand_at t) t)

-- the completion-time iteration: from a first value, each round replaces the value by the demand at it
unfoldable pub after_rounds : (ℕ → ℕ) → ℕ → ℕ → ℕ
after_rounds demand_at from zero = from
after_rounds demand_at from (suc n) = demand_at (after_rounds demand_at from n)

-- the demand of frame k of the task at place p
unfoldable pub demand_of : List Task → ℕ → ℕ → ℕ → ℕ
demand_of set p k = demand (blocking (lower set p)) (frame (task_at set p) k) (higher set p)

-- its response time
unfoldable pub response_of : List Task → ℕ → ℕ → Option ℕ
response_of set p k = response (demand_of set p k) (deadline_of (task_at set p) k)

-- its iteration, which starts at blocking plus the frame
unfoldable pub rounds_of : List Task → ℕ → ℕ → ℕ → ℕ
rounds_of set p k = after_rounds (demand_of set p k) (blocking (lower set p) + frame (task_at set p) k)

-- a task passes if every frame has a response time within its own deadline
unfoldable pub passes : List Task → ℕ → Bool
passes set p = every 0 (frame_count (task_at set p)) (λ k. found (response_of set p k))

-- k is the first frame of the task at place p without a response time
pub record FirstWithout (set : List Task) (p k : ℕ) : Type 0 where
  pub frame_in : k < frame_count (task_at set p)
  pub without : response_of set p k ≡ None
  pub earlier_have : (j : ℕ) → j < k → (R : ℕ) × (response_of set p j ≡ Some R)

-- the answer for a set
pub data Verdict : Type 0 where
  holds : Verdict
  missed : (place : ℕ) (blocker : Option ℕ) → Verdict

-- holds where every task passes; else the first task in priority order that does not, and its blocker
unfoldable pub verdict : List Task → Verdict
verdict set = elim (first 0 (length set) (λ p. not (passes set p))) [ None ↦ holds | Some p ↦ missed p (blocker set p) ]
