-- How the player's state shows a state of the theory's run: one slot for each task is enough before the first miss.
use Rattle.std.specs.Prelude.{List, [], ◌∷◌, ◌++◌, ◌≡◌, ℕ, suc, ◌+◌, ◌≤◌, ◌<◌, length, get_or, Some}
use Rattle.theory.specs.Tasks.{Task, task_at, deadline_of}
use Rattle.theory.specs.Runs.{Job, job, State, oldest_left}
use Rattle.sheet.specs.Constants.{most_tasks}
use Rattle.analysis.specs.Times.{number_at, place_of}
use Rattle.plays.specs.Script.{Script, entry_of}
use Rattle.plays.specs.ScriptRun.{lock_of}
use Rattle.player.specs.declared.state.Job.{Job as Slot}
use Rattle.player.specs.declared.state.Player.{Player}
use Rattle.player.specs.State.{no_job}

-- a slot shows the jobs of a task: none has work left, or the youngest alone has, and the slot has its work, its due moment and its lock
pub data SlotShows (locks : ℕ → ℕ) (task : Task) (jobs : List Job) (slot : Slot) : Type 0 where
  rests : oldest_left jobs ≡ 0 → slot.left ≡ 0 → SlotShows locks task jobs slot
  works : (older : List Job) (r k w : ℕ) → oldest_left older ≡ 0 → jobs ≡ older ++ (job r k (suc w) ∷ []) → slot.left ≡ suc w
      → slot.due ≡ r + deadline_of task k → slot.lock ≡ locks r → SlotShows locks task jobs slot

-- the lock that a script gives the job of task i that is released at tick r
abbrev pub locks_of : Script → ℕ → ℕ → ℕ
locks_of sc i r = lock_of (entry_of sc.entries i r)

-- the slot of task i shows these jobs
abbrev pub SlotOf : List Task → Script → Player → ℕ → List Job → Type 0
SlotOf tasks sc player i jobs = SlotShows (locks_of sc i) (task_at tasks i) jobs (get_or player.jobs i no_job)

-- no pending job of the first n tasks is due sooner than that moment
abbrev pub NoSooner : ℕ → ℕ → List Slot → Type 0
NoSooner soonest n slots = (i : ℕ) → i < n → 1 ≤ (get_or slots i no_job).left → soonest ≤ (get_or slots i no_job).due

-- the player's state shows these jobs of each task, the stretch under way with the task that has it, and a moment before which no task can miss
pub record ShowsJobs (order : List ℕ) (tasks : List Task) (sc : Script) (jobs_of : ℕ → List Job) (s : State) (player : Player) : Type 0 where
  pub slots : (i : ℕ) → i < length tasks → SlotOf tasks sc player i (jobs_of i)
  pub coming : player.to_come ≡ s.to_come
  pub holder : 1 ≤ s.to_come → Some (number_at order s.owner) ≡ player.picked
  pub no_sooner : NoSooner player.soonest (length tasks) player.jobs
  pub room : length player.jobs ≡ most_tasks

-- the player's state shows the run's
abbrev pub Shows : List ℕ → List Task → Script → State → Player → Type 0
Shows order tasks sc s player = ShowsJobs order tasks sc (λ i. (s.lanes (place_of order i)).jobs) s player
