-- The tasks above, as tallies hold them, and what the demand asks of them.
use Rattle.std.specs.Prelude.{List, [], ◌≡◌, ℕ, ◌≤◌, ◌<◌, ◌^◌, length, get_or}
use Rattle.theory.specs.Tasks.{frame_count, work, WellFormed}
use Rattle.theory.specs.Analysis.{Higher, from_start, releases}
use Rattle.sheet.specs.Constants.{most_tasks, most_frames}
use Rattle.sheet.specs.Tasks.{task_in}
use Rattle.sheet.specs.declared.Task.{Task as Record}
use Rattle.analysis.specs.declared.demand.Tally.{Tally}

-- a record's task, counted from a frame
abbrev pub counted_from : Record → ℕ → Higher
counted_from r s = record { task = task_in r; start = s }

-- a tally: the sums of the first 0, 1, .. frames from the start, the number of frames and the period
pub record TallyOf (h : Higher) (tally : Tally) : Type 0 where
  pub sums_are : (k : ℕ) → k ≤ frame_count h.task → get_or tally.sums k 0 ≡ work h.task h.start k
  pub count_is : tally.frame_count ≡ frame_count h.task
  pub period_is : tally.period ≡ h.task.period
  pub few_frames : frame_count h.task ≤ most_frames
  pub period_fits : h.task.period < 2 ^ 32

-- a tally by which work is counted: that of a well-formed task
pub record Counted (h : Higher) (tally : Tally) : Type 0 where
  pub tally_of : TallyOf h tally
  pub well_formed : WellFormed h.task

-- the work that a higher task can have released in t ticks
abbrev pub released : Higher → ℕ → ℕ
released h t = work h.task h.start (releases t h.task.period)

-- past the last of the tasks above: nothing reads it
abbrev pub no_higher : Higher
no_higher = from_start (record { period = 0; lock = 0; frames = []; deadlines = [] })

-- and past the last of their tallies
abbrev pub no_tally : Tally
no_tally = record { sums = []; frame_count = 0; period = 0 }

-- the tallies are those of the tasks above, each of its own
pub record Tallies (above : List Tally) : Type 0 where
  pub few : length above ≤ most_tasks
  pub tasks : List Higher
  pub many : length tasks ≡ length above
  pub each : (i : ℕ) → i < length above → Counted (get_or tasks i no_higher) (get_or above i no_tally)
