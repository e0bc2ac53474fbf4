-- What the steps from a missed set to its script ask and hand on.
use Rattle.std.specs.Prelude.{List, [], map, ◌≡◌, ℕ, ◌≤◌, ◌<◌, length, get_or, Option}
use Rattle.theory.specs.Tasks.{task_at}
use Rattle.lent.specs.Lent.{Call}
use Rattle.sheet.specs.Tasks.{task_in, records_of}
use Rattle.sheet.specs.declared.Refusal.{Refusal}
use Rattle.sheet.specs.declared.TaskSet.{TaskSet}
use Rattle.sheet.specs.declared.Task.{Task as Record}
use Rattle.order.specs.Ordered.{tasks_in_order, numbers_of}
use Rattle.order.specs.declared.Ordered.{Ordered}
use Rattle.analysis.specs.Times.{number_at}
use Rattle.worst.specs.declared.Case.{Case}
use Rattle.worst.specs.declared.Plan.{Plan}
use Rattle.worst.specs.declared.Series.{Series}
use Rattle.worst.specs.Writing.{writing_by}
use Rattle.worst.specs.Inside.Plans.{no_series, series_for, role_by, plan_series}

-- the tick of the next release of task i
abbrev pub opens_at : List Series → ℕ → ℕ
opens_at series i = (get_or series i no_series).opens

-- the task with the earliest release, of several the lowest-numbered
pub record Soonest (series : List Series) (i : ℕ) : Type 0 where
  pub in_count : i < length series
  pub least : (j : ℕ) → j < length series → opens_at series i ≤ opens_at series j
  pub lowest : (j : ℕ) → j < i → opens_at series i < opens_at series j

-- a plan for an ordered set: at the number of each place stands the series of its role
pub record PlanFor (o : Ordered) (tasks : List Record) (c : Case) (pl : Plan) : Type 0 where
  pub count_is : pl.count ≡ length (tasks_in_order o)
  pub end_is : pl.end ≡ c.end
  pub tasks_are : pl.tasks ≡ tasks
  pub series_are : (q : ℕ) → q < length (tasks_in_order o)
      → plan_series pl (number_at (numbers_of o) q) ≡ series_for (task_at (tasks_in_order o) q) c.frame c.end (role_by c.place c.blocker q)

-- the call on a set that is admitted
abbrev pub set_writing : TaskSet → Call Refusal ℕ (Option ℕ)
set_writing set = writing_by [] set.policy (map task_in (records_of set))
