-- SCOPE.md, "The worst run written": the frame that a missed set is shown by.
use Rattle.std.specs.Prelude.{not, List, map, ℕ, Err, None, Ok, Option, Result, Some, unwrap_or}
use Rattle.theory.specs.First.{first, found}
use Rattle.theory.specs.Tasks.{Task, task_at, frame_count}
use Rattle.theory.specs.Analysis.{Verdict, holds, missed, response_of, verdict}
use Rattle.sheet.specs.Tasks.{task_in, records_of}
use Rattle.sheet.specs.Admission.{admission}
use Rattle.sheet.specs.declared.TaskSet.{TaskSet}
use Rattle.order.specs.Order.{ordered_set}
use Rattle.analysis.specs.declared.MissedFrame.{MissedFrame}
use Rattle.sheet.specs.declared.Refusal.{Refusal}

-- the first frame without a response time of the task at place p; 0 where there is none
unfoldable pub first_without : List Task → ℕ → ℕ
first_without set p = unwrap_or (first 0 (frame_count (task_at set p)) (λ k. not (found (response_of set p k)))) 0

-- by the verdict on a set in priority order: the place that it names, and that frame of its task
unfoldable pub miss_by : List Task → Verdict → Option MissedFrame
miss_by set holds = None
miss_by set (missed p b) = Some (record { place = p; frame = first_without set p })

unfoldable pub miss_in : List Task → Option MissedFrame
miss_in set = miss_by set (verdict set)

-- of tasks that were answered so; those that are turned away have none
unfoldable pub miss_of : Result Unit Refusal → ℕ → List Task → Option MissedFrame
miss_of (Ok tt) policy tasks = miss_in (ordered_set policy tasks)
miss_of (Err r) policy tasks = None

-- of a set by value
unfoldable pub set_miss : TaskSet → Option MissedFrame
set_miss s = miss_of (admission s) s.policy (map task_in (records_of s))
