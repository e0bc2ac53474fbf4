-- SCOPE.md, "The analysis", by task numbers: the verdict and the response times.
use Rattle.std.specs.Prelude.{Bool, true, false, List, [], ◌∷◌, ◌++◌, ℕ, zero, suc, ◌-◌, eqb, length, get_or, replicate, None, Option, Some, unwrap_or}
use Rattle.theory.specs.First.{first}
use Rattle.theory.specs.Tasks.{Task, task_at, frame_count}
use Rattle.theory.specs.Analysis.{Verdict as ByPlace, holds, missed, response_of, passes, verdict}
use Rattle.sheet.specs.Constants.{most_frames}
use Rattle.order.specs.Order.{priority_order, ordered_set}
use Rattle.analysis.specs.declared.Verdict.{Verdict}
use Rattle.analysis.specs.declared.Verdict.TheVariants.{Holds, Missed}

-- the number of the task at a place of the priority order
unfoldable pub number_at : List ℕ → ℕ → ℕ
number_at order p = get_or order p 0

-- the place at which a task stands
unfoldable pub place_of : List ℕ → ℕ → ℕ
place_of order i = unwrap_or (first 0 (length order) (λ p. eqb (number_at order p) i)) 0

unfoldable pub blocker_number : List ℕ → Option ℕ → Option ℕ
blocker_number order None = None
blocker_number order (Some p) = Some (number_at order p)

unfoldable pub verdict_number : List ℕ → ByPlace → Verdict
verdict_number order holds = Holds
verdict_number order (missed p b) = Missed (number_at order p) (blocker_number order b)

-- the set holds, or the first task in priority order that does not pass is named, with its blocker
unfoldable pub outcome_of : ℕ → List Task → Verdict
outcome_of policy tasks = verdict_number (priority_order policy tasks) (verdict (ordered_set policy tasks))

-- the n response times of frames k, k + 1, .. of the task at place p
unfoldable pub times_from : List Task → ℕ → ℕ → ℕ → List ℕ
times_from set p k zero = []
times_from set p k (suc n) = unwrap_or (response_of set p k) 0 ∷ times_from set p (suc k) n

-- eight slots for the times of a task that passes, frame by frame: 0 where there is no frame; a task that does not pass has none
unfoldable pub slots_by : Bool → List ℕ → Option (List ℕ)
slots_by true times = Some (times ++ replicate (most_frames - length times) 0)
slots_by false times = None

unfoldable pub slots_found : List Task → ℕ → Option (List ℕ)
slots_found set p = slots_by (passes set p) (times_from set p 0 (frame_count (task_at set p)))

-- its eight slots as they are written: 0 throughout for a task that does not pass
abbrev pub written_slots : Option (List ℕ) → List ℕ
written_slots found = unwrap_or found (replicate most_frames 0)

unfoldable pub slots_of : List Task → ℕ → List ℕ
slots_of set p = written_slots (slots_found set p)

-- the slots of n tasks in task-number order, of which the first has number i
unfoldable pub slots_from : List ℕ → List Task → ℕ → ℕ → List ℕ
slots_from order set i zero = []
slots_from order set i (suc n) = slots_of set (place_of order i) ++ slots_from order set (suc i) n

unfoldable pub times_of : ℕ → List Task → List ℕ
times_of policy tasks = slots_from (priority_order policy tasks) (ordered_set policy tasks) 0 (length tasks)
