-- SCOPE.md, "The worst run written": of a set that is missed, the worst run of the named task's first frame without a response time, as a run script.
use Rattle.std.specs.Prelude.{List, [], ℕ, ◌+◌, length, None, Option, Result, Some}
use Rattle.theory.specs.Tasks.{Task}
use Rattle.lent.specs.Checks.{Check}
use Rattle.lent.specs.Lent.{Call, answered, left_after}
use Rattle.records.specs.Sealed.{sealed_size}
use Rattle.sheet.specs.Constants.{most_tasks, greatest_time}
use Rattle.sheet.specs.Reading.{sheet_checks, policy_of, tasks_of}
use Rattle.sheet.specs.declared.Refusal.{Refusal}
use Rattle.sheet.specs.declared.Refusal.TheVariants.{Room}
use Rattle.order.specs.Order.{priority_order, ordered_set}
use Rattle.analysis.specs.Misses.{miss_in}
use Rattle.analysis.specs.declared.MissedFrame.{MissedFrame}
use Rattle.plays.specs.WorstScript.{worst_script}
use Rattle.scripts.specs.Format.{script_width}
use Rattle.scripts.specs.Writing.{script_of}

-- the script that shows a miss; a set that holds has none
unfoldable pub worst_bytes : ℕ → List Task → Option MissedFrame → List ℕ
worst_bytes policy tasks None = []
worst_bytes policy tasks (Some m) = script_of (worst_script (priority_order policy tasks) tasks m.place m.frame)

-- so many bytes hold the worst run of every set: of sixteen tasks, an entry for each tick up to the greatest time, and one more for each task
abbrev pub most_bytes : ℕ
most_bytes = sealed_size (script_width most_tasks (greatest_time + most_tasks))

-- how many bytes were written, of a set that misses
unfoldable pub worst_says : ℕ → List Task → Option MissedFrame → Option ℕ
worst_says policy tasks None = None
worst_says policy tasks (Some m) = Some (length (worst_bytes policy tasks (Some m)))

-- the call on tasks that these checks may turn away
unfoldable pub writing_by : List (Check Refusal) → ℕ → List Task → Call Refusal ℕ (Option ℕ)
writing_by checks policy tasks =
    let miss = miss_in (ordered_set policy tasks) in
    record { checks = checks; writes = worst_bytes policy tasks miss; says = worst_says policy tasks miss }

-- on a sheet
unfoldable pub worst_writing : List ℕ → Call Refusal ℕ (Option ℕ)
worst_writing s = writing_by (sheet_checks s) (policy_of s) (tasks_of s)

-- what the call answers
unfoldable pub worst_answer : List ℕ → List ℕ → Result (Option ℕ) Refusal
worst_answer s room = answered Room (worst_writing s) room

-- what the lent bytes hold afterwards
unfoldable pub worst_left : List ℕ → List ℕ → List ℕ
worst_left s room = left_after Room (worst_writing s) room
