-- What the analysis of a set answers and leaves, refused calls too, and the numbers that the workbench gets.
use Rattle.std.specs.Prelude.{List, map, ℕ, ◌+◌, ◌*◌, length, Err, None, Ok, Option, Result, Some}
use Rattle.theory.specs.Tasks.{Task}
use Rattle.sheet.specs.Constants.{most_tasks}
use Rattle.sheet.specs.Refusals.{number_of}
use Rattle.sheet.specs.Tasks.{task_in, records_of}
use Rattle.lent.specs.Checks.{Check}
use Rattle.lent.specs.Lent.{Call, answered, left_after}
use Rattle.sheet.specs.Admission.{decided, list_checks, admission}
use Rattle.sheet.specs.Reading.{sheet_checks, policy_of, tasks_of}
use Rattle.sheet.specs.declared.TaskSet.{TaskSet}
use Rattle.sheet.specs.declared.Refusal.{Refusal}
use Rattle.sheet.specs.declared.Refusal.TheVariants.{Room}
use Rattle.order.specs.Order.{priority_order, ordered_set}
use Rattle.analysis.specs.Times.{outcome_of, times_of}
use Rattle.analysis.specs.Findings.{findings_of}
use Rattle.analysis.specs.declared.Verdict.{Verdict}
use Rattle.analysis.specs.declared.Verdict.TheVariants.{Holds, Missed}
use Rattle.analysis.specs.declared.Analysis.{Analysis}
use Rattle.analysis.specs.declared.Decision.{Decision}

-- the blocker's number; none has the number behind the last task's
abbrev pub blocker_code : Option ℕ → ℕ
blocker_code (Some b) = b
blocker_code None = most_tasks

-- the least number of a miss, and how many numbers there are for a blocker
abbrev pub misses_from : ℕ
misses_from = 100

abbrev pub blockers : ℕ
blockers = most_tasks + 1

-- one number for each outcome: 0, one that gives the missed task and its blocker, or the refusal's
abbrev pub code : Result Verdict Refusal → ℕ
code (Ok Holds) = 0
code (Ok (Missed p b)) = misses_from + blockers * p + blocker_code b
code (Err r) = number_of r

-- the outcome of tasks that were answered so
unfoldable pub outcome_by : Result Unit Refusal → ℕ → List Task → Result Verdict Refusal
outcome_by (Ok tt) policy tasks = Ok (outcome_of policy tasks)
outcome_by (Err r) policy tasks = Err r

-- the analysis of admitted tasks by value: the verdict, and what was found, place by place
unfoldable pub analysed : ℕ → List Task → Analysis
analysed policy tasks =
    record {
      verdict = outcome_of policy tasks;
      task_count = length tasks;
      findings = findings_of (priority_order policy tasks) (ordered_set policy tasks);
    }

-- of tasks that were answered so
unfoldable pub analysis_by : Result Unit Refusal → ℕ → List Task → Result Analysis Refusal
analysis_by (Ok tt) policy tasks = Ok (analysed policy tasks)
analysis_by (Err r) policy tasks = Err r

-- a set by value, and a sheet
unfoldable pub set_analysis : TaskSet → Result Analysis Refusal
set_analysis s = analysis_by (admission s) s.policy (map task_in (records_of s))

unfoldable pub sheet_analysis : List ℕ → Result Analysis Refusal
sheet_analysis s = analysis_by (decided (sheet_checks s)) (policy_of s) (tasks_of s)

-- ---- times to lent numbers

-- what is decided of tasks that were analysed: their verdict, and how many they are
abbrev pub decision : ℕ → List Task → Decision
decision policy tasks = record { verdict = outcome_of policy tasks; task_count = length tasks }

-- the analysis of tasks that these checks may turn away: it writes their times and answers what is decided
unfoldable pub analysing : List (Check Refusal) → ℕ → List Task → Call Refusal ℕ Decision
analysing checks policy tasks = record { checks = checks; writes = times_of policy tasks; says = decision policy tasks }

-- of a set by value
unfoldable pub set_analysing : TaskSet → Call Refusal ℕ Decision
set_analysing s = analysing (list_checks s.policy s.task_count (records_of s)) s.policy (map task_in (records_of s))

unfoldable pub set_decision : TaskSet → List ℕ → Result Decision Refusal
set_decision s room = answered Room (set_analysing s) room

unfoldable pub set_left : TaskSet → List ℕ → List ℕ
set_left s room = left_after Room (set_analysing s) room

-- of a sheet
unfoldable pub sheet_analysing : List ℕ → Call Refusal ℕ Decision
sheet_analysing s = analysing (sheet_checks s) (policy_of s) (tasks_of s)

unfoldable pub sheet_decision : List ℕ → List ℕ → Result Decision Refusal
sheet_decision s room = answered Room (sheet_analysing s) room

unfoldable pub sheet_left : List ℕ → List ℕ → List ℕ
sheet_left s room = left_after Room (sheet_analysing s) room
