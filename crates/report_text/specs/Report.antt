-- SCOPE.md, "The report": one line for the answer, one for each task.
use Rattle.std.specs.Prelude.{Bool, true, false, List, [], ◌∷◌, ◌++◌, map, ℕ, zero, suc, length, None, Option, Some, Result, Ok, Err}
use Rattle.theory.specs.Tasks.{Task, task_at, frame_count, shortest_deadline}
use Rattle.theory.specs.Analysis.{lower, blocking, passes}
use Rattle.sheet.specs.Refusals.{number_of}
use Rattle.sheet.specs.Admission.{decided}
use Rattle.sheet.specs.Reading.{sheet_checks, policy_of, tasks_of}
use Rattle.order.specs.Order.{priority_order, ordered_set}
use Rattle.analysis.specs.Times.{number_at, times_from}
use Rattle.analysis.specs.Answers.{outcome_by}
use Rattle.analysis.specs.declared.Verdict.{Verdict}
use Rattle.analysis.specs.declared.Verdict.TheVariants.{Holds, Missed}
use Rattle.sheet.specs.declared.Refusal.{Refusal}
use Rattle.report_text.specs.Words.{holds_word, missed_word, refused_word, dash_word, decimal, line}

-- the blocker's number, or that there is none
unfoldable pub blocker_word : Option ℕ → List ℕ
blocker_word (Some b) = decimal b
blocker_word None = dash_word

-- the first line: that the set holds, that it misses, with the missed task and its blocker, or the number of the refusal
unfoldable pub first_line : Result Verdict Refusal → ℕ → List ℕ
first_line (Ok Holds) n = line (holds_word ∷ decimal n ∷ [])
first_line (Ok (Missed i b)) n = line (missed_word ∷ decimal n ∷ decimal i ∷ blocker_word b ∷ [])
first_line (Err r) n = line (refused_word ∷ decimal (number_of r) ∷ [])

-- a response time for each frame, or once that the task misses
unfoldable pub time_words : Bool → List ℕ → List (List ℕ)
time_words true times = map decimal times
time_words false times = missed_word ∷ []

-- the line of the task at place p: its number, period, deadline, blocking and times
unfoldable pub task_line : List ℕ → List Task → ℕ → List ℕ
task_line order set p =
    let t = task_at set p in
    line (
    decimal (number_at order p)
    ∷ decimal t.period
    ∷ decimal (shortest_deadline t)
    ∷ decimal (blocking (lower set p))
    ∷ time_words (passes set p) (times_from set p 0 (frame_count t)))

-- the lines of n tasks, from place p on
unfoldable pub task_lines : List ℕ → List Task → ℕ → ℕ → List ℕ
task_lines order set p zero = []
task_lines order set p (suc n) = task_line order set p ++ task_lines order set (suc p) n

-- the lines behind the first: none behind a refusal
unfoldable pub lines_behind : Result Verdict Refusal → ℕ → List Task → List ℕ
lines_behind (Ok v) policy tasks = task_lines (priority_order policy tasks) (ordered_set policy tasks) 0 (length tasks)
lines_behind (Err r) policy tasks = []

-- the report on a byte string
unfoldable pub report : List ℕ → List ℕ
report s =
    let answer = outcome_by (decided (sheet_checks s)) (policy_of s) (tasks_of s) in
    first_line answer (length (tasks_of s)) ++ lines_behind answer (policy_of s) (tasks_of s)
