-- What is turned away of a task and of a list (SCOPE.md, "What is turned away"): rows of checks, of which the first that applies decides.
use Rattle.std.specs.Prelude.{ℕ, suc, Bool, true, false, not, ◌&&◌, ◌||◌, leb, List, [], ◌∷◌, ◌++◌, map, ◌==◌, nat_le, nat_lt, Option, Some, None, Result, Ok, Err}
use Rattle.lent.specs.Checks.{Check, ◌⇒◌, first_refusal}
use Rattle.theory.specs.First.{first, found}
use Rattle.theory.specs.Tasks.{Task, frame_count, largest, largest_frame, qualifies}
use Rattle.theory.specs.Reason.{exceeded_length, exceeding_frame}
use Rattle.sheet.specs.Constants.{most_tasks, most_frames, greatest_time, deadline_monotonic}
use Rattle.sheet.specs.Tasks.{task_in, records_of}
use Rattle.sheet.specs.declared.Task.{Task as Record}
use Rattle.sheet.specs.declared.TaskSet.{TaskSet}
use Rattle.sheet.specs.declared.Reason.{Reason}
use Rattle.sheet.specs.declared.Refusal.{Refusal}
use Rattle.sheet.specs.declared.Refusal.TheVariants.{Policy, TaskCount, FrameCount, IllFormed, Lock, NotMonotonic}

-- the answer to a row of checks: the first that applies decides
abbrev pub answer_by : Option Refusal → Result Unit Refusal
answer_by None = Ok tt
answer_by (Some r) = Err r

unfoldable pub decided : List (Check Refusal) → Result Unit Refusal
decided cs = answer_by (first_refusal cs)

-- every number of a list passes a test
unfoldable pub all : (ℕ → Bool) → List ℕ → Bool
all test [] = true
all test (n ∷ ns) = test n && all test ns

-- periods, deadlines and frame times lie in 1 to 1,048,575, locks in 0 to 1,048,575
unfoldable pub is_time : ℕ → Bool
is_time n = nat_le 1 n && nat_le n greatest_time

unfoldable pub in_range : Task → Bool
in_range t = is_time t.period && nat_le t.lock greatest_time && all is_time t.frames && all is_time t.deadlines

-- no number of a list exceeds the one at its place in another, and both are as long
unfoldable pub none_above : List ℕ → List ℕ → Bool
none_above [] [] = true
none_above [] (d ∷ ds) = false
none_above (c ∷ cs) [] = false
none_above (c ∷ cs) (d ∷ ds) = nat_le c d && none_above cs ds

-- each frame has a deadline; no frame time exceeds it, and no deadline the period
unfoldable pub well_formed : Task → Bool
well_formed t = none_above t.frames t.deadlines && all (λ d. leb d t.period) t.deadlines

-- the lock does not exceed the largest frame time
unfoldable pub lock_fits : Task → Bool
lock_fits t = nat_le t.lock (largest t.frames)

-- some frame qualifies as start
unfoldable pub monotonic : Task → Bool
monotonic t = found (first 0 (frame_count t) (qualifies t))

-- the policies that are known
unfoldable pub known_policy : ℕ → Bool
known_policy policy = nat_le policy deadline_monotonic

-- 4: policy not 0, 1 or 2
unfoldable pub policy_check : ℕ → Check Refusal
policy_check policy = not (known_policy policy) ⇒ Policy

-- a count is 0 or over its limit
abbrev pub miscounted : ℕ → ℕ → Bool
miscounted n most = n == 0 || nat_lt most n

-- 6: task count 0 or over 16
unfoldable pub task_count_check : ℕ → Check Refusal
task_count_check n = miscounted n most_tasks ⇒ TaskCount

-- 7: frame count 0 or over 8, of task i
unfoldable pub frame_count_check : ℕ → ℕ → Check Refusal
frame_count_check i n = miscounted n most_frames ⇒ FrameCount i

-- 9 and 10 of task i
abbrev pub form_checks : ℕ → Task → List (Check Refusal)
form_checks i t = (not (in_range t && well_formed t) ⇒ IllFormed i) ∷ (not (lock_fits t) ⇒ Lock i) ∷ []

-- why no frame qualifies; zeros for a task with no frame, which 7 turns away before
unfoldable pub reason_of : Task → Reason
reason_of t = record { frame = largest_frame t; length = exceeded_length t; other = exceeding_frame t }

-- 11 of task i, and why
abbrev pub monotonic_check : ℕ → Task → Check Refusal
monotonic_check i t = not (monotonic t) ⇒ NotMonotonic i (reason_of t)

-- task by task 9, 10, 11. The first of the tasks has number i.
unfoldable pub task_checks : ℕ → List Task → List (Check Refusal)
task_checks i [] = []
task_checks i (t ∷ ts) = form_checks i t ++ monotonic_check i t ∷ task_checks (suc i) ts

-- 7 task by task
unfoldable pub frame_count_checks : ℕ → List Record → List (Check Refusal)
frame_count_checks i [] = []
frame_count_checks i (r ∷ rs) = frame_count_check i r.frame_count ∷ frame_count_checks (suc i) rs

-- the order for a list: 4, 6, 7 task by task, then task by task 9, 10, 11
unfoldable pub list_checks : ℕ → ℕ → List Record → List (Check Refusal)
list_checks policy n records =
    policy_check policy
    ∷ task_count_check n
    ∷ frame_count_checks 0 records
    ++ task_checks 0 (map task_in records)

-- the answer to a set by value
unfoldable pub admission : TaskSet → Result Unit Refusal
admission s = decided (list_checks s.policy s.task_count (records_of s))
