-- SCOPE.md, "Worked sets": cases A to O as one table, sets in, answers out; and the three refusals that "What is turned away" gives by example.
use Rattle.std.specs.Prelude.{List, [], ◌∷◌, ◌++◌, map, ◌≡◌, ℕ, ◌-◌, length, replicate, None, Some, Result, Ok, Err}
use Rattle.check_word.specs.Division.{body}
use Rattle.theory.specs.Tasks.{Task, task_at, start_frame}
use Rattle.sheet.specs.Constants.{version_1, version_2, most_frames}
use Rattle.sheet.specs.Tasks.{set_with}
use Rattle.sheet.specs.Writing.{sheet_of}
use Rattle.sheet.specs.declared.Reason.{Reason}
use Rattle.sheet.specs.declared.Refusal.{Refusal}
use Rattle.sheet.specs.declared.Refusal.TheVariants.{TaskCount, IllFormed, Lock, NotMonotonic}
use Rattle.order.specs.Order.{priority_order}
use Rattle.report_text.specs.Report.{report}
use Rattle.analysis.specs.Findings.{times_by_number}
use Rattle.analysis.specs.Answers.{set_analysis}
use Rattle.analysis.specs.declared.Analysis.{Analysis}
use Rattle.analysis.specs.declared.Verdict.{Verdict}
use Rattle.analysis.specs.declared.Verdict.TheVariants.{Holds, Missed}

-- what a case expects of its set
pub data Expected : Type 0 where
  -- the verdict, and eight slots for the times of each task's frames
  analysed : Verdict → List ℕ → Expected
  -- the refusal
  refused : Refusal → Expected
  -- the start frame of task 0
  start : ℕ → Expected
  -- the order of priorities
  order : List ℕ → Expected
  -- the bytes before the check word
  bytes : List ℕ → Expected
  -- the report
  text : List ℕ → Expected

pub record Case : Type 0 where
  pub version : ℕ
  pub policy : ℕ
  pub tasks : List Task
  pub expects : List Expected

-- a deadline for each frame
abbrev by_frame : (T Q : ℕ) → (frames deadlines : List ℕ) → Task
by_frame T Q frames deadlines = record { period = T; lock = Q; frames = frames; deadlines = deadlines }

-- D = T and Q = 0
abbrev plain : ℕ → List ℕ → Task
plain T frames = by_frame T 0 frames (map (λ c. T) frames)

-- Q = 0
abbrev with_deadline : ℕ → ℕ → List ℕ → Task
with_deadline T D frames = by_frame T 0 frames (map (λ c. D) frames)

-- D = T
abbrev with_lock : ℕ → ℕ → List ℕ → Task
with_lock T Q frames = by_frame T Q frames (map (λ c. T) frames)

-- a case whose sheet is of version 1, and one of version 2
abbrev case : ℕ → List Task → List Expected → Case
case policy tasks expects = record { version = version_1; policy = policy; tasks = tasks; expects = expects }

abbrev case_2 : ℕ → List Task → List Expected → Case
case_2 policy tasks expects = record { version = version_2; policy = policy; tasks = tasks; expects = expects }

-- eight slots for each task's times
unfoldable pub in_eights : List (List ℕ) → List ℕ
in_eights [] = []
in_eights (ts ∷ rows) = ts ++ replicate (most_frames - length ts) 0 ++ in_eights rows

-- a verdict with each task's times; none for a task that does not pass
abbrev times : Verdict → List (List ℕ) → Expected
times verdict rows = analysed verdict (in_eights rows)

-- why there is no start: the largest frame, the length, the other frame
abbrev why : ℕ → ℕ → ℕ → Reason
why frame length other = record { frame = frame; length = length; other = other }

-- what an analysis gives
unfoldable pub given_by : Result Analysis Refusal → Expected
given_by (Ok a) = analysed a.verdict (times_by_number a)
given_by (Err r) = refused r

-- what the definitions give in the place of what is expected
unfoldable pub given : Case → Expected → Expected
given c (analysed verdict slots) = given_by (set_analysis (set_with c.policy c.tasks))
given c (refused r) = given_by (set_analysis (set_with c.policy c.tasks))
given c (start frame) = start (start_frame (task_at c.tasks 0))
given c (order numbers) = order (priority_order c.policy c.tasks)
given c (bytes front) = bytes (body (sheet_of c.version c.policy c.tasks))
given c (text letters) = text (report (sheet_of c.version c.policy c.tasks))

-- the definitions give every case its answers
unfoldable pub Agrees : List Case → Type 0
Agrees cases = map (λ c. map (given c) c.expects) cases ≡ map (λ c. c.expects) cases

-- case F's report, letter by letter:
-- holds 2
-- 0 10 4 2 4
-- 1 20 20 0 7
abbrev pub report_of_f : List ℕ
report_of_f =
    0x68 ∷ 0x6F ∷ 0x6C ∷ 0x64 ∷ 0x73 ∷ 0x20 ∷ 0x32 ∷ 0x0A
    ∷ 0x30 ∷ 0x20 ∷ 0x31 ∷ 0x30 ∷ 0x20 ∷ 0x34 ∷ 0x20 ∷ 0x32 ∷ 0x20 ∷ 0x34 ∷ 0x0A
    ∷ 0x31 ∷ 0x20 ∷ 0x32 ∷ 0x30 ∷ 0x20 ∷ 0x32 ∷ 0x30 ∷ 0x20 ∷ 0x30 ∷ 0x20 ∷ 0x37 ∷ 0x0A
    ∷ []

-- case O's, with the smallest deadline of task 0:
-- holds 2
-- 0 20 5 2 6 4
-- 1 12 7 0 7
abbrev pub report_of_o : List ℕ
report_of_o =
    0x68 ∷ 0x6F ∷ 0x6C ∷ 0x64 ∷ 0x73 ∷ 0x20 ∷ 0x32 ∷ 0x0A
    ∷ 0x30 ∷ 0x20 ∷ 0x32 ∷ 0x30 ∷ 0x20 ∷ 0x35 ∷ 0x20 ∷ 0x32 ∷ 0x20 ∷ 0x36 ∷ 0x20 ∷ 0x34 ∷ 0x0A
    ∷ 0x31 ∷ 0x20 ∷ 0x31 ∷ 0x32 ∷ 0x20 ∷ 0x37 ∷ 0x20 ∷ 0x30 ∷ 0x20 ∷ 0x37 ∷ 0x0A
    ∷ []

unfoldable pub table : List Case
table =
    -- A
    case 1 (plain 100 (40 ∷ []) ∷ plain 150 (40 ∷ []) ∷ plain 350 (100 ∷ []) ∷ []) (times Holds ((40 ∷ []) ∷ (80 ∷ []) ∷ (300 ∷ []) ∷ []) ∷ [])
    -- B
    ∷ case 1 (plain 3 (2 ∷ 1 ∷ []) ∷ plain 7 (3 ∷ []) ∷ []) (times Holds ((2 ∷ 1 ∷ []) ∷ (6 ∷ []) ∷ []) ∷ [])
    -- C
    ∷ case 1 (plain 3 (3 ∷ 1 ∷ []) ∷ plain 5 (1 ∷ []) ∷ []) (times Holds ((3 ∷ 1 ∷ []) ∷ (5 ∷ []) ∷ []) ∷ [])
    -- D
    ∷ case 1 (plain 3 (3 ∷ []) ∷ plain 5 (1 ∷ []) ∷ []) (times (Missed 1 None) ((3 ∷ []) ∷ [] ∷ []) ∷ [])
    -- E
    ∷ case 1 (plain 4 (1 ∷ []) ∷ plain 14 (10 ∷ []) ∷ []) (times Holds ((1 ∷ []) ∷ (14 ∷ []) ∷ []) ∷ [])
    -- F
    ∷ case 0 (with_deadline 10 4 (2 ∷ []) ∷ with_lock 20 3 (5 ∷ []) ∷ []) (times Holds ((4 ∷ []) ∷ (7 ∷ []) ∷ []) ∷ text report_of_f ∷ [])
    -- G
    ∷ case 0 (with_deadline 10 4 (2 ∷ []) ∷ with_lock 20 4 (5 ∷ []) ∷ []) (times (Missed 0 (Some 1)) ([] ∷ (7 ∷ []) ∷ []) ∷ [])
    -- H
    ∷ case 0 (with_deadline 10 4 (2 ∷ []) ∷ with_lock 20 1 (5 ∷ []) ∷ []) (times Holds ((2 ∷ []) ∷ (7 ∷ []) ∷ []) ∷ [])
    -- I
    ∷ case 0 (plain 10 (1 ∷ 2 ∷ 3 ∷ []) ∷ []) (refused (NotMonotonic 0 (why 2 2 1)) ∷ [])
    -- J
    ∷ case 0 (plain 10 (3 ∷ 2 ∷ 1 ∷ 5 ∷ []) ∷ []) (start 3 ∷ times Holds ((3 ∷ 2 ∷ 1 ∷ 5 ∷ []) ∷ []) ∷ [])
    -- K
    ∷ case 0 (plain 4 (3 ∷ 1 ∷ 3 ∷ 2 ∷ []) ∷ plain 20 (2 ∷ []) ∷ []) (start 2 ∷ times Holds ((3 ∷ 1 ∷ 3 ∷ 2 ∷ []) ∷ (7 ∷ []) ∷ []) ∷ [])
    -- L, under policy 2 and under policy 1
    ∷ case 2 (with_deadline 10 5 (1 ∷ []) ∷ with_deadline 8 5 (1 ∷ []) ∷ []) (order (0 ∷ 1 ∷ []) ∷ [])
    ∷ case 1 (with_deadline 10 5 (1 ∷ []) ∷ with_deadline 8 5 (1 ∷ []) ∷ []) (order (1 ∷ 0 ∷ []) ∷ [])
    -- M
    ∷ case 0 (plain 10 (3 ∷ []) ∷ [])
    (bytes (0x10 ∷ 0x20 ∷ 0x00 ∷ 0x00 ∷ 0xA0 ∷ 0x00 ∷ 0x0A ∷ 0x00 ∷ 0x00 ∷ 0x01 ∷ 0x00 ∷ 0x00 ∷ 0x30 ∷ []) ∷ [])
    -- N, version 2: of two frames of equal time the one with the shorter deadline has no response time
    ∷ case_2 0 (plain 5 (2 ∷ []) ∷ by_frame 10 0 (3 ∷ 3 ∷ []) (6 ∷ 4 ∷ []) ∷ [])
    (times (Missed 1 None) ((2 ∷ []) ∷ [] ∷ []) ∷ bytes (0x20 ∷ 0x40 ∷ 0x00 ∷ 0x00 ∷ 0x50 ∷ 0x00 ∷ 0x00 ∷ 0x10 ∷ 0x00 ∷ 0x02 ∷ 0x00 ∷ 0x00 ∷ 0x50 ∷ 0x00 ∷ 0x0A ∷ 0x00 ∷ 0x00 ∷ 0x02 ∷ 0x00 ∷ 0x00 ∷ 0x30 ∷ 0x00 ∷ 0x06 ∷ 0x00 ∷ 0x00 ∷ 0x30 ∷ 0x00 ∷ 0x04 ∷ []) ∷ [])
    -- O, version 2: the long frame of task 0 may be late by more than its short one, by whose deadline the task is ordered
    ∷ case_2 2 (by_frame 20 0 (4 ∷ 2 ∷ []) (10 ∷ 5 ∷ []) ∷ by_frame 12 3 (3 ∷ []) (7 ∷ []) ∷ [])
    (order (0 ∷ 1 ∷ []) ∷ times Holds ((6 ∷ 4 ∷ []) ∷ (7 ∷ []) ∷ []) ∷ text report_of_o ∷ [])
    -- with the smallest deadline for every frame O would miss
    ∷ case 2 (with_deadline 20 5 (4 ∷ 2 ∷ []) ∷ by_frame 12 3 (3 ∷ []) (7 ∷ []) ∷ []) (times (Missed 0 (Some 1)) ([] ∷ (7 ∷ []) ∷ []) ∷ [])
    -- no task; a deadline one above the period; a lock one above the largest frame
    ∷ case 0 [] (refused TaskCount ∷ [])
    ∷ case 0 (with_deadline 10 11 (3 ∷ []) ∷ []) (refused (IllFormed 0) ∷ [])
    ∷ case 0 (with_lock 10 4 (3 ∷ []) ∷ []) (refused (Lock 0) ∷ [])
    ∷ []
