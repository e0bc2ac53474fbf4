-- What we sign for: what an answer says of every run of the set, and what stands in the lent memory after the call.
use Rattle.std.specs.Prelude.{cond, List, ◌⊎◌, ◌≡◌, ℕ, ◌+◌, ◌*◌, ◌≤◌, ◌<◌, ltb, length, get_or, drop, Err, None, Ok, Option, Result, Some}
use Rattle.std.specs.Int.{w32, from_be_bytes}
use Rattle.bits.specs.Packed.{Bytes, bits_of}
use Rattle.check_word.specs.Change.{AgreeOutside}
use Rattle.check_word.specs.Division.{word_width}
use Rattle.theory.specs.Tasks.{Task, task_at, frame_count, deadline_of, Monotonic}
use Rattle.theory.specs.Tasks.{Admitted as IsAdmitted}
use Rattle.theory.specs.Reason.{IsReason}
use Rattle.theory.specs.Analysis.{IsResponse, demand_of, blocker}
use Rattle.theory.specs.Runs.{Run}
use Rattle.sheet.specs.Constants.{most_frames}
use Rattle.sheet.specs.Refusals.{number_of}
use Rattle.sheet.specs.declared.Reason.{Reason}
use Rattle.sheet.specs.declared.Refusal.{Refusal}
use Rattle.sheet.specs.declared.Refusal.TheVariants.{NotMonotonic, Room}
use Rattle.order.specs.Order.{priority_order, ordered_set}
use Rattle.analysis.specs.Times.{blocker_number}
use Rattle.analysis.specs.Runs.{RunOf, place, TaskMisses, TaskTakesLonger, TaskTakes}
use Rattle.analysis.specs.declared.Decision.{Decision}
use Rattle.analysis.specs.declared.Verdict.{Verdict}
use Rattle.analysis.specs.declared.Verdict.TheVariants.{Holds, Missed}

-- ---- what an answer says

-- The set holds; or this task misses, with this blocker; or the call is refused, by number.
pub data Said : Type 0 where
  holds : Said
  missed : (task : ℕ) (by : Option ℕ) → Said
  refused : (number : ℕ) → Said

-- what the outcome says
unfoldable pub said : Result Verdict Refusal → Said
said (Ok Holds) = holds
said (Ok (Missed i b)) = missed i b
said (Err why) = refused (number_of why)

-- the outcome of an answer that gives a decision
unfoldable pub outcome_told : Result Decision Refusal → Result Verdict Refusal
outcome_told (Ok decision) = Ok decision.verdict
outcome_told (Err why) = Err why

-- the count of tasks that it gives, 0 where the call is refused
unfoldable pub count_told : Result Decision Refusal → ℕ
count_told (Ok decision) = decision.task_count
count_told (Err why) = 0

-- how many tasks it speaks of: all n of them, or none where the call is refused
unfoldable pub count_said : ℕ → Said → ℕ
count_said n holds = n
count_said n (missed task by) = n
count_said n (refused number) = 0

-- ---- the lent times

-- times stand in lent memory as numbers, or in four bytes each
pub data Kept : Type 0 where
  in_numbers in_bytes : Kept

-- how many elements of the memory one slot takes
abbrev pub size : Kept → ℕ
size in_numbers = 1
size in_bytes = 4

-- the time in slot j of the memory; of four bytes the high byte stands first
unfoldable pub time_in : Kept → List ℕ → ℕ → ℕ
time_in in_numbers memory j = get_or memory j 0
time_in in_bytes memory j = from_be_bytes w32 (drop (4 * j) memory)

-- ---- demand 3, of tasks listed by number, under a policy

-- In no run does a job of any task miss its deadline.
unfoldable pub NoMiss : ℕ → List Task → Type 0
NoMiss policy tasks = (run : Run) → RunOf policy tasks run → (i r k : ℕ) → i < length tasks → ¬ TaskMisses policy tasks run i r k

-- In some run a job of task i misses its deadline.
unfoldable pub SomeMiss : ℕ → List Task → ℕ → Type 0
SomeMiss policy tasks i = (run : Run) × (r k : ℕ) × RunOf policy tasks run × TaskMisses policy tasks run i r k

-- t is the worst time of frame k of task i.
pub record WorstTime (policy : ℕ) (tasks : List Task) (i k t : ℕ) : Type 0 where
  -- it is at least 1, within the deadline, and the least solution of the completion-time equation
  pub least : IsResponse (demand_of (ordered_set policy tasks) (place policy tasks i) k) (deadline_of (task_at tasks i) k) t
  -- in no run does a job of that frame take longer
  pub never_longer : (run : Run) → RunOf policy tasks run → (r : ℕ) → ¬ TaskTakesLonger policy tasks run i r k t
  -- in some run a job of that frame takes exactly so long
  pub reached : (run : Run) × (r : ℕ) × RunOf policy tasks run × TaskTakes policy tasks run i r k t

-- Task i has its times: of its eight slots each one with a frame holds that frame's worst time, the others 0.
pub record Timed (policy : ℕ) (tasks : List Task) (time : ℕ → ℕ) (i : ℕ) : Type 0 where
  pub worst : (k : ℕ) → k < frame_count (task_at tasks i) → WorstTime policy tasks i k (time (most_frames * i + k))
  pub no_frame : (k : ℕ) → frame_count (task_at tasks i) ≤ k → k < most_frames → time (most_frames * i + k) ≡ 0

-- Task i has none: its eight slots hold 0, and it misses in some run.
pub record Untimed (policy : ℕ) (tasks : List Task) (time : ℕ → ℕ) (i : ℕ) : Type 0 where
  pub zeros : (k : ℕ) → k < most_frames → time (most_frames * i + k) ≡ 0
  pub misses : SomeMiss policy tasks i

-- Task p is named with blocker b: it is a task of the set and misses in some run, and b is its blocker by the definitions, a task of the set if any.
pub record Named (policy : ℕ) (tasks : List Task) (p : ℕ) (b : Option ℕ) : Type 0 where
  pub in_set : p < length tasks
  pub misses : SomeMiss policy tasks p
  pub blocked_by : b ≡ blocker_number (priority_order policy tasks) (blocker (ordered_set policy tasks) (place policy tasks p))
  pub blocker_in_set : (q : ℕ) → b ≡ Some q → q < length tasks

-- Each task has its times, or has none and misses in some run; every task above task p has them.
pub record TimesUpTo (policy : ℕ) (tasks : List Task) (time : ℕ → ℕ) (p : ℕ) : Type 0 where
  pub each_task : (i : ℕ) → i < length tasks → Timed policy tasks time i ⊎ Untimed policy tasks time i
  pub above : (i : ℕ) → i < length tasks → place policy tasks i < place policy tasks p → Timed policy tasks time i

-- The times of n tasks have room, and behind them the memory is as it was.
pub record Surplus (kept : Kept) (n : ℕ) (before after : List ℕ) : Type 0 where
  pub room : size kept * (most_frames * n) ≤ length before
  pub same_length : length after ≡ length before
  pub same_behind : drop (size kept * (most_frames * n)) after ≡ drop (size kept * (most_frames * n)) before

-- What we sign for each answer to the tasks: of the runs, and of the lent memory before and after the call. Tasks that are analysed are
-- admitted: one or more, each well formed, with a frame, its lock in order, monotonic.
unfoldable pub Signed : (policy : ℕ) (tasks : List Task) (kept : Kept) (before after : List ℕ) → Said → Type 0
Signed policy tasks kept before after holds =
    NoMiss policy tasks
    × ((i : ℕ) → i < length tasks → Timed policy tasks (time_in kept after) i)
    × Surplus kept (length tasks) before after
    × IsAdmitted tasks
Signed policy tasks kept before after (missed p b) =
    Named policy tasks p b
    × TimesUpTo policy tasks (time_in kept after) p
    × Surplus kept (length tasks) before after
    × IsAdmitted tasks
Signed policy tasks kept before after (refused number) = (1 ≤ number) × (number ≤ 12) × (after ≡ before)

-- ---- demand 1

-- The one refusal of a call: that of its input, or else 12 where the lent memory has fewer elements than are needed, or else none.
unfoldable pub refusal_to : {T : Type 0} → Result T Refusal → (needs has : ℕ) → Option Refusal
refusal_to (Err why) needs has = Some why
refusal_to (Ok _) needs has = cond (ltb has needs) (Some Room) None

-- What refusal 11 says: task i is a task of the set, none of its frames qualifies as start, and these numbers are the reason (there is one where there
-- is a frame, as 7 has looked).
pub record NoStart (tasks : List Task) (i : ℕ) (why : Reason) : Type 0 where
  pub in_set : i < length tasks
  pub none_qualifies : ¬ Monotonic (task_at tasks i)
  pub reason : 1 ≤ frame_count (task_at tasks i) → IsReason (task_at tasks i) why.frame why.length why.other

-- An outcome that refuses with 11 says so of the tasks.
unfoldable pub Explained : List Task → Result Verdict Refusal → Type 0
Explained tasks outcome = (i : ℕ) (why : Reason) → outcome ≡ Err (NotMonotonic i why) → NoStart tasks i why

-- What we sign for an outcome: of the runs and of the lent memory by what it says, and of refusal 11 why.
unfoldable pub OutcomeSigned : (policy : ℕ) (tasks : List Task) (kept : Kept) (before after : List ℕ) → Result Verdict Refusal → Type 0
OutcomeSigned policy tasks kept before after outcome = Signed policy tasks kept before after (said outcome) × Explained tasks outcome

-- Byte string t is s changed within sixteen neighbouring bits, as many as the check word has.
pub record Damaged (s t : List ℕ) : Type 0 where
  pub bytes_before : Bytes s
  pub bytes_after : Bytes t
  pub same_length : length s ≡ length t
  pub from : ℕ
  pub elsewhere_same : AgreeOutside from word_width (bits_of s) (bits_of t)
  pub changed : ¬ (s ≡ t)
