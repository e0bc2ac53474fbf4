-- What we sign for the worst run written: what the answer says of the set, and what the bytes are.
use Rattle.std.specs.Prelude.{List, ◌↔◌, ◌≡◌, ℕ, suc, ◌≤◌, ◌<◌, length, take, drop, Err, None, Ok, Option, Result, Some, IsOk}
use Rattle.lent.specs.Lent.{refusal_of}
use Rattle.theory.specs.Tasks.{Task, task_at, deadline_of}
use Rattle.theory.specs.Analysis.{FirstWithout, blocker, holds, missed, verdict}
use Rattle.theory.specs.WorstRun.{worst_run}
use Rattle.sheet.specs.Reading.{policy_of, tasks_of, reading}
use Rattle.sheet.specs.declared.Refusal.{Refusal}
use Rattle.sheet.specs.declared.Refusal.TheVariants.{Room}
use Rattle.order.specs.Order.{ordered_set}
use Rattle.analysis.specs.Times.{number_at}
use Rattle.analysis.specs.Misses.{miss_in}
use Rattle.plays.specs.ScriptRun.{script_run}
use Rattle.plays.specs.WorstScript.{SameRun}
use Rattle.player.specs.Answers.{order_in, script_for, played}
use Rattle.player.specs.declared.Played.TheVariants.{Missed}
use Rattle.worst.specs.Writing.{worst_bytes, worst_writing}

-- the tasks of a sheet by place of the priority order
abbrev pub set_of : List ℕ → List Task
set_of sheet = ordered_set (policy_of sheet) (tasks_of sheet)

-- the script to be written for a sheet: that of its worst run, no byte where its set holds
abbrev pub script_due : List ℕ → List ℕ
script_due sheet = worst_bytes (policy_of sheet) (tasks_of sheet) (miss_in (set_of sheet))

-- The bytes show the miss of a sheet.
pub record ShowsMiss (sheet bytes : List ℕ) : Type 0 where
  -- the place that the verdict names, and the first frame of its task without a response time
  pub place : ℕ
  pub frame : ℕ
  pub named : verdict (set_of sheet) ≡ missed place (blocker (set_of sheet) place)
  pub first : FirstWithout (set_of sheet) place frame
  -- the run of the script in the bytes is the worst run of that frame, up to its deadline
  pub is_worst : let D = deadline_of (task_at (set_of sheet) place) frame in
      SameRun (suc D) (set_of sheet) (script_run (order_in sheet) (tasks_of sheet) (script_for sheet bytes) (suc D)) (worst_run (set_of sheet) place frame)
  -- nothing of it is turned away, and its play ends with the miss of that task, at 1 + D
  pub plays : played sheet bytes ≡ Ok (Missed (suc (deadline_of (task_at (set_of sheet) place) frame)) (number_at (order_in sheet) place))

-- how many bytes an answer says were written
unfoldable pub bytes_said : Result (Option ℕ) Refusal → ℕ
bytes_said (Ok None) = 0
bytes_said (Ok (Some n)) = n
bytes_said (Err why) = 0

-- What we sign for an answer, and for the lent bytes before and after.
pub record WorstSigned (sheet before : List ℕ) (answer : Result (Option ℕ) Refusal) (after : List ℕ) : Type 0 where
  -- it is a refusal exactly where that is the first of the order: the sheet's own, last 12
  pub turned : (why : Refusal) → (answer ≡ Err why) ↔ (refusal_of Room (worst_writing sheet) before ≡ Some why)
  -- it is one of the sheet's own exactly where the sheet gets it, whatever the room
  pub own : (why : Refusal) → ((answer ≡ Err why) × ¬ (why ≡ Room)) ↔ (reading sheet ≡ Err why)
  -- it is 12 exactly where the sheet is admitted and the lent bytes are fewer than those of the script; so never where the set holds
  pub no_room : (answer ≡ Err Room) ↔ (IsOk (reading sheet) × (length before < length (script_due sheet)))
  -- it is that the set holds exactly where the sheet is admitted and its set does, whatever the room
  pub set_holds : (answer ≡ Ok None) ↔ (IsOk (reading sheet) × (verdict (set_of sheet) ≡ holds))
  -- it is that n bytes were written exactly where the sheet is admitted, its set does not hold, and the script has n bytes, which have room
  pub written : (n : ℕ) → (answer ≡ Ok (Some n))
      ↔ (IsOk (reading sheet) × ¬ (verdict (set_of sheet) ≡ holds) × (length (script_due sheet) ≡ n) × (n ≤ length before))
  -- the bytes written are that script, and show the miss
  pub shows : (n : ℕ) → answer ≡ Ok (Some n) → (take n after ≡ script_due sheet) × ShowsMiss sheet (take n after)
  -- unless bytes are written all of them are as they were, and else those behind
  pub unchanged : ((n : ℕ) → ¬ (answer ≡ Ok (Some n))) → after ≡ before
  pub same_length : length after ≡ length before
  pub same_behind : drop (bytes_said answer) after ≡ drop (bytes_said answer) before
