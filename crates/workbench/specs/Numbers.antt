-- The numbers that C gets from every entry but `burrbeech_check_sheet`: in the low eight bits 0 or the refusal's number, above them the detail.
use Rattle.std.specs.Prelude.{ℕ, ◌+◌, ◌*◌, Err, None, Ok, Option, Result, Some}
use Rattle.sheet.specs.Constants.{most_tasks}
use Rattle.sheet.specs.Refusals.{number_of, task_of_refusal, reason_of_refusal}
use Rattle.sheet.specs.declared.Reason.{Reason}
use Rattle.sheet.specs.declared.Refusal.{Refusal}
use Rattle.analysis.specs.Answers.{blocker_code, blockers}
use Rattle.analysis.specs.declared.Decision.{Decision}
use Rattle.analysis.specs.declared.Verdict.{Verdict}
use Rattle.analysis.specs.declared.Verdict.TheVariants.{Holds, Missed}
use Rattle.lists.specs.declared.ListRead.{ListRead}
use Rattle.player.specs.Refusals.{play_number_of}
use Rattle.player.specs.declared.PlayRefusal.{PlayRefusal}
use Rattle.player.specs.declared.PlayRefusal.TheVariants.{Base, Malformed, Item}
use Rattle.player.specs.declared.Played.{Played}
use Rattle.player.specs.declared.Played.TheVariants.{Done}
use Rattle.player.specs.declared.Played.TheVariants.{Missed as missed}

-- how many numbers eight bits hold, and sixteen, and thirty-two
abbrev pub byte : ℕ
byte = 256

abbrev pub two_bytes : ℕ
two_bytes = byte * byte

abbrev pub four_bytes : ℕ
four_bytes = two_bytes * two_bytes

-- no refusal, and this detail
abbrev pub with_detail : ℕ → ℕ
with_detail detail = byte * detail

-- the number of an answer, by the detail of what is answered and the number of a refusal
abbrev pub answer_number : {T E : Type 0} → (T → ℕ) → (E → ℕ) → Result T E → ℕ
answer_number detail refused (Ok told) = with_detail (detail told)
answer_number detail refused (Err why) = refused why

-- ---- refusals

-- a reason, in eight bits each: the frame, above it the length, above it the other frame
abbrev pub reason_number : Reason → ℕ
reason_number why = why.frame + byte * (why.length + byte * why.other)

-- a refusal: its number, above it the task that it names, above it the reason that it gives
abbrev pub refused_number : Refusal → ℕ
refused_number r = number_of r + byte * (task_of_refusal r + byte * reason_number (reason_of_refusal r))

-- why there is no play: a refusal of the sheet's or for want of room, the script's form, or an item, above it which
abbrev pub play_refused_number : PlayRefusal → ℕ
play_refused_number (Base r) = refused_number r
play_refused_number Malformed = play_number_of Malformed
play_refused_number (Item j) = play_number_of (Item j) + byte * j

-- ---- details

-- the task count that was read, above it the policy, above it the version
abbrev pub read_detail : ListRead → ℕ
read_detail read = read.task_count + byte * (read.policy + byte * read.version)

-- the bytes written
abbrev pub written_detail : ℕ → ℕ
written_detail n = n

-- 0 for a set that holds, 1 + 17p + b for a miss of task p with blocker b
abbrev pub verdict_detail : Verdict → ℕ
verdict_detail Holds = 0
verdict_detail (Missed p b) = 1 + blockers * p + blocker_code b

-- that, above it the task count
abbrev pub decision_detail : Decision → ℕ
decision_detail d = verdict_detail d.verdict + two_bytes * d.task_count

-- how a play ends: the moment in thirty-two bits, above it the task that misses, or the number behind the last task's where all jobs are done
abbrev pub played_detail : Played → ℕ
played_detail (missed tick task) = tick + four_bytes * task
played_detail (Done tick) = tick + four_bytes * most_tasks

-- 0 for a set that holds, else the bytes written
abbrev pub worst_detail : Option ℕ → ℕ
worst_detail None = 0
worst_detail (Some n) = n

-- ---- the number of each answer

abbrev pub read_number : Result ListRead Refusal → ℕ
read_number = answer_number read_detail refused_number

abbrev pub written_number : Result ℕ Refusal → ℕ
written_number = answer_number written_detail refused_number

abbrev pub decision_number : Result Decision Refusal → ℕ
decision_number = answer_number decision_detail refused_number

abbrev pub played_number : Result Played PlayRefusal → ℕ
played_number = answer_number played_detail play_refused_number

abbrev pub worst_number : Result (Option ℕ) Refusal → ℕ
worst_number = answer_number worst_detail refused_number
