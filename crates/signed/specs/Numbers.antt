-- What the numbers say that C gets: the answer, computed from the number alone.
use Rattle.std.specs.Prelude.{cond, [], ◌∷◌, ℕ, ◌+◌, ◌-◌, ◌*◌, ◌/◌, ◌%◌, ◌≤◌, ◌<◌, ltb, eqb, get_or, Err, None, Ok, Option, Result, Some}
use Rattle.sheet.specs.declared.Reason.{Reason}
use Rattle.sheet.specs.declared.Refusal.{Refusal}
use Rattle.sheet.specs.declared.Refusal.TheVariants.{Length, CheckWord, Version, Policy, BitSet, TaskCount, FrameCount, Records, IllFormed, Lock, NotMonotonic, Room, Deadlines}
use Rattle.analysis.specs.Answers.{misses_from, blockers}
use Rattle.analysis.specs.declared.Verdict.{Verdict}
use Rattle.analysis.specs.declared.Verdict.TheVariants.{Holds, Missed}
use Rattle.analysis.specs.declared.Decision.{Decision}
use Rattle.lists.specs.declared.ListRead.{ListRead}
use Rattle.player.specs.declared.PlayRefusal.{PlayRefusal}
use Rattle.player.specs.declared.PlayRefusal.TheVariants.{Base, Malformed, Item}
use Rattle.player.specs.declared.Played.{Played}
use Rattle.player.specs.declared.Played.TheVariants.{Done}
use Rattle.player.specs.declared.Played.TheVariants.{Missed as first_missed}
use Rattle.signed.specs.Claims.{Said, holds, missed, refused}

-- 16 stands for no blocker
unfoldable pub blocker_by : ℕ → Option ℕ
blocker_by b = cond (eqb b 16) None (Some b)

-- `burrbeech_check_sheet`: 0 for holds, below 100 a refusal, else 100 + 17p + b
unfoldable pub said_by : ℕ → Said
said_by c = cond (eqb c 0) holds (cond (ltb c misses_from) (refused c) (missed ((c - misses_from) / blockers) (blocker_by ((c - misses_from) % blockers))))

-- the numbers that `burrbeech_check_sheet` gives for n tasks
pub data IsNumber (n : ℕ) : ℕ → Type 0 where
  it_holds : IsNumber n 0
  it_refuses : (c : ℕ) → 1 ≤ c → c ≤ 12 → IsNumber n c
  task_misses : (p b : ℕ) → p < n → b < n → IsNumber n (100 + 17 * p + b)
  task_misses_alone : (p : ℕ) → p < n → IsNumber n (100 + 17 * p + 16)

-- the refusal with the number 17 or one from 1 to 12, of task i where it has one, for this reason where it gives one
unfoldable pub refusal_by : ℕ → ℕ → Reason → Refusal
refusal_by number i why =
    cond (eqb number 17) Deadlines
    (get_or
    (Length ∷ CheckWord ∷ Version ∷ Policy ∷ BitSet ∷ TaskCount ∷ FrameCount i ∷ Records ∷ IllFormed i ∷ Lock i ∷ NotMonotonic i why ∷ Room ∷ [])
    (number - 1) Room)

-- the reason in three times eight bits: the frame, the length, the other frame
unfoldable pub reason_by : ℕ → Reason
reason_by c = record { frame = c % 256; length = c / 256 % 256; other = c / 65536 % 256 }

-- every entry but `burrbeech_check_sheet`: the refusal's number or 0 in the low eight bits, and above them the detail; of a refusal the task in the next
-- eight, and the reason above it
unfoldable pub refused_by : ℕ → Refusal
refused_by c = let detail = c / 256 in refusal_by (c % 256) (detail % 256) (reason_by (detail / 256))

-- the answer of a number: what its detail tells where it has no refusal
unfoldable pub answer_by : {T E : Type 0} → (ℕ → T) → (ℕ → E) → ℕ → Result T E
answer_by told why c = cond (eqb (c % 256) 0) (Ok (told (c / 256))) (Err (why c))

-- `burrbeech_read_list`: the task count in eight bits of the detail, the policy in the next eight, the version in the next
unfoldable pub listed_by : ℕ → ListRead
listed_by detail = record { version = detail / 65536 % 256; policy = detail / 256 % 256; task_count = detail % 256 }

unfoldable pub list_read_by : ℕ → Result ListRead Refusal
list_read_by = answer_by listed_by refused_by

-- `burrbeech_write_list`, `burrbeech_convert` and `burrbeech_report`: the bytes written
unfoldable pub written_by : ℕ → Result ℕ Refusal
written_by = answer_by (λ n. n) refused_by

-- `burrbeech_analyse_sheet` and `burrbeech_analyse_list`: in sixteen bits 0 for holds or 1 + 17p + b, in the next eight the task count
unfoldable pub verdict_by : ℕ → Verdict
verdict_by m = cond (eqb m 0) Holds (Missed ((m - 1) / 17) (blocker_by ((m - 1) % 17)))

unfoldable pub analysed_by : ℕ → Decision
analysed_by detail = record { verdict = verdict_by (detail % 65536); task_count = detail / 65536 % 256 }

unfoldable pub decision_by : ℕ → Result Decision Refusal
decision_by = answer_by analysed_by refused_by

-- `burrbeech_play` and `burrbeech_trace`: the tick in thirty-two bits of the detail, in the next eight the task that misses, 16 where all jobs are done
unfoldable pub ended_by : ℕ → Played
ended_by detail =
    let tick = detail % 4294967296 in
    let task = detail / 4294967296 % 256 in
    cond (eqb task 16) (Done tick) (first_missed tick task)

-- beside the refusals of every entry 13, and 14 with the item as its detail
unfoldable pub play_refused_by : ℕ → PlayRefusal
play_refused_by c = cond (eqb (c % 256) 13) Malformed (cond (eqb (c % 256) 14) (Item (c / 256)) (Base (refused_by c)))

unfoldable pub played_by : ℕ → Result Played PlayRefusal
played_by = answer_by ended_by play_refused_by

-- `burrbeech_worst_run`: the bytes written, 0 where the set holds
unfoldable pub script_by : ℕ → Option ℕ
script_by detail = cond (eqb detail 0) None (Some detail)

unfoldable pub worst_by : ℕ → Result (Option ℕ) Refusal
worst_by = answer_by script_by refused_by
