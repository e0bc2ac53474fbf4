-- What the writer answers to a set, and what it leaves in the lent bytes.
use Rattle.std.specs.Prelude.{ℕ, Bool, true, false, not, ◌&&◌, ◌||◌, List, [], ◌∷◌, ◌++◌, map, length, nat_eq, Result}
use Rattle.records.specs.Rows.{packed}
use Rattle.records.specs.Sealed.{sealed_record}
use Rattle.theory.specs.Tasks.{Task, deadline_of}
use Rattle.sheet.specs.Constants.{version_1, version_2}
use Rattle.sheet.specs.Fields.{header_widths, own_deadlines, fixed_widths, frame_widths}
use Rattle.sheet.specs.Tasks.{task_in, records_of}
use Rattle.lent.specs.Checks.{Check, ◌⇒◌}
use Rattle.lent.specs.Lent.{Call, answered, left_after}
use Rattle.sheet.specs.Admission.{all, list_checks}
use Rattle.sheet.specs.Reading.{version_among}
use Rattle.sheet.specs.declared.Task.{Task as Record}
use Rattle.sheet.specs.declared.TaskSet.{TaskSet}
use Rattle.sheet.specs.declared.Refusal.{Refusal}
use Rattle.sheet.specs.declared.Refusal.TheVariants.{Version, Room, Deadlines}

-- the header, with no spare bit set
unfoldable pub header_bits : (version policy n : ℕ) → List Bool
header_bits version policy n = packed header_widths (version ∷ policy ∷ n ∷ 0 ∷ [])

-- the numbers of a record's fixed part, where every frame has the deadline of the first; and where each has its own
unfoldable pub fixed_numbers : Bool → Task → List ℕ
fixed_numbers false t = t.period ∷ deadline_of t 0 ∷ t.lock ∷ length t.frames ∷ []
fixed_numbers true t = t.period ∷ t.lock ∷ length t.frames ∷ []

-- the numbers of two lists by turns
unfoldable pub by_turns : List ℕ → List ℕ → List ℕ
by_turns [] ds = []
by_turns (c ∷ cs) [] = []
by_turns (c ∷ cs) (d ∷ ds) = c ∷ d ∷ by_turns cs ds

-- the numbers of its frames: the times; and times and deadlines by turns
unfoldable pub frame_numbers : Bool → Task → List ℕ
frame_numbers false t = t.frames
frame_numbers true t = by_turns t.frames t.deadlines

-- one task record: the fixed part, and the frames behind it
unfoldable pub task_bits : Bool → Task → List Bool
task_bits own t = packed (fixed_widths own) (fixed_numbers own t) ++ packed (frame_widths own (length t.frames)) (frame_numbers own t)

-- task records one behind the other
unfoldable pub tasks_bits : Bool → List Task → List Bool
tasks_bits own [] = []
tasks_bits own (t ∷ ts) = task_bits own t ++ tasks_bits own ts

-- the sheet of a policy and tasks: header, task records, fill, check word
unfoldable pub sheet_of : (version policy : ℕ) → List Task → List ℕ
sheet_of version policy tasks = sealed_record (header_bits version policy (length tasks) ++ tasks_bits (own_deadlines version) tasks)

-- the sheet of a set by value
unfoldable pub sheet_bytes : ℕ → TaskSet → List ℕ
sheet_bytes version s = sheet_of version s.policy (map task_in (records_of s))

-- ---- what the writer turns away

-- 3: the version that the writer is told is neither
unfoldable pub version_check : ℕ → Check Refusal
version_check version = not (version_among version_1 version_2 version) ⇒ Version

-- all frames of a task have the same deadline
unfoldable pub one_deadline : Task → Bool
one_deadline t = all (λ d. nat_eq d (deadline_of t 0)) t.deadlines

unfoldable pub one_deadline_each : List Task → Bool
one_deadline_each [] = true
one_deadline_each (t ∷ ts) = one_deadline t && one_deadline_each ts

-- 17: version 1 cannot hold the tasks
unfoldable pub deadlines_check : ℕ → List Task → Check Refusal
deadlines_check version tasks = not (own_deadlines version || one_deadline_each tasks) ⇒ Deadlines

-- the order for a list that is written: 3 first, 17 behind the list's own
unfoldable pub writing_checks : (version policy n : ℕ) → List Record → List (Check Refusal)
writing_checks version policy n records =
    version_check version ∷ list_checks policy n records ++ deadlines_check version (map task_in records) ∷ []

-- writing a set: these refusals, its sheet as what is written, the count of its bytes as the answer
unfoldable pub writing : ℕ → TaskSet → Call Refusal ℕ ℕ
writing version s =
    record {
      checks = writing_checks version s.policy s.task_count (records_of s);
      writes = sheet_bytes version s;
      says = length (sheet_bytes version s);
    }

-- what the writer answers for a lent room, and what the room holds afterwards
unfoldable pub written : ℕ → TaskSet → List ℕ → Result ℕ Refusal
written version s room = answered Room (writing version s) room

unfoldable pub left : ℕ → TaskSet → List ℕ → List ℕ
left version s room = left_after Room (writing version s) room
