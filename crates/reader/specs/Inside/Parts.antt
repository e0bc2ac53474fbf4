-- What the reader's parts answer, each over the bits that it looks at.
use Rattle.std.specs.Prelude.{Bool, true, false, not, ◌&&◌, cond, List, [], ◌∷◌, ℕ, ◌+◌, ◌*◌, nat_le, nat_lt, ◌==◌, length, get_or, replicate, Err, Ok, Result}
use Rattle.bits.specs.Packed.{bits_of}
use Rattle.check_word.specs.Division.{body, sealed}
use Rattle.sheet.specs.Constants.{most_frames, least_size, greatest_size}
use Rattle.records.specs.Rows.{total}
use Rattle.records.specs.Faces.{row_has_slots, taken_row}
use Rattle.sheet.specs.Fields.{own_deadlines, fixed_widths, deadline_field}
use Rattle.sheet.specs.Tasks.{record_of, set_with}
use Rattle.sheet.specs.Layout.{header_in, behind_header, frame_count_in, record_width, task_at_start, tasks_in}
use Rattle.lent.specs.Checks.{Check, ◌⇒◌}
use Rattle.sheet.specs.Admission.{decided, policy_check, task_count_check, frame_count_check}
use Rattle.sheet.specs.Reading.{layout_checks, version_among, reading_of}
use Rattle.sheet.specs.declared.Reading.{Reading}
use Rattle.sheet.specs.declared.Refusal.{Refusal}
use Rattle.sheet.specs.declared.Refusal.TheVariants.{Length, CheckWord, Version, BitSet, Records}
use Rattle.sheet.specs.declared.TaskSet.{TaskSet}
use Rattle.reader.specs.declared.Found.{Found}
use Rattle.reader.specs.declared.Row.{Row}

-- the numbers of a row of fields from a position on, in n slots, and where it ends; 8 where the fields are not there
unfoldable pub row_at : (n : ℕ) → List ℕ → ℕ → List ℕ → Result (Row n) Refusal
row_at n s at ws =
    cond (row_has_slots (length s) at ws n) (Ok (record { numbers = taken_row s at ws (replicate n 0); end = at + total ws })) (Err Records)

-- how many slots there are for the numbers of frames
abbrev pub frame_slots : ℕ
frame_slots = 2 * most_frames

-- the deadline of frame k by the numbers of a record
unfoldable pub deadline_in : Bool → List ℕ → List ℕ → ℕ → ℕ
deadline_in false fixed row k = get_or fixed deadline_field 0
deadline_in true fixed row k = get_or row (2 * k + 1) 0

-- the checks of one record, that of task i, at the start of the bits
unfoldable pub record_checks : Bool → ℕ → List Bool → List (Check Refusal)
record_checks own i bits =
    (nat_lt (length bits) (total (fixed_widths own)) ⇒ Records)
    ∷ frame_count_check i (frame_count_in own bits)
    ∷ (nat_lt (length bits) (record_width own bits) ⇒ Records)
    ∷ []

-- the record where its checks admit it
unfoldable pub found_by : Bool → Result Unit Refusal → ℕ → List Bool → Result Found Refusal
found_by own (Ok _) at bits = Ok (record { task = record_of (task_at_start own bits); next = at + record_width own bits })
found_by own (Err why) at bits = Err why

-- the record at the start of the bits, which themselves start at a bit position
unfoldable pub found_at : Bool → ℕ → ℕ → List Bool → Result Found Refusal
found_at own i at bits = found_by own (decided (record_checks own i bits)) at bits

-- a version, a policy and the n tasks whose records stand at the start of the bits
unfoldable pub records_reading : (version policy n : ℕ) → List Bool → Result Reading Refusal
records_reading version policy n bits =
    reading_of (decided (layout_checks (own_deadlines version) 0 n bits)) version (set_with policy (tasks_in (own_deadlines version) n bits))

-- the checks of the bytes before the check word: header, then task by task
unfoldable pub body_checks : (least most : ℕ) → List Bool → List (Check Refusal)
body_checks least most bits =
    let header = header_in bits in
    (not (version_among least most header.version) ⇒ Version)
    ∷ policy_check header.policy
    ∷ (not (header.spare == 0) ⇒ BitSet)
    ∷ task_count_check header.task_count
    ∷ layout_checks (own_deadlines header.version) 0 header.task_count (behind_header bits)

-- the set that the bytes before the check word carry
unfoldable pub set_in : List Bool → TaskSet
set_in bits =
    let header = header_in bits in
    set_with header.policy (tasks_in (own_deadlines header.version) header.task_count (behind_header bits))

-- what the bytes before the check word are read as
unfoldable pub body_reading : (least most : ℕ) → List Bool → Result Reading Refusal
body_reading least most bits = reading_of (decided (body_checks least most bits)) (header_in bits).version (set_in bits)

-- all checks of a byte string but those of the tasks themselves
unfoldable pub bytes_checks : (least most : ℕ) → List ℕ → List (Check Refusal)
bytes_checks least most s =
    (not (nat_le least_size (length s) && nat_le (length s) greatest_size) ⇒ Length)
    ∷ (not (sealed s) ⇒ CheckWord)
    ∷ body_checks least most (bits_of (body s))

-- what it is read as by these
unfoldable pub bytes_reading : (least most : ℕ) → List ℕ → Result Reading Refusal
bytes_reading least most s =
    let bits = bits_of (body s) in
    reading_of (decided (bytes_checks least most s)) (header_in bits).version (set_in bits)
