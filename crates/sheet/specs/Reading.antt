-- What the reader answers to a byte string.
use Rattle.std.specs.Prelude.{ℕ, zero, suc, Bool, not, ◌&&◌, leb, List, [], ◌∷◌, ◌++◌, length, drop, ◌==◌, nat_le, nat_lt, Err, Ok, Result}
use Rattle.bits.specs.Packed.{bits_of}
use Rattle.check_word.specs.Division.{body, sealed}
use Rattle.theory.specs.Tasks.{Task}
use Rattle.sheet.specs.Constants.{version_1, version_2, least_size, greatest_size}
use Rattle.records.specs.Rows.{total}
use Rattle.records.specs.Sealed.{byte_width, some_set}
use Rattle.sheet.specs.Fields.{own_deadlines, fixed_widths}
use Rattle.sheet.specs.Tasks.{set_with}
use Rattle.sheet.specs.Layout.{header_in, behind_header, frame_count_in, record_width, tasks_in}
use Rattle.lent.specs.Checks.{Check, ◌⇒◌}
use Rattle.sheet.specs.Admission.{decided, policy_check, task_count_check, frame_count_check, task_checks}
use Rattle.sheet.specs.declared.Reading.{Reading}
use Rattle.sheet.specs.declared.TaskSet.{TaskSet}
use Rattle.sheet.specs.declared.Refusal.{Refusal}
use Rattle.sheet.specs.declared.Refusal.TheVariants.{Length, CheckWord, Version, BitSet, Records}

-- Of n records that are still to come, the first of them of task i: 8 if its fixed part is not all there, 7, 8 if its frames are not; behind
-- the last record 8 for eight or more bits left, 5 for a fill bit.
unfoldable pub layout_checks : Bool → ℕ → ℕ → List Bool → List (Check Refusal)
layout_checks own i zero bits = (leb byte_width (length bits) ⇒ Records) ∷ (some_set bits ⇒ BitSet) ∷ []
layout_checks own i (suc n) bits =
    (nat_lt (length bits) (total (fixed_widths own)) ⇒ Records)
    ∷ frame_count_check i (frame_count_in own bits)
    ∷ (nat_lt (length bits) (record_width own bits) ⇒ Records)
    ∷ layout_checks own (suc i) n (drop (record_width own bits) bits)

-- a version lies in a row of versions
abbrev pub version_among : (least most version : ℕ) → Bool
version_among least most version = nat_le least version && nat_le version most

-- the order for a sheet of the versions `least` to `most`: 1, 2, 3, 4, 5 for spare bits, 6, then its layout task by task, then task by task 9, 10, 11
unfoldable pub checks_among : (least most : ℕ) → List ℕ → List (Check Refusal)
checks_among least most s =
    let bits = bits_of (body s) in
    let header = header_in bits in
    let own = own_deadlines header.version in
    (not (nat_le least_size (length s) && nat_le (length s) greatest_size) ⇒ Length)
    ∷ (not (sealed s) ⇒ CheckWord)
    ∷ (not (version_among least most header.version) ⇒ Version)
    ∷ policy_check header.policy
    ∷ (not (header.spare == 0) ⇒ BitSet)
    ∷ task_count_check header.task_count
    ∷ layout_checks own 0 header.task_count (behind_header bits)
    ++ task_checks 0 (tasks_in own header.task_count (behind_header bits))

-- a sheet of either version
unfoldable pub sheet_checks : List ℕ → List (Check Refusal)
sheet_checks s = checks_among version_1 version_2 s

-- what an admitted sheet carries
unfoldable pub version_of : List ℕ → ℕ
version_of s = (header_in (bits_of (body s))).version

unfoldable pub policy_of : List ℕ → ℕ
policy_of s = (header_in (bits_of (body s))).policy

unfoldable pub tasks_of : List ℕ → List Task
tasks_of s = let bits = bits_of (body s) in tasks_in (own_deadlines (version_of s)) (header_in bits).task_count (behind_header bits)

-- a version and a set by the answer to them
unfoldable pub reading_of : Result Unit Refusal → ℕ → TaskSet → Result Reading Refusal
reading_of (Ok _) version s = Ok (record { version = version; set = s })
reading_of (Err why) version s = Err why

-- what a byte string is read as by a reader of the versions `least` to `most`
unfoldable pub reading_among : (least most : ℕ) → List ℕ → Result Reading Refusal
reading_among least most s = reading_of (decided (checks_among least most s)) (version_of s) (set_with (policy_of s) (tasks_of s))

-- and by one of either version
unfoldable pub reading : List ℕ → Result Reading Refusal
reading s = reading_among version_1 version_2 s
