-- Sheets and lists worked by hand, computed from the definitions.
use Rattle.std.specs.Prelude.{◌≡◌, ℕ, true, false, List, [], ◌∷◌, ◌++◌, map, length, replicate, refl, Err, Ok, Result}
use Rattle.std.proofs.Math.Bool.{xor}
use Rattle.bits.specs.Packed.{value, digits, bits_of, bytes_of}
use Rattle.check_word.specs.Division.{added, polynomial, divided, remainder, started, check_word, seal, body, sealed}
use Rattle.lent.specs.Checks.{first_refusal}
use Rattle.theory.specs.First.{first, every, found}
use Rattle.theory.specs.Tasks.{Task, frame_count, frame, deadline_of, work, largest, largest_frame, qualifies, start_frame}
use Rattle.theory.specs.Reason.{exceeds, exceeding, exceeded, exceeded_length, exceeding_frame}
use Rattle.sheet.specs.Constants.{most_tasks, most_frames, greatest_time}
use Rattle.records.specs.Rows.{packed, unpacked, total}
use Rattle.records.specs.Sealed.{whole_bytes, sealed_record, some_set}
use Rattle.sheet.specs.Tasks.{in_slots, record_of, task_in, set_with, records_of}
use Rattle.sheet.specs.Layout.{header_in, behind_header, frame_count_in, record_width, firsts, seconds, task_from, task_at_start, tasks_in}
use Rattle.sheet.specs.Admission.{decided, known_policy, all, is_time, in_range, none_above, well_formed, lock_fits, monotonic, reason_of, policy_check, task_count_check, frame_count_check, task_checks, frame_count_checks, list_checks, admission}
use Rattle.sheet.specs.Reading.{layout_checks, checks_among, version_of, policy_of, tasks_of, reading_of, reading_among, reading}
use Rattle.sheet.specs.Writing.{header_bits, fixed_numbers, by_turns, frame_numbers, task_bits, tasks_bits, sheet_of, one_deadline, one_deadline_each, version_check, deadlines_check, writing_checks}
use Rattle.sheet.specs.declared.Refusal.TheVariants.{Version, FrameCount, NotMonotonic, Deadlines}
use Rattle.sheet.specs.declared.Refusal.{Refusal}

-- one deadline for all frames
abbrev pub with_one : (T D Q : ℕ) → List ℕ → Task
with_one T D Q frames = record { period = T; lock = Q; frames = frames; deadlines = map (λ c. D) frames }

-- D = T and Q = 0
abbrev pub plain : ℕ → List ℕ → Task
plain T frames = with_one T T 0 frames

-- the answer to tasks under policy 0
pub answer_to : List Task → Result Unit Refusal
answer_to tasks = admission (set_with 0 tasks)

-- what an example opens in order to compute
tasks : Unit {0}
unfolding first every found frame_count frame deadline_of work largest qualifies start_frame all is_time in_range none_above well_formed lock_fits monotonic largest_frame exceeds exceeding exceeded exceeded_length exceeding_frame reason_of task_checks decided first_refusal known_policy policy_check task_count_check frame_count_check
tasks = tt

lists : Unit {0}
unfolding tasks answer_to admission list_checks frame_count_checks records_of set_with record_of in_slots task_in
lists = tt

sheets : Unit {0}
unfolding tasks reading reading_among reading_of checks_among layout_checks version_of policy_of tasks_of tasks_in task_at_start task_from firsts seconds record_width frame_count_in behind_header header_in some_set sheet_of sealed_record whole_bytes header_bits tasks_bits task_bits fixed_numbers frame_numbers by_turns one_deadline one_deadline_each version_check deadlines_check writing_checks packed unpacked total sealed seal body check_word remainder divided started added polynomial xor bytes_of bits_of digits value
sheets = tt

-- ---- worked by hand

-- a task of two frames, read as it was written
abbrev small : List Task
small = with_one 6 5 1 (2 ∷ 1 ∷ []) ∷ []

pub reading_of_small : reading (sheet_of 1 1 small) ≡ Ok (record { version = 1; set = set_with 1 small })
unfolding sheets
reading_of_small = refl

-- frames that grow have no start: 11 of a sheet, too, and why
pub reading_of_growing : reading (sheet_of 1 0 (plain 6 (1 ∷ 2 ∷ []) ∷ plain 9 (1 ∷ 2 ∷ 3 ∷ []) ∷ []))
    ≡ Err (NotMonotonic 1 (record { frame = 2; length = 2; other = 1 }))
unfolding sheets
reading_of_growing = refl

-- 7 of every task comes before 9 of the first: a first task with D above T and a second with no frame
pub seven_before_nine :
    answer_to (with_one 10 11 0 (3 ∷ []) ∷ plain 10 [] ∷ []) ≡ Err (FrameCount 1)
unfolding lists
seven_before_nine = refl

-- the largest set: 16 tasks, 8 frames, every time the greatest
abbrev largest_set : List Task
largest_set = replicate most_tasks (with_one greatest_time greatest_time greatest_time (replicate most_frames greatest_time))

pub answer_to_largest : answer_to largest_set ≡ Ok tt
unfolding lists
answer_to_largest = refl

-- its sheets have 452 and 732 bytes
pub size_of_largest : (length (sheet_of 1 0 largest_set) ≡ 452) × (length (sheet_of 2 0 largest_set) ≡ 732)
unfolding sheets
size_of_largest = (refl, refl)

pub reading_of_largest : reading (sheet_of 2 0 largest_set) ≡ Ok (record { version = 2; set = set_with 0 largest_set })
unfolding sheets
reading_of_largest = refl

-- two frames with a deadline each: T 10, Q 1, frames 2 and 1 with deadlines 9 and 4
abbrev two_deadlines : List Task
two_deadlines = record { period = 10; lock = 1; frames = 2 ∷ 1 ∷ []; deadlines = 9 ∷ 4 ∷ [] } ∷ []

-- version 2: the header, T, Q, the count, then time and deadline by turns (on the sheet four fill bits follow)
pub bits_of_two :
    header_bits 2 0 1 ++ tasks_bits true two_deadlines
    ≡ digits 4 2 ++ digits 2 0 ++ digits 5 1 ++ digits 5 0 ++ digits 20 10 ++ digits 20 1 ++ digits 4 2
    ++ digits 20 2 ++ digits 20 9 ++ digits 20 1 ++ digits 20 4
unfolding sheets
bits_of_two = refl

pub reading_of_two : reading (sheet_of 2 0 two_deadlines) ≡ Ok (record { version = 2; set = set_with 0 two_deadlines })
unfolding sheets
reading_of_two = refl

-- version 1 has room for one deadline of a task, so that it cannot hold these two
pub not_held_by_1 : one_deadline_each two_deadlines ≡ false
unfolding sheets
not_held_by_1 = refl

-- 3 of a version that is neither comes before all else, here before 4 and 6
pub three_first : decided (writing_checks 3 3 0 []) ≡ Err Version
unfolding sheets lists
three_first = refl

-- 17, and 11 before it: frames that grow have no start
pub seventeen_of_two : decided (writing_checks 1 0 1 (map record_of two_deadlines)) ≡ Err Deadlines
unfolding sheets lists
seventeen_of_two = refl

pub eleven_before_seventeen :
    let growing : Task = record { period = 9; lock = 0; frames = 1 ∷ 2 ∷ 3 ∷ []; deadlines = 7 ∷ 8 ∷ 9 ∷ [] } in
    decided (writing_checks 1 0 1 (record_of growing ∷ [])) ≡ Err (NotMonotonic 0 (record { frame = 2; length = 2; other = 1 }))
unfolding sheets lists
eleven_before_seventeen = refl
