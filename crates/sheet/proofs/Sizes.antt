-- How long a sheet is. The least and greatest sizes, 15 and 732 bytes, are computed from the widths and limits.
use Rattle.std.specs.Prelude.{Ok}
use Rattle.std.proofs.Common.{◌≡◌, ℕ, ◌+◌, ◌*◌, ◌≤◌, Bool, true, false, List, [], ◌∷◌, ◌++◌, map, length, replicate, sym, refl, ap, ◌∙◌, ap₂, arith, length-append}
use Rattle.records.specs.Rows.{total}
use Rattle.records.specs.Sealed.{sealed_size}
use Rattle.records.proofs.Filling.{length_sealed}
use Rattle.theory.specs.Tasks.{Task, frame_count}
use Rattle.sheet.specs.Constants.{version_1, version_2, time_width, most_tasks, most_frames, least_size, greatest_size}
use Rattle.sheet.specs.Fields.{header_widths, own_deadlines, fixed_widths, frame_widths}
use Rattle.sheet.specs.Tasks.{task_in, records_of}
use Rattle.sheet.specs.Admission.{admission}
use Rattle.sheet.specs.Writing.{header_bits, task_bits, tasks_bits, sheet_of, sheet_bytes}
use Rattle.sheet.specs.declared.TaskSet.{TaskSet}
use Rattle.records.proofs.Packing.{total_replicate}
use Rattle.sheet.proofs.Each.{Each, no_task, task_more}
use Rattle.sheet.proofs.Records.{AsMany}
use Rattle.sheet.proofs.InFields.{FramesCounted}
use Rattle.sheet.proofs.RecordBits.{length_header, length_task_bits}
use Rattle.sheet.proofs.Carried.{by_admission, carried_many}

-- the bits of the task records of tasks with the given frame counts, from the widths
unfoldable pub record_widths : Bool → List ℕ → ℕ
record_widths own [] = 0
record_widths own (n ∷ ns) = (total (fixed_widths own) + total (frame_widths own n)) + record_widths own ns

-- the bytes of their sheet: the record of header and task records
unfoldable pub sheet_size : Bool → List ℕ → ℕ
sheet_size own ns = sealed_size (total header_widths + record_widths own ns)

-- the frame counts of tasks
abbrev pub frame_counts : List Task → List ℕ
frame_counts ts = map frame_count ts

-- ---- the length of a sheet

length_tasks_bits : (own : Bool) {ts : List Task} → Each AsMany ts → length (tasks_bits own ts) ≡ record_widths own (frame_counts ts)
unfolding tasks_bits record_widths frame_count
length_tasks_bits own no_task = refl
length_tasks_bits own (task_more {t} {ts} same rest) =
    length-append (task_bits own t) (tasks_bits own ts) ∙ ap₂ ◌+◌ (length_task_bits own t same) (length_tasks_bits own rest)

-- A sheet's length follows from its version and its tasks' frame counts.
pub length_sheet : (version policy : ℕ) (ts : List Task) → Each AsMany ts → length (sheet_of version policy ts) ≡ sheet_size (own_deadlines version) (frame_counts ts)
unfolding sheet_of sheet_size
length_sheet version policy ts same =
    let own = own_deadlines version in
    let head = header_bits version policy (length ts) in
    length_sealed (head ++ tasks_bits own ts)
    ∙ ap sealed_size (length-append head (tasks_bits own ts) ∙ ap₂ ◌+◌ (length_header version policy (length ts)) (length_tasks_bits own same))

-- In numbers: 64 bits and 20 for each frame, or 44 bits and 40 for each frame, in whole bytes behind the header.
pub size_in_numbers : (n : ℕ) (ns : List ℕ)
    → (record_widths false (n ∷ ns) ≡ (64 + 20 * n) + record_widths false ns) × (record_widths true (n ∷ ns) ≡ (44 + 40 * n) + record_widths true ns)
unfolding record_widths total
size_in_numbers n ns = (rw (total_replicate (1 * n) time_width) (omega arith), rw (total_replicate (2 * n) time_width) (omega arith))

-- ---- least and greatest

-- 15 is the size of a sheet of version 1 of one task with one frame, and no sheet of version 2 is shorter.
pub least_computed : (least_size ≡ sheet_size false (1 ∷ [])) × (sheet_size true (1 ∷ []) ≡ 15)
unfolding sheet_size record_widths total
least_computed = (refl, refl)

-- 732 is the size of a sheet of version 2 of sixteen tasks with eight frames each, 452 that of version 1.
pub greatest_computed : (greatest_size ≡ sheet_size true (replicate most_tasks most_frames)) × (sheet_size false (replicate most_tasks most_frames) ≡ 452)
unfolding sheet_size record_widths total
greatest_computed = (refl, refl)

-- one task of one frame
pub least_reached : (policy : ℕ) (t : Task) → AsMany t → frame_count t ≡ 1 → length (sheet_of version_1 policy (t ∷ [])) ≡ least_size
least_reached policy t same e =
    length_sheet version_1 policy (t ∷ []) (task_more same no_task) ∙ ap (λ (n : ℕ). sheet_size false (n ∷ [])) e ∙ sym least_computed.0

-- sixteen tasks of eight frames
pub greatest_reached : (policy : ℕ) (ts : List Task) → Each AsMany ts → frame_counts ts ≡ replicate most_tasks most_frames
    → length (sheet_of version_2 policy ts) ≡ greatest_size
greatest_reached policy ts same e = length_sheet version_2 policy ts same ∙ ap (sheet_size true) e ∙ sym greatest_computed.0

-- each record has the bits of one frame or more, and of eight or fewer
records_between : (own : Bool) (ts : List Task) → Each FramesCounted ts
    → (84 * length ts ≤ record_widths own (frame_counts ts)) × (record_widths own (frame_counts ts) ≤ 364 * length ts)
unfolding record_widths frame_count
records_between own [] no_task = omega arith
records_between false (t ∷ ts) (task_more h hs) =
    let later = records_between false ts hs in
    let one = (size_in_numbers (frame_count t) (frame_counts ts)).0 in
    omega arith
records_between true (t ∷ ts) (task_more h hs) =
    let later = records_between true ts hs in
    let one = (size_in_numbers (frame_count t) (frame_counts ts)).1 in
    omega arith

-- A sheet of 1 to 16 tasks with 1 to 8 frames each has 15 to 732 bytes.
pub size_between : (version policy : ℕ) (ts : List Task) → Each AsMany ts → 1 ≤ length ts → length ts ≤ most_tasks → Each FramesCounted ts
    → (least_size ≤ length (sheet_of version policy ts)) × (length (sheet_of version policy ts) ≤ greatest_size)
unfolding sheet_size total
size_between version policy ts same l h c =
    let e = length_sheet version policy ts same in
    let b = records_between (own_deadlines version) ts c in
    omega arith

-- A sheet of an admitted set has 15 to 732 bytes.
pub admitted_size : (version : ℕ) (s : TaskSet) → length s.tasks ≡ most_tasks → admission s ≡ Ok tt
    → (least_size ≤ length (sheet_bytes version s)) × (length (sheet_bytes version s) ≤ greatest_size)
unfolding sheet_bytes
admitted_size version s room e =
    let c = by_admission s room e in
    size_between version s.policy (map task_in (records_of s)) (carried_many c) c.some_task c.few_tasks c.counted
