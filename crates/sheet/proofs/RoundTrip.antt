-- Demand 2's round trip: what is written is read back, what is read writes to the same bytes, and so a set has one sheet of each version.
use Rattle.std.specs.Prelude.{Ok}
use Rattle.std.proofs.Common.{◌≡◌, ℕ, ◌^◌, ◌<◌, ◌≤◌, true, leb, List, map, length, take, sym, refl, ap, ◌∙◌, ap₂, arith, leb-true}
use mathlib.Core.Bool.{and-eq-true_iff}
use Rattle.bits.specs.Packed.{Bytes as IsBytes}
use Rattle.lent.specs.Lent.{laid}
use Rattle.sheet.specs.Constants.{version_1, version_2, version_width, most_tasks}
use Rattle.sheet.specs.Fields.{own_deadlines}
use Rattle.sheet.specs.Tasks.{task_in, records_of, set_with}
use Rattle.sheet.specs.Admission.{decided, admission}
use Rattle.sheet.specs.Reading.{version_among, sheet_checks, version_of, policy_of, tasks_of, reading}
use Rattle.sheet.specs.Writing.{sheet_of, sheet_bytes, written, left}
use Rattle.sheet.specs.declared.TaskSet.{TaskSet}
use Rattle.sheet.specs.declared.Reading.{Reading}
use Rattle.sheet.proofs.Records.{tasks_with}
use Rattle.sheet.proofs.RecordBits.{each_held, held_each}
use Rattle.sheet.proofs.Carried.{count_in_use, by_admission, to_admission, carried_many, passed_sheet, by_reading, reading_admits, many_found, held_found}
use Rattle.sheet.proofs.SheetBits.{sheet_is_read, sheet_of_carried}
use Rattle.sheet.proofs.WhatIsWritten.{Writable, is_written, bytes_written, take_left}

-- a known version fits its field
pub version_small : (version : ℕ) → version_among version_1 version_2 version ≡ true → version < 2 ^ version_width
version_small version e =
    omega (arith, leb-true version version_2 ((and-eq-true_iff (leb version_1 version) (leb version version_2)).0 e).1)

-- Demand 2, a set first: the sheet of an admitted set in a version that can hold it is admitted, and is read as the same version, policy and tasks
-- over the slots in use. (A set by value has sixteen records, of which `task_count` are in use.)
pub write_then_read : (version : ℕ) (s : TaskSet) → length s.tasks ≡ most_tasks → Writable version s
    → reading (sheet_bytes version s) ≡ Ok (record { version = version; set = set_with s.policy (map task_in (records_of s)) })
unfolding sheet_bytes reading
write_then_read version s room w =
    let tasks = map task_in (records_of s) in
    sheet_is_read version s.policy tasks (version_small version w.known) (by_admission s room w.admitted) (each_held (own_deadlines version) tasks w.held)
    version_1 version_2 w.known

-- In other words: version, policy, count and the tasks over the slots in use come back.
pub set_comes_back : (version : ℕ) (s : TaskSet) → length s.tasks ≡ most_tasks → Writable version s
    → (r : Reading)
    × ((reading (sheet_bytes version s) ≡ Ok r)
    × (r.version ≡ version)
    × (r.set.policy ≡ s.policy)
    × (r.set.task_count ≡ s.task_count)
    × (map task_in (records_of r.set) ≡ map task_in (records_of s)))
unfolding set_with
set_comes_back version s room w =
    let tasks = map task_in (records_of s) in (
      record { version = version; set = set_with s.policy tasks },
      (
        write_then_read version s room w,
        refl,
        refl,
        count_in_use s room w.admitted,
        tasks_with s.policy tasks (carried_many (by_admission s room w.admitted)),
      ),
    )

-- The same of the two entries: where the writer answers with a count of bytes, the reader takes these bytes of the lent room back to the set.
pub writer_then_reader : (version : ℕ) (s : TaskSet) (room : List ℕ) (n : ℕ) → length s.tasks ≡ most_tasks → written version s room ≡ Ok n
    → reading (take n (left version s room)) ≡ Ok (record { version = version; set = set_with s.policy (map task_in (records_of s)) })
writer_then_reader version s room n full e =
    let w = bytes_written version s room n e in
    ap (λ (k : ℕ). reading (take k (left version s room))) w.1
    ∙ ap reading (take_left version s room w.0)
    ∙ write_then_read version s full w.0.writable

-- An admitted byte string is the sheet of the version, the policy and the tasks that it carries.
pub read_then_write : (s : List ℕ) → IsBytes s → decided (sheet_checks s) ≡ Ok tt → sheet_of (version_of s) (policy_of s) (tasks_of s) ≡ s
read_then_write s h a = sheet_of_carried s (passed_sheet s a) h

-- Demand 2, a sheet first: the set that was read from an admitted byte string writes to the same bytes in the version that was read.
pub read_then_write_set : (s : List ℕ) (r : Reading) → IsBytes s → reading s ≡ Ok r → sheet_bytes r.version r.set ≡ s
unfolding sheet_bytes set_with
read_then_write_set s r h e =
    let a = reading_admits s r e in
    ap (λ (x : Reading). sheet_bytes x.version x.set) a.1
    ∙ ap (sheet_of (version_of s) (policy_of s)) (tasks_with (policy_of s) (tasks_of s) (many_found s))
    ∙ read_then_write s h a.0

-- Two admitted byte strings that carry the same version, policy and tasks are the same: a set has one sheet of each version.
pub one_sheet_per_set : (s t : List ℕ) → IsBytes s → IsBytes t → decided (sheet_checks s) ≡ Ok tt → decided (sheet_checks t) ≡ Ok tt
    → version_of s ≡ version_of t → policy_of s ≡ policy_of t → tasks_of s ≡ tasks_of t → s ≡ t
one_sheet_per_set s t hs ht es et v p q =
    sym (read_then_write s hs es)
    ∙ ap (λ (x : ℕ). sheet_of x (policy_of s) (tasks_of s)) v
    ∙ ap₂ (sheet_of (version_of t)) p q
    ∙ read_then_write t ht et

-- Hence two different admitted byte strings of one version never carry the same set.
pub different_sheets_different_sets : (s t : List ℕ) (p q : Reading) → IsBytes s → IsBytes t → reading s ≡ Ok p → reading t ≡ Ok q
    → p.version ≡ q.version → ¬ (s ≡ t) → ¬ (p.set ≡ q.set)
different_sheets_different_sets s t p q hs ht es et v ne same =
    ne (sym (read_then_write_set s p hs es) ∙ ap₂ sheet_bytes v same ∙ read_then_write_set t q ht et)

-- The set that was read from an admitted byte string is an admitted set, so that it can be analysed and written.
pub admitted_reading_admits : (s : List ℕ) (r : Reading) → reading s ≡ Ok r → admission r.set ≡ Ok tt
admitted_reading_admits s r e =
    let a = reading_admits s r e in
    ap (λ (x : Reading). admission x.set) a.1 ∙ to_admission (by_reading s a.0)

-- It can be written in the version that was read.
pub read_is_writable : (s : List ℕ) (r : Reading) → reading s ≡ Ok r → Writable r.version r.set
read_is_writable s r e =
    let a = reading_admits s r e in
    rw a.1
    (record {
      known = (passed_sheet s a.0).version_known;
      admitted = to_admission (by_reading s a.0);
      held = held_each (own_deadlines (version_of s)) _ (rw (tasks_with (policy_of s) (tasks_of s) (many_found s)) (held_found s));
    })

-- The same of the two entries: what the reader gives for an admitted byte string, the writer puts back into any room that is long enough, byte for byte.
pub reader_then_writer : (s room : List ℕ) (r : Reading) → IsBytes s → reading s ≡ Ok r → length s ≤ length room
    → (written r.version r.set room ≡ Ok (length s)) × (left r.version r.set room ≡ laid s room)
reader_then_writer s room r h e fits =
    let same = read_then_write_set s r h e in
    let w = is_written r.version r.set room (read_is_writable s r e) (rw same fits) in (
      w.answer ∙ ap (λ (b : List ℕ). Ok (length b)) same,
      w.holds ∙ ap (λ (b : List ℕ). laid b room) same,
    )
