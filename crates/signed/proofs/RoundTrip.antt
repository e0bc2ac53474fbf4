-- Demand 2 of lists: what the views of the entries say of a list written and read, and of a sheet read and written.
use Rattle.std.specs.Prelude.{Ok, Result, IsOk}
use mathlib.Core.List.{List, map}
use mathlib.Core.Path.{◌≡◌, refl, sym, ap, ap₂, ◌∙◌}
use Prim.Native.Nat.{ℕ, ◌^◌, ◌≤◌, ◌<◌}
use native.Mathlib.Omega.{arith}
use lib.ListN.{length, take, drop, length-map}
use lib.Seq.{take_at, drop_at}
use Rattle.bits.specs.Packed.{Bytes as IsBytes}
use Rattle.theory.specs.Tasks.{Task}
use Rattle.lent.specs.Lent.{laid}
use Rattle.lent.proofs.Laid.{take_laid}
use Rattle.sheet.specs.Constants.{version_1, version_2, version_width}
use Rattle.sheet.specs.Fields.{own_deadlines}
use Rattle.sheet.specs.Tasks.{task_in, record_of, set_with}
use Rattle.sheet.specs.Admission.{decided}
use Rattle.sheet.specs.Reading.{sheet_checks, version_of, policy_of, tasks_of, reading}
use Rattle.sheet.specs.Writing.{sheet_of, writing_checks}
use Rattle.sheet.specs.declared.Task.{Task as Record}
use Rattle.sheet.proofs.Each.{Each}
use Rattle.sheet.proofs.Records.{AsMany, tasks_in_records, records_with}
use Rattle.sheet.proofs.RecordBits.{each_held}
use Rattle.sheet.proofs.RecordBits.{Held as HeldEach}
use Rattle.sheet.proofs.Carried.{many_found, admitted_reading, reading_admits}
use Rattle.sheet.proofs.SheetBits.{version_is, policy_is, tasks_are, sheet_is_read}
use Rattle.sheet.proofs.WhatIsWritten.{checks_pass}
use Rattle.sheet.proofs.RoundTrip.{version_small, read_then_write, read_is_writable}
use Rattle.lists.specs.Faces.{list_read, list_filled, list_written, list_left}
use Rattle.lists.specs.declared.ListRead.{ListRead}
use Rattle.sheet.specs.declared.Refusal.{Refusal}
use Rattle.signed.proofs.Read.{reading_ok, decided_ok}
use Rattle.signed.proofs.Entries.{Held, Read, no_read, is_read, reads, Wrote, no_write, is_written, writes}

-- the sheet of tasks in a version that can hold them carries the version, the policy and these tasks
module _ (version policy : ℕ) (ts : List Task) (h : Held version policy ts) where
  abbrev its_sheet : List ℕ
  its_sheet = sheet_of version policy ts

  small : version < 2 ^ version_width
  small = version_small version h.known

  each : Each (HeldEach (own_deadlines version)) ts
  each = each_held (own_deadlines version) ts h.held

  read_so : decided (sheet_checks its_sheet) ≡ Ok tt
  unfolding reading
  read_so = (reading_admits its_sheet _ (sheet_is_read version policy ts small h.sound.carried each version_1 version_2 h.known)).0

  same_version : version_of its_sheet ≡ version
  same_version = version_is version policy ts small h.sound.carried each

  same_policy : policy_of its_sheet ≡ policy
  same_policy = policy_is version policy ts small h.sound.carried each

  same_tasks : tasks_of its_sheet ≡ ts
  same_tasks = tasks_are version policy ts small h.sound.carried each

-- records laid over a list are the tasks' over the slots in use
module _ (ts : List Task) (many : Each AsMany ts) (before : List Record) (n : ℕ) (e : length ts ≡ n) where
  records_laid : take n (laid (map record_of ts) before) ≡ map record_of ts
  unfolding laid
  records_laid = take_at (map record_of ts) _ n (length-map ts record_of ∙ e)

  tasks_laid : map task_in (take n (laid (map record_of ts) before)) ≡ ts
  tasks_laid = ap (map task_in) records_laid ∙ tasks_in_records many

  rest_laid : drop n (laid (map record_of ts) before) ≡ drop n before
  unfolding laid
  rest_laid =
      drop_at (map record_of ts) _ n (length-map ts record_of ∙ e) ∙ ap (λ (m : ℕ). drop m before) (length-map ts record_of ∙ e)

-- ---- a list first

-- bytes that were written are the sheet of the list
pub written_sheet : (version policy : ℕ) (list : List Record) (before after : List ℕ) (n : ℕ) (w : Result ℕ Refusal) → w ≡ Ok n → Wrote version policy list before w after
    → Held version policy (map task_in list) × (take n after ≡ sheet_of version policy (map task_in list))
written_sheet version policy list before after n w e (no_write why) = cc
written_sheet version policy list before after n w e (is_written held fits) =
    let count : length (sheet_of version policy (map task_in list)) ≡ n = cc in
    (held, rw (← count) (take_laid (sheet_of version policy (map task_in list)) before))

module _ (version policy : ℕ) (list before : List Record) (held : Held version policy (map task_in list)) (room : length list ≤ length before) where
  abbrev bytes : List ℕ
  bytes = sheet_of version policy (map task_in list)

  listed : length (tasks_of bytes) ≡ length list
  listed = ap length (same_tasks version policy (map task_in list) held) ∙ length-map list task_in

  pub read_back : (list_read bytes before ≡ Ok (record { version = version; policy = policy; task_count = length list }))
      × (map task_in (take (length list) (list_filled bytes before)) ≡ map task_in list)
      × (drop (length list) (list_filled bytes before) ≡ drop (length list) before)
  read_back =
      let (answer, filled) = reads bytes before (read_so version policy (map task_in list) held) (omega (arith, listed)) in (
        answer
            ∙ ap (λ (v : ℕ). Ok (record { version = v; policy = policy_of bytes; task_count = length (tasks_of bytes) })) (same_version version policy (map task_in list) held)
            ∙ ap₂ (λ (p n : ℕ). Ok (record { version = version; policy = p; task_count = n })) (same_policy version policy (map task_in list) held) listed,
        ap (λ (l : List Record). map task_in (take (length list) l)) filled
            ∙ tasks_laid (tasks_of bytes) (many_found bytes) before (length list) listed
            ∙ same_tasks version policy (map task_in list) held,
        ap (drop (length list)) filled ∙ rest_laid (tasks_of bytes) (many_found bytes) before (length list) listed,
      )

-- ---- a sheet first

-- a set that was read is that of the sheet
pub read_records : (sheet : List ℕ) (before after : List Record) (r : ListRead) (x : Result ListRead Refusal) → x ≡ Ok r → Read sheet before x after
    → IsOk (reading sheet) × (r.version ≡ version_of sheet) × (r.policy ≡ policy_of sheet) × (take r.task_count after ≡ map record_of (tasks_of sheet))
read_records sheet before after r x e (no_read why) = cc
read_records sheet before after r x e (is_read admitted fits) =
    let same : record { version = version_of sheet; policy = policy_of sheet; task_count = length (tasks_of sheet) } ≡ r = cc in
    rw (← same) (reading_ok sheet admitted, refl, refl, records_laid (tasks_of sheet) (many_found sheet) before (length (tasks_of sheet)) refl)

module _ (sheet room : List ℕ) (byte : IsBytes sheet) (read : IsOk (reading sheet)) (fits : length sheet ≤ length room) where
  admitted : decided (sheet_checks sheet) ≡ Ok tt
  admitted = decided_ok sheet read

  abbrev records : List Record
  records = map record_of (tasks_of sheet)

  records_admitted : decided (writing_checks (version_of sheet) (policy_of sheet) (length records) records) ≡ Ok tt
  unfolding set_with
  records_admitted =
      ap₂ (λ (n : ℕ) (rs : List Record). decided (writing_checks (version_of sheet) (policy_of sheet) n rs)) (length-map (tasks_of sheet) record_of) (sym (records_with (policy_of sheet) (tasks_of sheet)))
      ∙ checks_pass (version_of sheet) (set_with (policy_of sheet) (tasks_of sheet)) (read_is_writable sheet _ (admitted_reading sheet admitted))

  same_sheet : sheet_of (version_of sheet) (policy_of sheet) (map task_in records) ≡ sheet
  same_sheet = ap (sheet_of (version_of sheet) (policy_of sheet)) (tasks_in_records (many_found sheet)) ∙ read_then_write sheet byte admitted

  pub write_back : (list_written (version_of sheet) (policy_of sheet) records room ≡ Ok (length sheet)) × (list_left (version_of sheet) (policy_of sheet) records room ≡ laid sheet room)
  write_back =
      let (answer, left) = writes (version_of sheet) (policy_of sheet) records room records_admitted (rw same_sheet fits) in
      (answer ∙ ap (λ (s : List ℕ). Ok (length s)) same_sheet, left ∙ ap (λ (s : List ℕ). laid s room) same_sheet)
