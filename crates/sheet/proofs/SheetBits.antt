-- A whole sheet in bits, both ways: the sheet of tasks that pass is read as it was written, and an admitted byte string is header, records and fill of what it carries.
use Rattle.std.specs.Prelude.{Ok}
use Rattle.std.proofs.Common.{◌≡◌, ℕ, ◌-◌, ◌^◌, ◌<◌, ◌≤◌, Bool, true, false, not, ◌||◌, eqb, ltb, List, ◌++◌, length, replicate, sym, ap, ◌∙◌, ap₂, append_assoc, arith, take-append-drop, length-take-le, le-leb}
use Rattle.bits.specs.Packed.{Bytes, bits_of}
use Rattle.bits.proofs.Laws.{length_bits, bytes_take}
use Rattle.check_word.specs.Division.{seal, body, sealed}
use Rattle.check_word.proofs.Sealing.{sealed_seal, seal_body}
use Rattle.records.specs.Rows.{total}
use Rattle.records.specs.Sealed.{whole_bytes, sealed_record}
use Rattle.records.proofs.Filling.{fill_of, fill_short, whole_of}
use Rattle.records.proofs.RoundTrip.{sealed_bits}
use Rattle.theory.specs.Tasks.{Task}
use Rattle.sheet.specs.Constants.{version_width, most_tasks, least_size, greatest_size}
use Rattle.sheet.specs.Fields.{header_widths, own_deadlines}
use Rattle.sheet.specs.Tasks.{set_with}
use Rattle.sheet.specs.Layout.{Header, header_in, behind_header, tasks_in}
use Rattle.sheet.specs.Admission.{decided, known_policy, policy_check, task_count_check, task_checks}
use Rattle.sheet.specs.Reading.{layout_checks, version_among, checks_among, version_of, policy_of, tasks_of, reading_among}
use Rattle.sheet.specs.Writing.{header_bits, tasks_bits, sheet_of}
use Rattle.sheet.specs.declared.Reading.{Reading}
use Rattle.sheet.proofs.Checks.{admitted_first, passed_over}
use Rattle.sheet.proofs.Counts.{count_passes, policy_passes, known_small}
use Rattle.sheet.proofs.RecordBits.{Held, header_written, records_written, header_read, tasks_written, layout_written, length_tasks_in}
use Rattle.sheet.proofs.Sizes.{size_between}
use Rattle.sheet.proofs.Each.{Each}
use Rattle.sheet.proofs.Carried.{Carried, carried_fit, carried_many, PassedSheet, admitted_among}

-- ---- from a set to its sheet and back

-- a sheet's bits before the fill
set_bits : ℕ → ℕ → List Task → List Bool
set_bits version policy ts = header_bits version policy (length ts) ++ tasks_bits (own_deadlines version) ts

module _ (version policy : ℕ) (ts : List Task) (small : version < 2 ^ version_width) (c : Carried policy ts) (held : Each (Held (own_deadlines version)) ts) where
  fill : ℕ
  fill = fill_of (set_bits version policy ts)

  records_and_fill : List Bool
  records_and_fill = tasks_bits (own_deadlines version) ts ++ replicate fill false

  body_bits : bits_of (body (sheet_of version policy ts)) ≡ header_bits version policy (length ts) ++ records_and_fill
  unfolding sheet_of set_bits fill records_and_fill
  body_bits =
      sealed_bits (set_bits version policy ts)
      ∙ append_assoc (header_bits version policy (length ts)) (tasks_bits (own_deadlines version) ts) (replicate fill false)

  the_header : Header
  the_header = record { version = version; policy = policy; task_count = length ts; spare = 0 }

  header_is : header_in (bits_of (body (sheet_of version policy ts))) ≡ the_header
  unfolding the_header
  header_is =
      ap header_in body_bits
      ∙ header_written version policy (length ts) records_and_fill small (omega (arith, known_small policy c.policy_known)) (omega (arith, c.few_tasks))

  records_are : behind_header (bits_of (body (sheet_of version policy ts))) ≡ records_and_fill
  records_are = ap behind_header body_bits ∙ records_written version policy (length ts) records_and_fill

  pub version_is : version_of (sheet_of version policy ts) ≡ version
  unfolding version_of the_header
  version_is = ap (λ (h : Header). h.version) header_is

  pub policy_is : policy_of (sheet_of version policy ts) ≡ policy
  unfolding policy_of the_header
  policy_is = ap (λ (h : Header). h.policy) header_is

  pub tasks_are : tasks_of (sheet_of version policy ts) ≡ ts
  unfolding tasks_of version_of the_header records_and_fill
  tasks_are =
      ap₂ (λ (h : Header) (bs : List Bool). tasks_in (own_deadlines h.version) h.task_count bs) header_is records_are
      ∙ tasks_written (own_deadlines version) ts (replicate fill false) (carried_fit c) held

  is_sealed : sealed (sheet_of version policy ts) ≡ true
  unfolding sheet_of sealed_record set_bits
  is_sealed = sealed_seal (whole_bytes (set_bits version policy ts))

  checks_admit : (least most : ℕ) → version_among least most version ≡ true → decided (checks_among least most (sheet_of version policy ts)) ≡ Ok tt
  unfolding checks_among policy_check task_count_check the_header records_and_fill fill
  checks_admit least most known =
      let s = sheet_of version policy ts in
      let own = own_deadlines version in
      let size = size_between version policy ts (carried_many c) c.some_task c.few_tasks c.counted in
      passed_over _ _ _ (rw (le-leb least_size (length s) size.0, le-leb (length s) greatest_size size.1))
      ∙ passed_over _ _ _ (ap not is_sealed)
      ∙ passed_over _ _ _ (ap (λ (h : Header). not (version_among least most h.version)) header_is ∙ ap not known)
      ∙ passed_over _ _ _ (ap (λ (h : Header). not (known_policy h.policy)) header_is ∙ policy_passes policy c.policy_known)
      ∙ passed_over _ _ _ (ap (λ (h : Header). not (eqb h.spare 0)) header_is)
      ∙ passed_over _ _ _
      (ap (λ (h : Header). eqb h.task_count 0 || ltb most_tasks h.task_count) header_is
      ∙ count_passes (length ts) most_tasks c.some_task c.few_tasks)
      ∙ ap₂
      (λ (h : Header) (bs : List Bool). decided (layout_checks (own_deadlines h.version) 0 h.task_count bs ++ task_checks 0 (tasks_in (own_deadlines h.version) h.task_count bs)))
      header_is records_are
      ∙ admitted_first (layout_checks own 0 (length ts) records_and_fill) (task_checks 0 (tasks_in own (length ts) records_and_fill))
      (layout_written own 0 ts fill (carried_fit c) (fill_short (set_bits version policy ts)))
      ∙ ap (λ (us : List Task). decided (task_checks 0 us)) (tasks_written own ts (replicate fill false) (carried_fit c) held)
      ∙ c.formed

  -- A sheet of 1 to 16 tasks that pass every check and that its version can hold is read as it was written.
  pub sheet_is_read : (least most : ℕ) → version_among least most version ≡ true
      → reading_among least most (sheet_of version policy ts) ≡ Ok (record { version = version; set = set_with policy ts })
  sheet_is_read least most known =
      let s = sheet_of version policy ts in
      admitted_among least most s (checks_admit least most known)
      ∙ ap (λ (v : ℕ). let r : Reading = record { version = v; set = set_with (policy_of s) (tasks_of s) } in Ok r) version_is
      ∙ ap₂ (λ (p : ℕ) (us : List Task). let r : Reading = record { version = version; set = set_with p us } in Ok r) policy_is tasks_are

-- ---- from a sheet to its set and back

module _ {least most : ℕ} (s : List ℕ) (f : PassedSheet least most s) where
  header_there : total header_widths ≤ length (bits_of (body s))
  unfolding body total
  header_there = rw (length_bits (body s), length-take-le (length s - 2) s (omega (arith, f.long_enough))) (omega (arith, f.long_enough))

  -- the bits of a sheet whose checks pass: header and task records of what it carries, and the fill
  carried_bits : bits_of (body s) ≡ set_bits (version_of s) (policy_of s) (tasks_of s) ++ replicate f.layout.fill false
  unfolding set_bits version_of policy_of tasks_of behind_header total
  carried_bits =
      let bits = bits_of (body s) in
      let v = (header_in bits).version in
      let n = (header_in bits).task_count in
      let ts = tasks_in (own_deadlines v) n (behind_header bits) in
      sym (take-append-drop (total header_widths) bits)
      ∙ ap₂ ◌++◌
      (sym (header_read bits header_there f.spare_zero)
      ∙ ap (header_bits v (header_in bits).policy) (sym (length_tasks_in (own_deadlines v) n (behind_header bits))))
      f.layout.bits_are
      ∙ sym (append_assoc (header_bits v (header_in bits).policy (length ts)) (tasks_bits (own_deadlines v) ts) (replicate f.layout.fill false))

  -- an admitted byte string is the sheet of what it carries
  pub sheet_of_carried : Bytes s → sheet_of (version_of s) (policy_of s) (tasks_of s) ≡ s
  unfolding sheet_of sealed_record set_bits body
  sheet_of_carried h =
      ap seal
      (whole_of (body s) (set_bits (version_of s) (policy_of s) (tasks_of s)) f.layout.fill (bytes_take (length s - 2) s h) f.layout.short carried_bits)
      ∙ seal_body s h f.sealed_well
