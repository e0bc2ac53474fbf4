-- The records of a set one after another: their bits and how many there are.
use Rattle.std.specs.Prelude.{Ok}
use mathlib.Core.Bool.{Bool}
use mathlib.Core.List.{List, [], ◌∷◌, ◌++◌, map, append-nil, append_assoc}
use mathlib.Core.Path.{◌≡◌, refl, sym, ap, ◌∙◌}
use Prim.Native.Nat.{ℕ, zero, suc, ◌+◌, ◌*◌, ◌≤◌, ◌<◌}
use native.Mathlib.Numerals.{add-one}
use native.Mathlib.Omega.{arith}
use lib.ListN.{length, get_or, take, length-append}
use Rattle.records.specs.Rows.{total}
use Rattle.records.specs.Sealed.{sealed_size}
use Rattle.records.proofs.Filling.{length_sealed}
use Rattle.sheet.specs.Constants.{most_tasks, greatest_size}
use Rattle.sheet.specs.Fields.{header_widths, own_deadlines}
use Rattle.sheet.specs.Tasks.{task_in, records_of}
use Rattle.sheet.specs.Admission.{admission}
use Rattle.sheet.specs.Writing.{header_bits, task_bits, tasks_bits, sheet_of, sheet_bytes}
use Rattle.sheet.specs.declared.Task.{Task as Record}
use Rattle.sheet.specs.declared.TaskSet.{TaskSet}
use Rattle.sheet.proofs.RecordBits.{length_header}
use Rattle.sheet.proofs.Sizes.{admitted_size}

-- ---- records one after another

-- the bits of records
abbrev pub records_bits : Bool → List Record → List Bool
records_bits own rs = tasks_bits own (map task_in rs)

pub no_records : (own : Bool) (rs : List Record) → records_bits own (take 0 rs) ≡ []
unfolding tasks_bits
no_records own rs = refl

module _ (own : Bool) where
  records_more : (rs : List Record) (i : ℕ) (d : Record) → i < length rs
      → records_bits own (take (suc i) rs) ≡ records_bits own (take i rs) ++ task_bits own (task_in (get_or rs i d))
  unfolding tasks_bits
  records_more [] i d h = let z : ⊥ = omega arith in absurd z
  records_more (r ∷ rs) zero d h = append-nil (task_bits own (task_in r))
  records_more (r ∷ rs) (suc i) d h =
      ap (λ (l : List Bool). task_bits own (task_in r) ++ l) (records_more rs i d (omega arith))
      ∙ sym (append_assoc (task_bits own (task_in r)) (records_bits own (take i rs)) (task_bits own (task_in (get_or rs i d))))

  pub record_more : (rs : List Record) (i : ℕ) (d : Record) → i < length rs
      → records_bits own (take (i + 1) rs) ≡ records_bits own (take i rs) ++ task_bits own (task_in (get_or rs i d))
  record_more rs i d h = ap (λ (k : ℕ). records_bits own (take k rs)) (add-one i) ∙ records_more rs i d h

  -- the first i records and the next are part of all
  pub records_part : (rs : List Record) (i : ℕ) (d : Record) → i < length rs
      → length (records_bits own (take i rs)) + length (task_bits own (task_in (get_or rs i d))) ≤ length (records_bits own rs)
  unfolding tasks_bits
  records_part [] i d h = let z : ⊥ = omega arith in absurd z
  records_part (r ∷ rs) zero d h = rw (length-append (task_bits own (task_in r)) (records_bits own rs)) (omega arith)
  records_part (r ∷ rs) (suc i) d h =
      rw (length-append (task_bits own (task_in r)) (records_bits own rs), length-append (task_bits own (task_in r)) (records_bits own (take i rs)))
      (omega (arith, records_part rs i d (omega arith)))

-- ---- the sheet's length

pub size_is : (version : ℕ) (s : TaskSet) → length (sheet_bytes version s) ≡ sealed_size (total header_widths + length (records_bits (own_deadlines version) (records_of s)))
unfolding sheet_bytes sheet_of
size_is version s =
    let h = header_bits version s.policy (length (map task_in (records_of s))) in
    let r = records_bits (own_deadlines version) (records_of s) in
    length_sealed (h ++ r) ∙ ap sealed_size (length-append h r ∙ ap (λ (k : ℕ). k + length r) (length_header _ _ _))

module _ (version : ℕ) (s : TaskSet) (e : admission s ≡ Ok tt) (long : length s.tasks ≡ most_tasks) where
  pub size_most : length (sheet_bytes version s) ≤ greatest_size
  size_most = (admitted_size version s long e).1

  pub bits_most : total header_widths + length (records_bits (own_deadlines version) (records_of s)) ≤ 8 * greatest_size
  bits_most = omega (arith, size_is version s, size_most)
