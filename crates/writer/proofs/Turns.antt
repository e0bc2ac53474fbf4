-- The loops over the records of a set: what is put, and what is counted, after i turns.
use mathlib.Core.Bool.{Bool}
use mathlib.Core.List.{List}
use mathlib.Core.Path.{◌≡◌, refl, sym, ap, ◌∙◌}
use Prim.Native.Nat.{ℕ, ◌+◌, ◌≤◌, ◌<◌}
use native.Mathlib.Omega.{arith}
use lib.ListN.{length, get_or, take, length-append}
use lib.Seq.{take_all}
use Rattle.sheet.specs.Fields.{header_widths, own_deadlines}
use Rattle.sheet.specs.Tasks.{task_in, records_of}
use Rattle.sheet.specs.Writing.{task_bits, sheet_bytes}
use Rattle.sheet.specs.declared.Task.{Task as Record}
use Rattle.sheet.specs.declared.TaskSet.{TaskSet}
use Rattle.records.specs.Rows.{total}
use Rattle.records.specs.Sealed.{sealed_size}
use Rattle.records.specs.Faces.{end_of, width_of}
use Rattle.records.specs.Inside.Steps.{Placed}
use Rattle.records.proofs.Placing.{placed_none, placed_behind}
use Rattle.records.proofs.Putting.{room_behind}
use Rattle.writer.proofs.Sets.{records_bits, no_records, record_more, records_part, size_is}

-- the first i of the records stand where they belong
pub record Stand (own : Bool) (b : List ℕ) (at : ℕ) (rs : List Record) (i : ℕ) (t : List ℕ) (next : ℕ) : Type 0 where
  pub put : Placed b at (records_bits own (take i rs)) t next
  pub same : length t ≡ length b

pub stand_none : (own : Bool) (b : List ℕ) (at : ℕ) (rs : List Record) → Stand own b at rs 0 b at
stand_none own b at rs = record { put = rw (no_records own rs) (placed_none b at); same = refl }

module _ (rs : List Record) (own : Bool) (b : List ℕ) (at : ℕ) (room : at + length (records_bits own rs) ≤ end_of (length b)) where
  module _ {i : ℕ} {t : List ℕ} {next : ℕ} (p : Stand own b at rs i t next) (d : Record) (h : i < length rs) where
    space : at + length (records_bits own (take i rs)) + length (task_bits own (task_in (get_or rs i d))) ≤ end_of (length b)
    space = omega (arith, records_part own rs i d h)

    pub stand_space : next + length (task_bits own (task_in (get_or rs i d))) ≤ end_of (length t)
    stand_space = room_behind (records_bits own (take i rs)) _ space p.put

    pub stand_more : {u : List ℕ} {end : ℕ} → length u ≡ length t → Placed t next (task_bits own (task_in (get_or rs i d))) u end → Stand own b at rs (i + 1) u end
    stand_more l q =
        record {
          put =
              rw (record_more own rs i d h)
              (placed_behind (records_bits own (take i rs)) (task_bits own (task_in (get_or rs i d))) (omega (arith, space)) p.put q);
          same = l ∙ p.same;
        }

pub stand_all : {own : Bool} {b t : List ℕ} {at i next : ℕ} (rs : List Record) → Stand own b at rs i t next → length rs ≤ i → Placed b at (records_bits own rs) t next
stand_all {i = i} rs p h = let e = take_all i rs h in rw e at p.put

-- the header's bits and those of the first i records are counted
pub record Counted (own : Bool) (rs : List Record) (i bits : ℕ) : Type 0 where
  pub sum : bits ≡ total header_widths + length (records_bits own (take i rs))

pub counted_none : (own : Bool) (rs : List Record) (ws : List ℕ) (n : ℕ) → ws ≡ header_widths → n ≡ width_of ws → Counted own rs 0 n
unfolding total
counted_none own rs ws n ew e = record { sum = e ∙ ap width_of ew ∙ sym (rw (no_records own rs) refl) }

module _ (own : Bool) (rs : List Record) {i bits : ℕ} (p : Counted own rs i bits) (d : Record) (h : i < length rs) (w : ℕ) (is : w ≡ length (task_bits own (task_in (get_or rs i d)))) where
  pub counted_within : bits + w ≤ total header_widths + length (records_bits own rs)
  counted_within = omega (arith, p.sum, is, records_part own rs i d h)

  pub counted_more : Counted own rs (i + 1) (bits + w)
  counted_more =
      record {
        sum =
            rw (record_more own rs i d h, length-append (records_bits own (take i rs)) (task_bits own (task_in (get_or rs i d))))
            (omega (arith, p.sum, is));
      }

pub counted_size : (version : ℕ) (s : TaskSet) {i bits : ℕ} → Counted (own_deadlines version) (records_of s) i bits → length (records_of s) ≤ i → sealed_size bits ≡ length (sheet_bytes version s)
counted_size version s {i} p h =
    let e = take_all i (records_of s) h in
    let all = rw e at p.sum in
    ap sealed_size all ∙ sym (size_is version s)
