-- The numbers of a row, taken one after another.
use Rattle.std.specs.Prelude.{Option, unwrap_or}
use mathlib.Core.List.{List}
use mathlib.Core.Path.{◌≡◌, sym, ap, ◌∙◌}
use Prim.Native.Nat.{ℕ, ◌+◌, ◌*◌, ◌≤◌, ◌<◌}
use native.Mathlib.Nat.{add-zero}
use native.Mathlib.Numerals.{add-one}
use native.Mathlib.Omega.{arith}
use lib.ListN.{length, get_or, take, drop, set}
use lib.Seq.{take_all}
use Rattle.bits.specs.Packed.{value, bits_of, field}
use Rattle.bits.specs.Faces.{taken}
use Rattle.bits.proofs.Faces.{taken_value}
use Rattle.bits.proofs.Fields.{field_drop}
use Rattle.bits.proofs.Within.{Inside}
use Rattle.lent.specs.Lent.{laid}
use Rattle.lent.proofs.Laid.{laid_to, laid_none, laid_more, laid_all}
use Rattle.records.specs.Rows.{unpacked, total}
use Rattle.records.proofs.Faces.{Takes}
use Rattle.records.proofs.Filling.{field_rest}
use Rattle.records.proofs.Packing.{length_unpacked, number_in, total_more, total_part}
use Rattle.records.proofs.Rows.{lawful_at}

pub number_is : (s : List ℕ) (at w : ℕ) → Inside (length s) at w → unwrap_or (taken s at w) 0 ≡ value (field at w (bits_of s))
number_is s at w h = ap (λ (o : Option ℕ). unwrap_or o 0) (taken_value s at w h)

-- the number of all that is left behind a position
pub number_left : (s : List ℕ) (at w : ℕ) (o : Option ℕ) (v : ℕ) → o ≡ taken s at w → v ≡ unwrap_or o 0 → 1 ≤ w → w ≤ 8 → at + w ≡ 8 * length s → v ≡ value (drop at (bits_of s))
number_left s at w o v e f low high end =
    f
    ∙ ap (λ (p : Option ℕ). unwrap_or p 0) e
    ∙ number_is s at w (record { low = low; high = omega arith; there = omega arith })
    ∙ ap value (field_rest s at w (omega arith))

-- the first i numbers of a row stand in their slots
pub record TakenTo (s : List ℕ) (at : ℕ) (ws ns : List ℕ) (i : ℕ) (ms : List ℕ) (next : ℕ) : Type 0 where
  pub in_row : i ≤ length ws
  pub position : next ≡ at + total (take i ws)
  pub hold : ms ≡ laid_to (unpacked ws (drop at (bits_of s))) ns i

pub taken_none : (s : List ℕ) (at : ℕ) (ws ns : List ℕ) → TakenTo s at ws ns 0 ns at
unfolding total
taken_none s at ws ns = record { in_row = omega arith; position = sym (add-zero at); hold = sym (laid_none _ ns) }

module _ {s : List ℕ} {at : ℕ} {ws ns : List ℕ} (row : Takes (length s) at ws (length ns)) {i next : ℕ} {ms : List ℕ} (p : TakenTo s at ws ns i ms next) where
  as_many : length (unpacked ws (drop at (bits_of s))) ≡ length ws
  as_many = length_unpacked ws (drop at (bits_of s))

  module _ (l : i < length ws) where
    pub taken_inside : Inside (length s) next (get_or ws i 0)
    taken_inside =
        let w = lawful_at ws row.widths i l in
        record { low = w.0; high = w.1; there = omega (arith, p.position, total_part ws i l, row.room) }

    pub taken_more : (v : ℕ) → v ≡ unwrap_or (taken s next (get_or ws i 0)) 0 → TakenTo s at ws ns (i + 1) (set ms i v) (next + get_or ws i 0)
    taken_more v e =
        let is : v ≡ get_or (unpacked ws (drop at (bits_of s))) i 0 =
        e
        ∙ number_is s next (get_or ws i 0) taken_inside
        ∙ ap (λ (k : ℕ). value (field k (get_or ws i 0) (bits_of s))) p.position
        ∙ ap value (field_drop at (total (take i ws)) (get_or ws i 0) (bits_of s))
        ∙ sym (number_in ws (drop at (bits_of s)) i l) in
        record {
          in_row = omega arith;
          position = rw (add-one i) (omega (arith, p.position, total_more ws i l));
          hold = rw (p.hold, is) (laid_more _ ns i 0 (omega (arith, as_many)) (omega (arith, row.enough)));
        }

  module _ (h : length ws ≤ i) where
    pub taken_end : next ≡ at + total ws
    taken_end = p.position ∙ ap (λ (l : List ℕ). at + total l) (take_all i ws h)

    pub taken_all : ms ≡ laid (unpacked ws (drop at (bits_of s))) ns
    taken_all =
        let whole : take i (unpacked ws (drop at (bits_of s))) ≡ unpacked ws (drop at (bits_of s)) = take_all i _ (rw as_many h) in
        let count : length (take i (unpacked ws (drop at (bits_of s)))) ≡ i = ap length whole ∙ as_many ∙ omega (arith, p.in_row) in
        p.hold
        ∙ laid_all (unpacked ws (drop at (bits_of s))) ns i count
        ∙ ap (λ (l : List ℕ). laid l ns) whole
