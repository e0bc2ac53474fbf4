-- Laws of `Placed`: one field, nothing, bits behind bits, and the fields of a row one after another.
use mathlib.Core.Bool.{Bool, true}
use mathlib.Core.List.{List, [], ◌++◌, append-nil}
use mathlib.Core.Path.{◌≡◌, refl, sym, ap, ap₂, ◌∙◌}
use Prim.Native.Nat.{ℕ, ◌+◌, ◌*◌, ◌^◌, ◌≤◌, ◌<◌}
use native.Mathlib.Nat.{add-zero}
use native.Mathlib.Numerals.{add-one}
use native.Mathlib.Omega.{arith}
use lib.ListN.{length, get_or, take, length-append, length-take, take-append-drop}
use lib.Seq.{take-suc, take_all}
use Rattle.bits.specs.Packed.{digits, bits_of, with_field}
use Rattle.bits.specs.Faces.{stored}
use Rattle.bits.proofs.Fields.{with_fields, length_with_field}
use Rattle.bits.proofs.Laws.{length_digits, length_bits}
use Rattle.bits.proofs.RoundTrip.{bits_stored}
use Rattle.bits.proofs.Within.{Inside}
use Rattle.records.specs.Rows.{packed, total}
use Rattle.records.specs.Faces.{lawful, each_fits}
use Rattle.records.specs.Inside.Steps.{Placed}
use Rattle.records.proofs.Packing.{length_packed, packed_more, total_part}
use Rattle.records.proofs.Rows.{lawful_at, as_many, fits_at}

pub placed_field : (s : List ℕ) (at w v : ℕ) → Inside (length s) at w → v < 2 ^ w → Placed s at (digits w v) (stored s at w v) (at + w)
placed_field s at w v h l =
    record { placed = bits_stored s at w v h l; behind = ap (λ (k : ℕ). at + k) (sym (length_digits w v)) }

pub placed_none : (s : List ℕ) (at : ℕ) → Placed s at [] s at
unfolding with_field
placed_none s at =
    record {
      placed = sym (rw (append-nil (take at (bits_of s)), add-zero at) (take-append-drop at (bits_of s)));
      behind = sym (add-zero at);
    }

pub placed_long : {s t : List ℕ} {at next : ℕ} {f : List Bool} → at + length f ≤ 8 * length s → Placed s at f t next → length t ≡ length s
placed_long {s} {t} {at} {next} {f} h p =
    omega (arith, length_bits s, length_bits t, ap length p.placed, length_with_field at f (bits_of s) (rw (length_bits s) h))

-- bits behind bits are one row of bits
pub placed_behind : {s t u : List ℕ} {at next end : ℕ} (f g : List Bool) → at + length f + length g ≤ 8 * length s
    → Placed s at f t next → Placed t next g u end → Placed s at (f ++ g) u end
placed_behind {s} {t} {u} {at} {next} {end} f g h p q =
    record {
      placed =
          q.placed
          ∙ ap₂ (λ (k : ℕ) (bs : List Bool). with_field k g bs) p.behind p.placed
          ∙ with_fields at f g (bits_of s) (rw (length_bits s) h);
      behind = rw (length-append f g) (omega (arith, p.behind, q.behind));
    }

-- the first i fields of a row stand where they belong
pub record RowTo (s : List ℕ) (at : ℕ) (ws vs : List ℕ) (i : ℕ) (t : List ℕ) (next : ℕ) : Type 0 where
  pub put : Placed s at (packed (take i ws) (take i vs)) t next
  pub in_row : i ≤ length ws
  pub long : length t ≡ length s

pub row_none : (s : List ℕ) (at : ℕ) (ws vs : List ℕ) → RowTo s at ws vs 0 s at
unfolding packed
row_none s at ws vs = record { put = placed_none s at; in_row = omega arith; long = refl }

module _ {s t : List ℕ} {at next i : ℕ} {ws vs : List ℕ} (widths : lawful ws ≡ true) (room : at + total ws ≤ 8 * length s) (fits : each_fits ws vs ≡ true)
    (p : RowTo s at ws vs i t next) (l : i < length ws) where
  so_far : length (packed (take i ws) (take i vs)) ≡ total (take i ws)
  so_far = length_packed (take i ws) (take i vs) (rw (length-take i ws, length-take i vs, as_many ws vs fits))

  next_is : next ≡ at + total (take i ws)
  next_is = p.put.behind ∙ ap (λ (k : ℕ). at + k) so_far

  -- the next field is there
  row_inside : Inside (length t) next (get_or ws i 0)
  row_inside =
      let w = lawful_at ws widths i l in
      record { low = w.0; high = w.1; there = omega (arith, next_is, total_part ws i l, p.long) }

  -- and ends within the row
  pub row_end : (w : ℕ) → w ≡ get_or ws i 0 → next + w ≤ at + total ws
  row_end w e = omega (arith, next_is, total_part ws i l)

  pub row_more : (w v j : ℕ) → w ≡ get_or ws i 0 → v ≡ get_or vs i 0 → j ≡ i + 1 → RowTo s at ws vs j (stored t next w v) (next + w)
  row_more w v j ew ev ej =
      rw (ew, ev, ej)
      (let q = placed_field t next (get_or ws i 0) (get_or vs i 0) row_inside (fits_at ws vs fits i l) in
      let here : next + length (digits (get_or ws i 0) (get_or vs i 0)) ≤ 8 * length t = rw (length_digits (get_or ws i 0) (get_or vs i 0)) row_inside.there in
      record {
        put =
            rw (add-one i, take-suc ws i 0 l, take-suc vs i 0 (rw (← as_many ws vs fits) l), packed_more (take i ws) (take i vs) (get_or ws i 0) (get_or vs i 0) (rw (length-take i ws, length-take i vs, as_many ws vs fits)))
            (placed_behind (packed (take i ws) (take i vs)) (digits (get_or ws i 0) (get_or vs i 0))
            (rw (so_far, length_digits (get_or ws i 0) (get_or vs i 0)) (omega (arith, total_part ws i l))) p.put q);
        in_row = omega arith;
        long = placed_long here q ∙ p.long;
      })

pub row_all : {s t : List ℕ} {at next i : ℕ} {ws vs : List ℕ} → length ws ≡ length vs → RowTo s at ws vs i t next → length ws ≤ i → Placed s at (packed ws vs) t next
row_all {i = i} {ws = ws} {vs = vs} e p h = rw (take_all i ws h, take_all i vs (rw (← e) h)) at p.put
