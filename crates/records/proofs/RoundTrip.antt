-- What was put is taken, everything else stays, bits behind bits compose, and a sealed record holds what was put into it: for every byte string, position and row.
use mathlib.Core.Bool.{Bool, true, false, cond}
use mathlib.Core.List.{List, [], ◌∷◌, ◌++◌, append_assoc}
use mathlib.Core.Logic.{◌⊎◌, inl, inr}
use mathlib.Core.Path.{◌≡◌, refl, sym, ap, ap₂, ◌∙◌}
use Prim.Native.Nat.{ℕ, ◌+◌, ◌-◌, ◌*◌, ◌≤◌}
use native.Mathlib.Omega.{arith}
use borrow.Author.Tests.{eq-eqb}
use lib.ListN.{length, take, drop, replicate}
use lib.Seq.{drop_at, length-take-le}
use Rattle.bits.specs.Packed.{digits, bits_of, bytes_of, field, with_field}
use Rattle.bits.specs.Faces.{taken}
use Rattle.bits.proofs.Faces.{taken_bits}
use Rattle.bits.proofs.Fields.{length_with_field, stays_before, stays_behind, with_fields}
use Rattle.bits.proofs.Laws.{length_bits, length_bytes, bits_bytes}
use Rattle.check_word.specs.Division.{body}
use Rattle.check_word.proofs.Sealing.{body_seal}
use Rattle.lent.specs.Lent.{laid}
use Rattle.records.specs.Rows.{packed, unpacked, total}
use Rattle.records.specs.Sealed.{sealed_record, sealed_size, whole_bytes}
use Rattle.records.specs.Faces.{row_fits, with_bits, stored_row, row_has_slots, taken_row, closed}
use Rattle.records.proofs.Packing.{length_packed, unpacked_packed}
use Rattle.records.proofs.Rows.{as_many, fit_of}
use Rattle.records.proofs.Faces.{Puts, puts, row_put, take_both}
use Rattle.records.proofs.Filling.{fill_of, bits_whole}

-- ---- bits put at a position

module _ (s : List ℕ) (at : ℕ) (f : List Bool) (h : at + length f ≤ 8 * length s) where
  in_bits : at + length f ≤ length (bits_of s)
  in_bits = rw (length_bits s) h

  pub bits_with : bits_of (with_bits s at f) ≡ with_field at f (bits_of s)
  unfolding with_bits
  bits_with = bits_bytes (length s) _ (length_with_field at f (bits_of s) in_bits ∙ length_bits s)

  pub length_with : length (with_bits s at f) ≡ length s
  unfolding with_bits
  length_with = length_bytes (length s) _

  -- every field before them, and every field behind them, stays
  pub others_stay : (a w : ℕ) → (a + w ≤ at) ⊎ (at + length f ≤ a) → taken (with_bits s at f) a w ≡ taken s a w
  others_stay a w side = taken_bits (with_bits s at f) s a w length_with (ap (field a w) bits_with ∙ same side)
    where
      same : (a + w ≤ at) ⊎ (at + length f ≤ a) → field a w (with_field at f (bits_of s)) ≡ field a w (bits_of s)
      same (inl b) = stays_before at f (bits_of s) a w (omega (arith, in_bits)) b
      same (inr b) =
          let gap : at + length f + (a - (at + length f)) ≡ a = omega arith in
          rw (← gap) (stays_behind at f (bits_of s) (a - (at + length f)) w in_bits)

  -- what stands from the position on
  pub behind_with : drop at (bits_of (with_bits s at f)) ≡ f ++ drop (at + length f) (bits_of s)
  unfolding with_field
  behind_with =
      ap (drop at) (bits_with ∙ append_assoc (take at (bits_of s)) f (drop (at + length f) (bits_of s)))
      ∙ drop_at (take at (bits_of s)) _ at (length-take-le at (bits_of s) (omega (arith, in_bits)))

-- bits behind bits are put at once
pub puts_compose : (s : List ℕ) (at : ℕ) (f g : List Bool) → at + length f + length g ≤ 8 * length s
    → with_bits (with_bits s at f) (at + length f) g ≡ with_bits s at (f ++ g)
unfolding with_bits
puts_compose s at f g h =
    let first : at + length f ≤ 8 * length s = omega arith in
    ap₂ (λ (n : ℕ) (bs : List Bool). bytes_of n (with_field (at + length f) g bs)) (length_with s at f first) (bits_with s at f first)
    ∙ ap (bytes_of (length s)) (with_fields at f g (bits_of s) (rw (length_bits s) h))

-- ---- rows

-- rows behind rows are one row
pub packed_append : (ws us vs xs : List ℕ) → length ws ≡ length vs → packed (ws ++ us) (vs ++ xs) ≡ packed ws vs ++ packed us xs
unfolding packed
packed_append [] us [] xs e = refl
packed_append [] us (v ∷ vs) xs e = let z : ⊥ = omega arith in absurd z
packed_append (w ∷ ws) us [] xs e = let z : ⊥ = omega arith in absurd z
packed_append (w ∷ ws) us (v ∷ vs) xs e =
    rw (packed_append ws us vs xs (omega arith)) (sym (append_assoc (digits w v) (packed ws vs) (packed us xs)))

module _ (s : List ℕ) (at : ℕ) (ws vs : List ℕ) (e : row_fits (length s) at ws vs ≡ true) where
  row : Puts (length s) at ws vs
  row = puts (length s) at ws vs e

  wide : length (packed ws vs) ≡ total ws
  wide = length_packed ws vs (as_many ws vs row.fits)

  pub row_room : at + length (packed ws vs) ≤ 8 * length s
  row_room = rw wide row.room

  pub stored_is : stored_row s at ws vs ≡ with_bits s at (packed ws vs)
  unfolding stored_row
  stored_is = ap (λ (b : Bool). cond b (with_bits s at (packed ws vs)) s) e

  pub length_stored : length (stored_row s at ws vs) ≡ length s
  length_stored = ap length stored_is ∙ length_with s at (packed ws vs) row_room

  -- the numbers that were put are taken
  pub put_then_take : (ns : List ℕ) → length ws ≤ length ns → taken_row (stored_row s at ws vs) at ws ns ≡ laid vs ns
  unfolding taken_row
  put_then_take ns h =
      ap (λ (b : Bool). cond b (laid (unpacked ws (drop at (bits_of (stored_row s at ws vs)))) ns) ns)
      (ap (λ (n : ℕ). row_has_slots n at ws (length ns)) length_stored ∙ take_both (length s) at ws (length ns) (row_put (length s) at ws vs e) h)
      ∙ ap (λ (ms : List ℕ). laid ms ns)
      (ap (unpacked ws) (ap (λ (t : List ℕ). drop at (bits_of t)) stored_is ∙ behind_with s at (packed ws vs) row_room)
      ∙ unpacked_packed (fit_of ws vs row.fits) _)

-- ---- sealed records

-- a string of a sealed record's size that starts with some bits is closed to their sealed record
pub closed_is : (s : List ℕ) (n : ℕ) (bits : List Bool) → take n (bits_of s) ≡ bits → length s ≡ sealed_size n → closed s n ≡ sealed_record bits
unfolding closed
closed_is s n bits e h =
    ap (λ (b : Bool). cond b (sealed_record (take n (bits_of s))) s) (eq-eqb (length s) (sealed_size n) h) ∙ ap sealed_record e

-- a sealed record's bytes before the check word are its bits and the fill
pub sealed_bits : (bits : List Bool) → bits_of (body (sealed_record bits)) ≡ bits ++ replicate (fill_of bits) false
unfolding sealed_record
sealed_bits bits = ap bits_of (body_seal (whole_bytes bits)) ∙ bits_whole bits
