-- What was put is read back, everything else stays, and fields one after another compose: for every byte string, position and width.
use Rattle.std.specs.Prelude.{Some}
use mathlib.Core.Bool.{Bool}
use mathlib.Core.List.{List, ◌++◌}
use mathlib.Core.Logic.{◌⊎◌, inl, inr}
use mathlib.Core.Path.{◌≡◌, sym, ap, ◌∙◌}
use Prim.Native.Nat.{ℕ, ◌+◌, ◌-◌, ◌*◌, ◌^◌, ◌≤◌, ◌<◌}
use native.Mathlib.Nat.{mod-eq_of_lt}
use native.Mathlib.Omega.{arith}
use lib.ListN.{length}
use Rattle.bits.specs.Packed.{value, digits, bits_of, field, with_field}
use Rattle.bits.specs.Faces.{taken, stored}
use Rattle.bits.proofs.Laws.{length_digits, value_digits, length_bits, length_bytes, bits_bytes}
use Rattle.bits.proofs.Fields.{length_with_field, read_back, stays_before, stays_behind, with_fields}
use Rattle.bits.proofs.Within.{Inside}
use Rattle.bits.proofs.Faces.{taken_value, taken_bits, fits_well, stored_well}

-- a field that is there, and a number that fits it
module _ (s : List ℕ) (at w v : ℕ) (h : Inside (length s) at w) (l : v < 2 ^ w) where
  pub bits_stored : bits_of (stored s at w v) ≡ with_field at (digits w v) (bits_of s)
  bits_stored = ap bits_of (stored_well s at w v (fits_well s at w v h l)) ∙ bits_bytes (length s) _ all
    where
      all : length (with_field at (digits w v) (bits_of s)) ≡ 8 * length s
      all = length_with_field at (digits w v) (bits_of s) (rw (length_digits w v, length_bits s) h.there) ∙ length_bits s

  pub length_stored : length (stored s at w v) ≡ length s
  length_stored = rw (stored_well s at w v (fits_well s at w v h l)) (length_bytes (length s) _)

  -- what was put is read back
  pub put_then_take : taken (stored s at w v) at w ≡ Some v
  put_then_take =
      taken_value (stored s at w v) at w (rw length_stored h)
      ∙ ap Some
      (ap (λ (bs : List Bool). value (field at w bs)) bits_stored
      ∙ ap (λ (k : ℕ). value (field at k (with_field at (digits w v) (bits_of s)))) (sym (length_digits w v))
      ∙ ap value (read_back at (digits w v) (bits_of s) (rw (length_digits w v, length_bits s) h.there))
      ∙ value_digits w v
      ∙ mod-eq_of_lt l)

  -- every field before it, and every field behind it, stays
  pub others_stay : (a u : ℕ) → (a + u ≤ at) ⊎ (at + w ≤ a) → taken (stored s at w v) a u ≡ taken s a u
  others_stay a u side = taken_bits (stored s at w v) s a u length_stored (ap (field a u) bits_stored ∙ same side)
    where
      same : (a + u ≤ at) ⊎ (at + w ≤ a) → field a u (with_field at (digits w v) (bits_of s)) ≡ field a u (bits_of s)
      same (inl b) = stays_before at (digits w v) (bits_of s) a u (rw (length_bits s) (omega (arith, h.there))) b
      same (inr b) =
          rw (← gap) (stays_behind at (digits w v) (bits_of s) (a - (at + w)) u (rw (length_digits w v, length_bits s) h.there))
        where
          gap : at + length (digits w v) + (a - (at + w)) ≡ a
          gap = rw (length_digits w v) (omega arith)

-- fields one after another compose
pub puts_compose : (s : List ℕ) (at w v u x : ℕ) → Inside (length s) at w → v < 2 ^ w → Inside (length s) (at + w) u → x < 2 ^ u
    → bits_of (stored (stored s at w v) (at + w) u x) ≡ with_field at (digits w v ++ digits u x) (bits_of s)
puts_compose s at w v u x h l h' l' =
    bits_stored (stored s at w v) (at + w) u x (rw (length_stored s at w v h l) h') l'
    ∙ ap (with_field (at + w) (digits u x)) (bits_stored s at w v h l)
    ∙ ap (λ (k : ℕ). with_field (at + k) (digits u x) (with_field at (digits w v) (bits_of s))) (sym (length_digits w v))
    ∙ with_fields at (digits w v) (digits u x) (bits_of s) (rw (length_digits w v, length_digits u x, length_bits s) h'.there)
