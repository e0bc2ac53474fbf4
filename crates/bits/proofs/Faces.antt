-- Laws of the two public faces, `taken` and `stored`, for their callers.
use Rattle.std.specs.Prelude.{None, Some}
use mathlib.Core.Bool.{true, false}
use mathlib.Core.List.{List}
use mathlib.Core.Path.{◌≡◌}
use Prim.Native.Nat.{ℕ, ◌^◌, ◌≤◌, ◌<◌}
use borrow.Author.Tests.{lt-ltb, le-ltb}
use lib.ListN.{length}
use Rattle.bits.specs.Packed.{value, digits, bits_of, bytes_of, field, with_field}
use Rattle.bits.specs.Faces.{within, taken, fits, stored}
use Rattle.bits.proofs.Within.{Inside, within_in}

module _ (s : List ℕ) (at w : ℕ) where
  pub taken_outside : within (length s) at w ≡ false → taken s at w ≡ None
  unfolding taken
  taken_outside e = rw e

  pub taken_value : Inside (length s) at w → taken s at w ≡ Some (value (field at w (bits_of s)))
  unfolding taken
  taken_value h = rw (within_in (length s) at w h.low h.high h.there)

-- a field with the same bits in two strings of the same length is taken alike
pub taken_bits : (s t : List ℕ) (at w : ℕ) → length s ≡ length t → field at w (bits_of s) ≡ field at w (bits_of t) → taken s at w ≡ taken t at w
unfolding taken
taken_bits s t at w l e = rw (l, e)

module _ (s : List ℕ) (at w v : ℕ) where
  pub fits_outside : within (length s) at w ≡ false → fits (length s) at w v ≡ false
  unfolding fits
  fits_outside e = rw e

  pub fits_not : Inside (length s) at w → 2 ^ w ≤ v → fits (length s) at w v ≡ false
  unfolding fits
  fits_not h l = rw (within_in (length s) at w h.low h.high h.there, le-ltb v (2 ^ w) l)

  pub fits_well : Inside (length s) at w → v < 2 ^ w → fits (length s) at w v ≡ true
  unfolding fits
  fits_well h l = rw (within_in (length s) at w h.low h.high h.there, lt-ltb v (2 ^ w) l)

  pub stored_not : fits (length s) at w v ≡ false → stored s at w v ≡ s
  unfolding stored
  stored_not e = rw e

  pub stored_well : fits (length s) at w v ≡ true → stored s at w v ≡ bytes_of (length s) (with_field at (digits w v) (bits_of s))
  unfolding stored
  stored_well e = rw e
