-- Fields by hand: what the definitions give on two and four bytes.
use Rattle.std.specs.Prelude.{[], ◌∷◌, ◌≡◌, refl, None, Some}
use Rattle.bits.specs.Packed.{value, digits, bits_of, bytes_of, field, with_field}
use Rattle.bits.specs.Faces.{within, taken, fits, stored}

-- 12 34: the eight bits from position 4 on are 23, most significant bit first
pub middle : taken (0x12 ∷ 0x34 ∷ []) 4 8 ≡ Some 0x23
unfolding taken within value field bits_of digits
middle = refl

-- twenty bits across four bytes
pub twenty : taken (0x01 ∷ 0xFF ∷ 0xFF ∷ 0xE0 ∷ []) 7 20 ≡ Some 0xFFFFF
unfolding taken within value field bits_of digits
twenty = refl

-- one bit past the end is no field
pub past_the_end : taken (0x12 ∷ 0x34 ∷ []) 9 8 ≡ None
unfolding taken within value field bits_of digits
past_the_end = refl

-- ABC at position 2, twelve bits wide: the two bits on each side stay
pub put : stored (0xFF ∷ 0xFF ∷ []) 2 12 0xABC ≡ 0xEA ∷ 0xF3 ∷ []
unfolding stored fits within with_field bytes_of bits_of digits value
put = refl

-- a number of thirteen bits does not fit twelve
pub too_large : stored (0xFF ∷ 0xFF ∷ []) 2 12 0x1ABC ≡ 0xFF ∷ 0xFF ∷ []
unfolding stored fits within with_field bytes_of bits_of digits value
too_large = refl
