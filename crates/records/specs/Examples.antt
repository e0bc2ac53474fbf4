-- Rows and records by hand: what the definitions give.
use Rattle.std.specs.Prelude.{true, false, [], ◌∷◌, ◌≡◌, refl, Ok, Err}
use Rattle.std.proofs.Math.Bool.{xor}
use Rattle.bits.specs.Packed.{value, digits, bits_of, bytes_of, with_field}
use Rattle.check_word.specs.Division.{added, polynomial, divided, remainder, started, check_word, seal}
use Rattle.lent.specs.Lent.{laid}
use Rattle.records.specs.Rows.{packed, unpacked, total}
use Rattle.records.specs.Sealed.{whole_bytes, sealed_record, some_set, rest_of}
use Rattle.records.specs.Faces.{lawful, row_there, each_fits, row_fits, with_bits, stored_row, row_has_slots, taken_row, closed}
use Rattle.records.specs.declared.Surplus.TheVariants.{ByteLeft, BitSet}

rows : Unit {0}
unfolding packed unpacked total lawful row_there each_fits row_fits with_bits stored_row row_has_slots taken_row laid value digits bits_of bytes_of with_field
rows = tt

records : Unit {0}
unfolding rows whole_bytes sealed_record some_set rest_of closed added polynomial divided remainder started check_word seal xor
records = tt

-- 1, 2 and 3 in fields of 4, 2 and 6 bits from position 4 on: the four bits before them stay
pub put_three : stored_row (0xFF ∷ 0x00 ∷ []) 4 (4 ∷ 2 ∷ 6 ∷ []) (1 ∷ 2 ∷ 3 ∷ []) ≡ 0xF1 ∷ 0x83 ∷ []
unfolding rows
put_three = refl

-- all or nothing: 4 does not fit two bits
pub put_none : stored_row (0xFF ∷ 0x00 ∷ []) 4 (4 ∷ 2 ∷ 6 ∷ []) (1 ∷ 4 ∷ 3 ∷ []) ≡ 0xFF ∷ 0x00 ∷ []
unfolding rows
put_none = refl

-- the same three numbers taken; the fourth of the lent numbers keeps its content
pub take_three : taken_row (0xF1 ∷ 0x83 ∷ []) 4 (4 ∷ 2 ∷ 6 ∷ []) (7 ∷ 7 ∷ 7 ∷ 7 ∷ []) ≡ 1 ∷ 2 ∷ 3 ∷ 7 ∷ []
unfolding rows
take_three = refl

-- one bit past the end: nothing is taken
pub take_none : taken_row (0xF1 ∷ 0x83 ∷ []) 4 (4 ∷ 2 ∷ 7 ∷ []) (7 ∷ 7 ∷ 7 ∷ []) ≡ 7 ∷ 7 ∷ 7 ∷ []
unfolding rows
take_none = refl

-- the first nine bits of a string of four bytes made a sealed record: seven zeros, and the check word of 41 00
pub close_nine : closed (0x41 ∷ 0x7F ∷ 0xAB ∷ 0xCD ∷ []) 9 ≡ 0x41 ∷ 0x00 ∷ 0x23 ∷ 0xF2 ∷ []
unfolding records
close_nine = refl

pub left_zeros : rest_of (false ∷ false ∷ []) ≡ Ok tt
unfolding records
left_zeros = refl

pub left_set : rest_of (false ∷ true ∷ []) ≡ Err BitSet
unfolding records
left_set = refl

pub left_byte : rest_of (bits_of (0 ∷ [])) ≡ Err ByteLeft
unfolding records
left_byte = refl
