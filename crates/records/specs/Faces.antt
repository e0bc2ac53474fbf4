-- What the public functions answer and leave, for every byte string, position and row.
use Rattle.std.specs.Prelude.{Bool, true, false, ◌&&◌, cond, List, [], ◌∷◌, ℕ, ◌+◌, ◌-◌, ◌*◌, ◌^◌, min, leb, ltb, eqb, length, take, drop, None, Option, Some}
use Rattle.bits.specs.Packed.{bits_of, bytes_of, with_field}
use Rattle.bits.specs.Faces.{widest}
use Rattle.lent.specs.Lent.{laid}
use Rattle.records.specs.Rows.{packed, unpacked, total}
use Rattle.records.specs.Sealed.{sealed_size, sealed_record}

-- the greatest bit position, a number of 64 bits
abbrev pub last_position : ℕ
last_position = 2 ^ 64 - 1

-- where a string of n bytes ends, as far as a position can tell
abbrev pub end_of : ℕ → ℕ
end_of n = min (8 * n) last_position

-- each field has 1 to 32 bits
unfoldable pub lawful : List ℕ → Bool
lawful [] = true
lawful (w ∷ ws) = leb 1 w && leb w widest && lawful ws

-- fields from a position on lie in a string of n bytes
unfoldable pub row_there : ℕ → ℕ → List ℕ → Bool
row_there n at ws = lawful ws && leb (at + total ws) (end_of n)

-- as many numbers as fields, and each fits its own
unfoldable pub each_fits : List ℕ → List ℕ → Bool
each_fits [] [] = true
each_fits [] (v ∷ vs) = false
each_fits (w ∷ ws) [] = false
each_fits (w ∷ ws) (v ∷ vs) = ltb v (2 ^ w) && each_fits ws vs

-- the position behind a row, where it was put or taken
abbrev pub ends : Bool → ℕ → List ℕ → Option ℕ
ends done at ws = cond done (Some (at + total ws)) None

-- a row can be put: its fields are there, and the numbers fit them
unfoldable pub row_fits : ℕ → ℕ → List ℕ → List ℕ → Bool
row_fits n at ws vs = row_there n at ws && each_fits ws vs

-- the string with some bits put at a position
unfoldable pub with_bits : List ℕ → ℕ → List Bool → List ℕ
with_bits s at bits = bytes_of (length s) (with_field at bits (bits_of s))

-- the string with the numbers in the fields; as it was, where the row cannot be put
unfoldable pub stored_row : List ℕ → ℕ → List ℕ → List ℕ → List ℕ
stored_row s at ws vs = cond (row_fits (length s) at ws vs) (with_bits s at (packed ws vs)) s

-- a row can be taken: its fields are there, and there are slots for their numbers
unfoldable pub row_has_slots : ℕ → ℕ → List ℕ → ℕ → Bool
row_has_slots n at ws slots = row_there n at ws && leb (length ws) slots

-- the lent numbers with those of the row first; as they were, where the row cannot be taken
unfoldable pub taken_row : List ℕ → ℕ → List ℕ → List ℕ → List ℕ
taken_row s at ws ns = cond (row_has_slots (length s) at ws (length ns)) (laid (unpacked ws (drop at (bits_of s))) ns) ns

-- how many bits a row takes, as far as a position can tell
abbrev pub width_of : List ℕ → ℕ
width_of ws = min (total ws) last_position

-- a string has the size of the sealed record of its first n bits
abbrev pub closes : ℕ → ℕ → Bool
closes size n = eqb size (sealed_size n)

-- the string made the sealed record of its first n bits; as it was, where it has not that record's size
unfoldable pub closed : List ℕ → ℕ → List ℕ
closed s n = cond (closes (length s) n) (sealed_record (take n (bits_of s))) s
