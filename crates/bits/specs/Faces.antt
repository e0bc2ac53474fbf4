-- What the two public functions answer and leave, for every byte string, position and width.
use Rattle.std.specs.Prelude.{Bool, ◌&&◌, cond, List, ℕ, ◌+◌, ◌*◌, ◌^◌, leb, ltb, length, None, Option, Some}
use Rattle.bits.specs.Packed.{value, digits, bits_of, bytes_of, field, with_field}

-- the most bits that a field has
abbrev pub widest : ℕ
widest = 32

-- a field has 1 to 32 bits and lies wholly in a string of n bytes
unfoldable pub within : ℕ → ℕ → ℕ → Bool
within n at w = leb 1 w && leb w widest && leb (at + w) (8 * n)

-- the number in the field, where there is such a field
unfoldable pub taken : List ℕ → ℕ → ℕ → Option ℕ
taken s at w = cond (within (length s) at w) (Some (value (field at w (bits_of s)))) None

-- there is such a field, and the number fits it
unfoldable pub fits : ℕ → ℕ → ℕ → ℕ → Bool
fits n at w v = within n at w && ltb v (2 ^ w)

-- the string with the number in the field; as it was, where there is no such field or the number does not fit it
unfoldable pub stored : List ℕ → ℕ → ℕ → ℕ → List ℕ
stored s at w v = cond (fits (length s) at w v) (bytes_of (length s) (with_field at (digits w v) (bits_of s))) s
