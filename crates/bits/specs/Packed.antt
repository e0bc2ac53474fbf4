-- SCOPE.md, "The sheet": packed bits. A bit is a Bool, true for 1; the most significant bit of a number stands first.
use Rattle.std.specs.Prelude.{Bool, true, false, List, [], ◌∷◌, ◌++◌, ℕ, zero, suc, ◌+◌, ◌*◌, ◌/◌, ◌%◌, ◌^◌, ◌<◌, eqb, length, get_or, take, drop}

-- what a bit counts
abbrev pub bit : Bool → ℕ
bit false = 0
bit true = 1

-- the number that bits stand for, most significant bit first
unfoldable pub value : List Bool → ℕ
value [] = 0
value (b ∷ bs) = bit b * 2 ^ length bs + value bs

abbrev pub odd : ℕ → Bool
odd n = eqb (n % 2) 1

-- the last w binary digits of a number, most significant bit first
unfoldable pub digits : ℕ → ℕ → List Bool
digits zero n = []
digits (suc w) n = odd (n / 2 ^ w) ∷ digits w n

-- a list of numbers is a byte string
abbrev pub Bytes : List ℕ → Type 0
Bytes s = (i : ℕ) → get_or s i 0 < 256

-- the bits of a byte string, eight from each byte
unfoldable pub bits_of : List ℕ → List Bool
bits_of [] = []
bits_of (b ∷ bs) = digits 8 b ++ bits_of bs

-- the first n bytes that bits make, eight bits to each
unfoldable pub bytes_of : ℕ → List Bool → List ℕ
bytes_of zero bs = []
bytes_of (suc n) bs = value (take 8 bs) ∷ bytes_of n (drop 8 bs)

-- the field of w bits from bit position `at` on
unfoldable pub field : ℕ → ℕ → List Bool → List Bool
field at w bs = take w (drop at bs)

-- the same bits with those of a field put at bit position `at`
unfoldable pub with_field : ℕ → List Bool → List Bool → List Bool
with_field at f bs = take at bs ++ f ++ drop (at + length f) bs
