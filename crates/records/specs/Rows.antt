-- Rows of fields, one behind the other with no gaps: numbers to bits, and bits to numbers.
use Rattle.std.specs.Prelude.{Bool, List, [], ◌∷◌, ◌++◌, ℕ, ◌+◌, take, drop}
use Rattle.bits.specs.Packed.{value, digits}

-- numbers in fields of the given widths
unfoldable pub packed : List ℕ → List ℕ → List Bool
packed [] vs = []
packed (w ∷ ws) [] = []
packed (w ∷ ws) (v ∷ vs) = digits w v ++ packed ws vs

-- the numbers that stand in fields of the given widths
unfoldable pub unpacked : List ℕ → List Bool → List ℕ
unpacked [] bs = []
unpacked (w ∷ ws) bs = value (take w bs) ∷ unpacked ws (drop w bs)

-- how many bits fields take
unfoldable pub total : List ℕ → ℕ
total [] = 0
total (w ∷ ws) = w + total ws
