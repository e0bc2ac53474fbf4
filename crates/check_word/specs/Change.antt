-- What a change of a byte string is, in bits.
use Rattle.std.specs.Prelude.{Bool, false, not, List, ◌⊎◌, ◌≡◌, ℕ, ◌+◌, ◌≤◌, ◌<◌, length, get_or, set}
use Rattle.bits.specs.Packed.{bits_of, bytes_of}

-- two lists of bits agree at every position but perhaps the n neighbouring ones from k on
abbrev pub AgreeOutside : ℕ → ℕ → List Bool → List Bool → Type 0
AgreeOutside k n bs cs = (i : ℕ) → (i < k) ⊎ (k + n ≤ i) → get_or bs i false ≡ get_or cs i false

-- the bits with the one at position i inverted
unfoldable pub inverted : ℕ → List Bool → List Bool
inverted i bs = set bs i (not (get_or bs i false))

-- the byte string with the bit at position i inverted
unfoldable pub with_bit_inverted : ℕ → List ℕ → List ℕ
with_bit_inverted i s = bytes_of (length s) (inverted i (bits_of s))
