-- A sealed record: bits filled up to whole bytes, and their check word behind them.
use Rattle.std.specs.Prelude.{Bool, true, false, cond, List, [], ◌∷◌, ◌++◌, ℕ, ◌+◌, ◌-◌, ◌*◌, ◌/◌, leb, length, replicate, Result, Ok, Err}
use Rattle.bits.specs.Packed.{bytes_of}
use Rattle.check_word.specs.Division.{word_size, seal}
use Rattle.records.specs.declared.Surplus.{Surplus}
use Rattle.records.specs.declared.Surplus.TheVariants.{ByteLeft, BitSet}

-- how many bits a byte has
abbrev pub byte_width : ℕ
byte_width = 8

-- how many bytes hold n bits
abbrev pub bytes_for : ℕ → ℕ
bytes_for n = (n + 7) / 8

-- bits with zeros behind them up to a whole byte
unfoldable pub whole_bytes : List Bool → List ℕ
whole_bytes bits = let n = bytes_for (length bits) in bytes_of n (bits ++ replicate (8 * n - length bits) false)

-- the sealed record of some bits: whole bytes, and the check word of these
unfoldable pub sealed_record : List Bool → List ℕ
sealed_record bits = seal (whole_bytes bits)

-- how many bytes the sealed record of n bits has
abbrev pub sealed_size : ℕ → ℕ
sealed_size n = bytes_for n + word_size

-- some bit is 1
unfoldable pub some_set : List Bool → Bool
some_set [] = false
some_set (b ∷ bs) = elim b [ true ↦ true | false ↦ some_set bs ]

-- the bits behind the last field pass where they are fewer than eight zeros; else they are a whole byte or more, or fill with a bit set
unfoldable pub rest_of : List Bool → Result Unit Surplus
rest_of bits = cond (leb byte_width (length bits)) (Err ByteLeft) (cond (some_set bits) (Err BitSet) (Ok tt))
