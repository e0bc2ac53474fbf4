-- SCOPE.md, "The sheet": the check word, by long division of bits, most significant bit first.
use Rattle.std.specs.Prelude.{Bool, true, false, cond, ◌&&◌, List, [], ◌∷◌, ◌++◌, ℕ, zero, suc, ◌+◌, ◌-◌, ◌^◌, leb, eqb, length, take, drop, replicate}
use Rattle.std.specs.Bool.{xor}
use Rattle.bits.specs.Packed.{value, digits, bits_of, bytes_of}

-- the check word's width in bits, and its size in bytes
abbrev pub word_width : ℕ
word_width = 16

abbrev pub word_size : ℕ
word_size = 2

-- polynomials over bits are added and subtracted alike: a 1 of the pattern inverts the bit that it stands over, what follows the pattern stays
unfoldable pub added : List Bool → List Bool → List Bool
added [] bs = bs
added (p ∷ ps) [] = []
added (p ∷ ps) (b ∷ bs) = xor p b ∷ added ps bs

-- x^16 + x^12 + x^5 + 1: its coefficients after the leading one
unfoldable pub polynomial : List Bool
polynomial = digits word_width (2 ^ 16 + 2 ^ 12 + 2 ^ 5 + 1)

-- n steps of long division: the first bit goes, and where it is 1 the polynomial is subtracted, its leading coefficient from that bit and the others from the bits that follow
unfoldable pub divided : ℕ → List Bool → List Bool
divided zero bs = bs
divided (suc n) [] = []
divided (suc n) (b ∷ bs) = divided n (cond b (added polynomial bs) bs)

-- what division leaves: as many bits as the check word has
unfoldable pub remainder : List Bool → List Bool
remainder bs = divided (length bs - word_width) bs

-- the start at all ones: as many of the first bits are inverted
unfoldable pub started : List Bool → List Bool
started bs = added (replicate word_width true) bs

-- the check word of a byte string: what is left of its bits with zeros behind them in the check word's own room; nothing is changed at the end
unfoldable pub check_word : List ℕ → ℕ
check_word s = value (remainder (started (bits_of s ++ replicate word_width false)))

-- a string and its check word behind it, the high byte first
unfoldable pub seal : List ℕ → List ℕ
seal s = s ++ bytes_of word_size (digits word_width (check_word s))

-- all but the last two bytes: what the check word is over
unfoldable pub body : List ℕ → List ℕ
body s = take (length s - word_size) s

-- the string's last two bytes are the check word of those before it
unfoldable pub sealed : List ℕ → Bool
sealed s = leb word_size (length s) && eqb (value (bits_of (drop (length s - word_size) s))) (check_word (body s))

-- the string with the check word in its last two bytes; as it was, where it has no two
unfoldable pub with_seal : List ℕ → List ℕ
with_seal s = cond (leb word_size (length s)) (seal (body s)) s
