-- Values of this check word that are published or plain by hand, computed from the definition.
use Rattle.std.specs.Prelude.{◌≡◌, refl, [], ◌∷◌}
use Rattle.std.proofs.Math.Bool.{xor}
use Rattle.bits.specs.Packed.{value, digits, bits_of}
use Rattle.check_word.specs.Division.{check_word, remainder, divided, polynomial, started, added}

-- the empty string leaves the start as it is
pub of_nothing : check_word [] ≡ 0xFFFF
unfolding check_word remainder divided polynomial started added bits_of value digits xor
of_nothing = refl

-- "123456789", the published check value
pub of_the_nine_digits : check_word (0x31 ∷ 0x32 ∷ 0x33 ∷ 0x34 ∷ 0x35 ∷ 0x36 ∷ 0x37 ∷ 0x38 ∷ 0x39 ∷ []) ≡ 0x29B1
unfolding check_word remainder divided polynomial started added bits_of value digits xor
of_the_nine_digits = refl

-- "A"
pub of_the_letter_a : check_word (0x41 ∷ []) ≡ 0xB915
unfolding check_word remainder divided polynomial started added bits_of value digits xor
of_the_letter_a = refl

-- sixteen ones: the start inverts them, and only zeros are divided
pub of_two_full_bytes : check_word (0xFF ∷ 0xFF ∷ []) ≡ 0
unfolding check_word remainder divided polynomial started added bits_of value digits xor
of_two_full_bytes = refl

-- sixteen zeros: 0x1D0F, published as the start of the variant that counts sixteen zeros before each string
pub of_two_empty_bytes : check_word (0 ∷ 0 ∷ []) ≡ 0x1D0F
unfolding check_word remainder divided polynomial started added bits_of value digits xor
of_two_empty_bytes = refl

-- "123456789" and its check word: nothing is left of a sealed string, so nothing of it and sixteen zeros
pub of_the_nine_digits_sealed :
    check_word (0x31 ∷ 0x32 ∷ 0x33 ∷ 0x34 ∷ 0x35 ∷ 0x36 ∷ 0x37 ∷ 0x38 ∷ 0x39 ∷ 0x29 ∷ 0xB1 ∷ []) ≡ 0
unfolding check_word remainder divided polynomial started added bits_of value digits xor
of_the_nine_digits_sealed = refl
