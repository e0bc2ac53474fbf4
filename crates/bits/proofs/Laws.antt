-- Laws of numbers and their digits, and of byte strings and their bits, each once over the width.
use mathlib.Core.Bool.{Bool, true, false}
use mathlib.Core.List.{List, [], ◌∷◌, ◌++◌, append_assoc}
use mathlib.Core.Path.{◌≡◌, refl, sym, ap, ap₂, ◌∙◌}
use Prim.Native.Nat.{ℕ, zero, suc, ◌+◌, ◌*◌, ◌/◌, ◌%◌, ◌^◌, ◌<◌}
use native.Mathlib.Nat.{zero-add, suc-add, add_comm, mod-one, mod-lt, mod-eq_of_lt, lt_of_lt_of_le, pow-suc, mul_comm}
use native.Mathlib.Numerals.{one-add}
use native.Mathlib.Omega.{arith}
use lib.Arith as A
use lib.Dec.{eqb, lit<}
use lib.ListN.{length, take, drop, length-append, length-take, length-drop, take-append-drop}
use lib.Pow.{pow_mono, pow-add, high, low, mod-pow-add, mod-mod-pow, shr-shr}
use lib.Pow as P
use lib.Seq.{take-append-add, take-append_seam, drop-append_seam, take-nil, get_or-drop}
use Rattle.bits.specs.Packed.{bit, value, odd, digits, Bytes, bits_of, bytes_of}

-- ---- a digit

pub odd_bit : (b : Bool) → odd (bit b) ≡ b
odd_bit false = refl
odd_bit true = refl

pub bit_lt : (b : Bool) → bit b < 2
bit_lt false = lit< tt
bit_lt true = lit< tt

pub bit_odd : (n : ℕ) → bit (odd n) ≡ n % 2
bit_odd n = go (n % 2) (mod-lt n (lit< tt))
  where
    go : (r : ℕ) → r < 2 → bit (eqb r 1) ≡ r
    go zero h = refl
    go (suc zero) h = refl
    go (suc (suc r)) h = absurd (omega arith)

-- ---- the digits of a number

pub length_digits : (w n : ℕ) → length (digits w n) ≡ w
unfolding digits
length_digits zero n = refl
length_digits (suc w) n = ap suc (length_digits w n)

pub value_digits : (w n : ℕ) → value (digits w n) ≡ n % 2 ^ w
unfolding value digits
value_digits zero n = sym (mod-one n)
value_digits (suc w) n =
    rw (length_digits w n, bit_odd (n / 2 ^ w), value_digits w n) (sym (mod-pow-add n 1 w) ∙ ap (λ (k : ℕ). n % 2 ^ k) (one-add w))

-- the last w digits tell no more than the number's remainder
pub digits_low : (w m n : ℕ) → m % 2 ^ w ≡ n % 2 ^ w → digits w m ≡ digits w n
unfolding digits
digits_low zero m n e = refl
digits_low (suc w) m n e = ap₂ ◌∷◌ (ap (λ (r : ℕ). eqb r 1) top) (digits_low w m n rest)
  where
    same : m % 2 ^ (1 + w) ≡ n % 2 ^ (1 + w)
    same = rw one-add e

    top : m / 2 ^ w % 2 ≡ n / 2 ^ w % 2
    top = sym (P.field m 1 w) ∙ ap (λ (x : ℕ). x / 2 ^ w) same ∙ P.field n 1 w

    rest : m % 2 ^ w ≡ n % 2 ^ w
    rest = sym (mod-mod-pow m 1 w) ∙ ap (λ (x : ℕ). x % 2 ^ w) same ∙ mod-mod-pow n 1 w

-- a number's digits are those of its upper part and then those of its lower part
pub digits_split : (a w n : ℕ) → digits (a + w) n ≡ digits a (n / 2 ^ w) ++ digits w n
unfolding digits
digits_split zero w n = ap (λ (k : ℕ). digits k n) (zero-add w)
digits_split (suc a) w n =
    ap (λ (k : ℕ). digits k n) (suc-add a w)
    ∙ ap₂ (λ (x : ℕ) (l : List Bool). odd x ∷ l) (sym (shr-shr n w a ∙ ap (λ (k : ℕ). n / 2 ^ k) (add_comm w a))) (digits_split a w n)

-- ---- the number of some bits

pub value_lt : (bs : List Bool) → value bs < 2 ^ length bs
unfolding value
value_lt [] = lit< tt
value_lt (b ∷ bs) =
    rw (pow-suc 2 (length bs), mul_comm (2 ^ length bs) 2) (A.digits_lt (bit_lt b) (value_lt bs))

pub digits_value : (bs : List Bool) → digits (length bs) (value bs) ≡ bs
unfolding value digits
digits_value [] = refl
digits_value (b ∷ bs) =
    ap₂ ◌∷◌ (ap odd (high (bit b) (length bs) (value_lt bs)) ∙ odd_bit b)
    (digits_low (length bs) (bit b * 2 ^ length bs + value bs) (value bs)
    (low (bit b) (length bs) (value_lt bs) ∙ sym (mod-eq_of_lt (value_lt bs)))
    ∙ digits_value bs)

pub value_append : (bs cs : List Bool) → value (bs ++ cs) ≡ value bs * 2 ^ length cs + value cs
unfolding value
value_append [] cs = omega arith
value_append (b ∷ bs) cs =
    rw (length-append bs cs, value_append bs cs, pow-add 2 (length bs) (length cs)) (omega arith)

-- bits of the same count and number are the same
pub equal_value : (bs cs : List Bool) → length bs ≡ length cs → value bs ≡ value cs → bs ≡ cs
equal_value bs cs l v = sym (digits_value bs) ∙ ap₂ digits l v ∙ digits_value cs

-- ---- the bits of a byte string

pub length_bits : (s : List ℕ) → length (bits_of s) ≡ 8 * length s
unfolding bits_of digits
length_bits [] = refl
length_bits (b ∷ s) = omega (arith, length_bits s)

pub bits_append : (s t : List ℕ) → bits_of (s ++ t) ≡ bits_of s ++ bits_of t
unfolding bits_of
bits_append [] t = refl
bits_append (b ∷ s) t = ap (λ (l : List Bool). digits 8 b ++ l) (bits_append s t) ∙ sym (append_assoc (digits 8 b) (bits_of s) (bits_of t))

pub eight_more : (n : ℕ) → 8 * suc n ≡ 8 + 8 * n
eight_more n = omega arith

pub take_bits : (n : ℕ) (s : List ℕ) → take (8 * n) (bits_of s) ≡ bits_of (take n s)
unfolding bits_of digits
take_bits zero s = refl
take_bits (suc n) [] = take-nil (8 * suc n)
take_bits (suc n) (b ∷ s) =
    rw (eight_more n) (take-append-add (digits 8 b) (bits_of s) (8 * n)
    ∙ ap (λ (l : List Bool). digits 8 b ++ l) (take_bits n s))

-- ---- the bytes of some bits

pub length_bytes : (n : ℕ) (bs : List Bool) → length (bytes_of n bs) ≡ n
unfolding bytes_of
length_bytes zero bs = refl
length_bytes (suc n) bs = ap suc (length_bytes n (drop 8 bs))

eight_of : (n : ℕ) (bs : List Bool) → length bs ≡ 8 * suc n → length (take 8 bs) ≡ 8
eight_of n bs e = rw length-take (omega arith)

rest_of : (n : ℕ) (bs : List Bool) → length bs ≡ 8 * suc n → length (drop 8 bs) ≡ 8 * n
rest_of n bs e = rw length-drop (omega arith)

pub bits_bytes : (n : ℕ) (bs : List Bool) → length bs ≡ 8 * n → bits_of (bytes_of n bs) ≡ bs
unfolding bytes_of bits_of
bits_bytes zero [] e = refl
bits_bytes zero (b ∷ bs) e = let z : ⊥ = omega arith in absurd z
bits_bytes (suc n) bs e =
    ap₂ ◌++◌
    (ap (λ (k : ℕ). digits k (value (take 8 bs))) (sym (eight_of n bs e)) ∙ digits_value (take 8 bs))
    (bits_bytes n (drop 8 bs) (rest_of n bs e))
    ∙ take-append-drop 8 bs

pub bytes_are_bytes : (n : ℕ) (bs : List Bool) → Bytes (bytes_of n bs)
unfolding bytes_of
bytes_are_bytes zero bs i = lit< tt
bytes_are_bytes (suc n) bs zero = lt_of_lt_of_le (value_lt (take 8 bs)) (pow_mono {j = 8} (rw length-take (omega arith)))
bytes_are_bytes (suc n) bs (suc i) = bytes_are_bytes n (drop 8 bs) i

pub bytes_bits : (s : List ℕ) → Bytes s → bytes_of (length s) (bits_of s) ≡ s
unfolding bytes_of bits_of digits
bytes_bits [] h = refl
bytes_bits (b ∷ s) h =
    ap₂ ◌∷◌
    (ap value (take-append_seam (digits 8 b) (bits_of s)) ∙ value_digits 8 b ∙ mod-eq_of_lt (h zero))
    (ap (bytes_of (length s)) (drop-append_seam (digits 8 b) (bits_of s)) ∙ bytes_bits s (λ i. h (suc i)))

-- equal bits, equal bytes
pub equal_bits : (s t : List ℕ) → Bytes s → Bytes t → bits_of s ≡ bits_of t → s ≡ t
equal_bits s t hs ht e = sym (bytes_bits s hs) ∙ ap₂ bytes_of same e ∙ bytes_bits t ht
  where
    same : length s ≡ length t
    same = omega (arith, length_bits s, length_bits t, ap length e)

-- ---- parts of a byte string are byte strings

pub bytes_take : (n : ℕ) (s : List ℕ) → Bytes s → Bytes (take n s)
bytes_take zero s h i = lit< tt
bytes_take (suc n) [] h i = lit< tt
bytes_take (suc n) (b ∷ s) h zero = h zero
bytes_take (suc n) (b ∷ s) h (suc i) = bytes_take n s (λ j. h (suc j)) i

pub bytes_drop : (n : ℕ) (s : List ℕ) → Bytes s → Bytes (drop n s)
bytes_drop n s h i = rw (get_or-drop n s i 0) (h (n + i))

pub bytes_append : (s t : List ℕ) → Bytes s → Bytes t → Bytes (s ++ t)
bytes_append [] t hs ht i = ht i
bytes_append (b ∷ s) t hs ht zero = hs zero
bytes_append (b ∷ s) t hs ht (suc i) = bytes_append s t (λ j. hs (suc j)) ht i
