-- A few bytes as one number, high byte first: what the loops over a field's bytes compute.
use mathlib.Core.List.{List, [], ◌∷◌, ◌++◌, append-nil}
use mathlib.Core.Path.{◌≡◌, refl, ap, ◌∙◌}
use Prim.Native.Nat.{ℕ, zero, suc, ◌+◌, ◌-◌, ◌*◌, ◌/◌, ◌%◌, ◌^◌, ◌≤◌, ◌<◌}
use native.Mathlib.Nat.{zero-add, mod-eq_of_lt, lt_of_lt_of_le}
use native.Mathlib.Numerals.{add-one}
use native.Mathlib.Omega.{arith}
use lib.Bits.{bit_or, or_shifted}
use lib.ListN.{length, get_or, take, drop, set, length-append, length-take, length-drop, drop_of_length-le}
use lib.Pow.{pow_mono}
use lib.Seq.{take-suc, take_at, drop_at, take_all, paste-suc}
use Rattle.bits.specs.Packed.{value, digits, Bytes, bits_of, bytes_of}
use Rattle.bits.proofs.Laws.{value_append, value_digits, value_lt, length_bits, bits_append, digits_split, length_digits, length_bytes, eight_more}

-- the number of a byte string is below 256 for each byte
pub number_lt : (s : List ℕ) (k : ℕ) → length s ≤ k → value (bits_of s) < 2 ^ (8 * k)
number_lt s k h = lt_of_lt_of_le (value_lt (bits_of s)) (pow_mono (rw length_bits (omega arith)))

pub number_of_byte : (b : ℕ) → b < 256 → value (bits_of (b ∷ [])) ≡ b
unfolding bits_of
number_of_byte b h = rw append-nil (value_digits 8 b ∙ mod-eq_of_lt h)

-- one byte more behind a number
pub number_more : (s : List ℕ) (i n b : ℕ) → i < length s → i ≤ 4 → Bytes s → n ≡ value (bits_of (take i s)) → b ≡ get_or s i 0
    → bit_or (n * 256 % 2 ^ 64) b ≡ value (bits_of (take (i + 1) s))
number_more s i n b h small bytes en eb =
    rw (mod-eq_of_lt (fits), or_shifted n 8 b (rw eb (bytes i)), add-one i, take-suc s i 0 h, bits_append, value_append, length_bits, number_of_byte _ (bytes i))
    (omega arith)
  where
    fits : n * 256 < 2 ^ 64
    fits = omega (arith, lt_of_lt_of_le (number_lt (take i s) i (rw length-take (omega arith))) (pow_mono {j = 32} (omega arith)))

-- one byte more in front
bytes_more : (k n : ℕ) → bytes_of (suc k) (digits (8 * suc k) n) ≡ n / 2 ^ (8 * k) % 256 ∷ bytes_of k (digits (8 * k) n)
unfolding bytes_of
bytes_more k n =
    rw (eight_more k, digits_split 8 (8 * k) n, take_at (digits 8 (n / 2 ^ (8 * k))) (digits (8 * k) n) 8 (length_digits 8 (n / 2 ^ (8 * k))), drop_at (digits 8 (n / 2 ^ (8 * k))) (digits (8 * k) n) 8 (length_digits 8 (n / 2 ^ (8 * k))))
    (ap (λ (b : ℕ). b ∷ bytes_of k (digits (8 * k) n)) (value_digits 8 (n / 2 ^ (8 * k))))

-- a byte of a number's digits
pub byte_of : (m n i : ℕ) → i < m → get_or (bytes_of m (digits (8 * m) n)) i 0 ≡ n / 2 ^ (8 * (m - 1 - i)) % 256
byte_of zero n i h = absurd (omega arith)
byte_of (suc m) n zero h = rw bytes_more (ap (λ (k : ℕ). n / 2 ^ (8 * k) % 256) (omega arith))
byte_of (suc m) n (suc i) h = rw bytes_more (byte_of m n i (omega arith) ∙ ap (λ (k : ℕ). n / 2 ^ (8 * k) % 256) (omega arith))

-- the loop that writes a number's bytes over `d`: what stands there after i turns
pub written : List ℕ → ℕ → ℕ → List ℕ
written d n i = take i (bytes_of (length d) (digits (8 * length d) n)) ++ drop i d

pub none_written : (d : List ℕ) (n : ℕ) → d ≡ written d n 0
unfolding written
none_written d n = refl

pub length_written : (d : List ℕ) (n i : ℕ) → i ≤ length d → length (written d n i) ≡ length d
unfolding written
length_written d n i h = simp (length-append, length-take, length-drop, length_bytes) (omega arith)

pub written_more : (d : List ℕ) (n i : ℕ) → i < length d → set (written d n i) i (n / 2 ^ (8 * (length d - 1 - i)) % 256) ≡ written d n (i + 1)
unfolding written
written_more d n i h =
    rw (← byte_of (length d) n i h, add-one i)
    (simp zero-add at (paste-suc d 0 (bytes_of (length d) (digits (8 * length d) n)) i 0 (omega arith) (rw length_bytes h)))

pub all_written : (d : List ℕ) (n i : ℕ) → length d ≤ i → written d n i ≡ bytes_of (length d) (digits (8 * length d) n)
unfolding written
all_written d n i h = rw (drop_of_length-le d h, append-nil) (take_all i _ (rw length_bytes h))
