-- Zeros up to a whole byte, what is left behind the last field, and the sealed record that a string is made.
use Rattle.std.specs.Prelude.{Ok, Err}
use mathlib.Core.Bool.{Bool, true, false, not, cond, true≢false}
use mathlib.Core.List.{List, [], ◌∷◌, ◌++◌, append-nil}
use mathlib.Core.Path.{◌≡◌, refl, sym, ap, ap₂, ◌∙◌}
use Prim.Native.Nat.{ℕ, zero, suc, ◌+◌, ◌-◌, ◌*◌, ◌%◌, ◌^◌, ◌≤◌, ◌<◌}
use native.Mathlib.Nat.{add-zero, zero-div}
use native.Mathlib.Omega.{arith}
use borrow.Author.Tests.{le-leb, lt-leb, eq-eqb, ne_eqb}
use lib.Dec.{eqb}
use lib.ListN.{length, take, drop, replicate, length-append, length-drop, length-replicate, take-append-drop}
use lib.Pow.{pow_pos}
use lib.Seq.{take_all, take_at, length-take-le}
use Rattle.bits.specs.Packed.{value, odd, digits, Bytes, bits_of, bytes_of, field, with_field}
use Rattle.bits.specs.Faces.{widest, stored}
use Rattle.bits.proofs.Faces.{stored_not, fits_outside}
use Rattle.bits.proofs.Laws.{length_bytes, length_bits, bits_bytes, bytes_bits, bytes_take, take_bits}
use Rattle.bits.proofs.RoundTrip.{bits_stored}
use Rattle.bits.proofs.Within.{within_narrow}
use Rattle.check_word.specs.Division.{word_size, seal, body, with_seal}
use Rattle.check_word.proofs.Sealing.{length_seal}
use Rattle.records.specs.Sealed.{bytes_for, whole_bytes, sealed_record, sealed_size, some_set, rest_of}
use Rattle.records.specs.Faces.{closed}
use Rattle.records.specs.declared.Surplus.TheVariants.{ByteLeft, BitSet}

-- ---- whole bytes

pub length_whole : (bits : List Bool) → length (whole_bytes bits) ≡ bytes_for (length bits)
unfolding whole_bytes
length_whole bits = length_bytes (bytes_for (length bits)) _

-- the zeros that fill bits up to a whole byte
unfoldable pub fill_of : List Bool → ℕ
fill_of bits = 8 * bytes_for (length bits) - length bits

pub fill_short : (bits : List Bool) → fill_of bits < 8
unfolding fill_of
fill_short bits = omega arith

pub bits_whole : (bits : List Bool) → bits_of (whole_bytes bits) ≡ bits ++ replicate (fill_of bits) false
unfolding whole_bytes fill_of
bits_whole bits = bits_bytes (bytes_for (length bits)) (bits ++ replicate (fill_of bits) false) (simp (length-append, length-replicate) (omega arith))

-- bits with fewer than eight zeros behind them that fill bytes are those bytes' whole
pub whole_of : (b : List ℕ) (bits : List Bool) (n : ℕ) → Bytes b → n < 8 → bits_of b ≡ bits ++ replicate n false → whole_bytes bits ≡ b
unfolding whole_bytes
whole_of b bits n h l e =
    let total_length : length bits + n ≡ 8 * length b =
    sym (length-append bits (replicate n false) ∙ ap (λ (k : ℕ). length bits + k) (length-replicate n false)) ∙ sym (ap length e) ∙ length_bits b in
    let bytes : bytes_for (length bits) ≡ length b = omega arith in
    let zeros : 8 * bytes_for (length bits) - length bits ≡ n = omega arith in
    ap₂ (λ (k m : ℕ). bytes_of k (bits ++ replicate m false)) bytes zeros
    ∙ ap (bytes_of (length b)) (sym e)
    ∙ bytes_bits b h

pub length_sealed : (bits : List Bool) → length (sealed_record bits) ≡ sealed_size (length bits)
unfolding sealed_record
length_sealed bits = length_seal (whole_bytes bits) ∙ ap (λ (n : ℕ). n + word_size) (length_whole bits)

-- ---- bits that are set

pub zeros_unset : (n : ℕ) → some_set (replicate n false) ≡ false
unfolding some_set
zeros_unset zero = refl
zeros_unset (suc n) = zeros_unset n

pub unset_zeros : (bits : List Bool) → some_set bits ≡ false → bits ≡ replicate (length bits) false
unfolding some_set
unset_zeros [] e = refl
unset_zeros (true ∷ bits) e = absurd (true≢false e)
unset_zeros (false ∷ bits) e = ap (λ (bs : List Bool). false ∷ bs) (unset_zeros bits e)

-- some bit is 1 exactly where the number is not 0
pub set_by_value : (bs : List Bool) → some_set bs ≡ not (eqb (value bs) 0)
unfolding some_set value
set_by_value [] = refl
set_by_value (true ∷ bs) = sym (ap not (ne_eqb (1 * 2 ^ length bs + value bs) 0 (λ e. omega (arith, pow_pos (length bs)))))
set_by_value (false ∷ bs) =
    let same : value bs ≡ 0 * 2 ^ length bs + value bs = omega arith in
    set_by_value bs ∙ ap (λ (n : ℕ). not (eqb n 0)) same

-- ---- what is left behind a position

pub length_rest : (s : List ℕ) (at : ℕ) → length (drop at (bits_of s)) ≡ 8 * length s - at
length_rest s at = length-drop at (bits_of s) ∙ ap (λ (n : ℕ). n - at) (length_bits s)

pub field_rest : (s : List ℕ) (at w : ℕ) → w ≡ 8 * length s - at → field at w (bits_of s) ≡ drop at (bits_of s)
unfolding field
field_rest s at w e = take_all w (drop at (bits_of s)) (omega (arith, length_rest s at))

no_bits : (bs : List Bool) → length bs ≡ 0 → value bs ≡ 0
unfolding value
no_bits [] e = refl
no_bits (b ∷ bs) e = let z : ⊥ = omega arith in absurd z

module _ (bs : List Bool) where
  pub rest_long : 8 ≤ length bs → Err ByteLeft ≡ rest_of bs
  unfolding rest_of
  rest_long h = rw (le-leb 8 (length bs) h)

  module _ (h : length bs < 8) where
    pub rest_set : (value bs ≡ 0 → ⊥) → Err BitSet ≡ rest_of bs
    unfolding rest_of
    rest_set f = rw (lt-leb 8 (length bs) h, set_by_value bs, ne_eqb (value bs) 0 f)

    pub rest_zeros : value bs ≡ 0 → Ok tt ≡ rest_of bs
    unfolding rest_of
    rest_zeros e = rw (lt-leb 8 (length bs) h, set_by_value bs, eq-eqb (value bs) 0 e)

  pub rest_none : length bs ≡ 0 → Ok tt ≡ rest_of bs
  rest_none e = rest_zeros (omega arith) (no_bits bs e)

-- ---- a string made a sealed record

-- zero bits are the digits of 0
pub zero_digits : (w : ℕ) → digits w 0 ≡ replicate w false
unfolding digits
zero_digits zero = refl
zero_digits (suc w) = ap₂ ◌∷◌ (ap odd (zero-div (2 ^ w))) (zero_digits w)

-- a field of zeros, also where it has no bit
cleared : (s : List ℕ) (n w : ℕ) → w ≤ widest → n + w ≤ 8 * length s → bits_of (stored s n w 0) ≡ with_field n (replicate w false) (bits_of s)
unfolding with_field
cleared s n zero h l =
    ap bits_of (stored_not s n 0 0 (fits_outside s n 0 0 (within_narrow (length s) n 0 (omega arith))))
    ∙ sym (rw (append-nil (take n (bits_of s)), add-zero n) (take-append-drop n (bits_of s)))
cleared s n (suc w) h l =
    bits_stored s n (suc w) 0 (record { low = omega arith; high = h; there = l }) (pow_pos (suc w))
    ∙ ap (λ (f : List Bool). with_field n f (bits_of s)) (zero_digits (suc w))

module _ (s : List ℕ) (n : ℕ) where
  pub not_closed : (length s ≡ sealed_size n → ⊥) → (false ≡ eqb (length s) (sealed_size n)) × (s ≡ closed s n)
  unfolding closed
  not_closed f = (rw (ne_eqb (length s) (sealed_size n) f), rw (ne_eqb (length s) (sealed_size n) f))

  module _ (e : length s ≡ sealed_size n) (t : List ℕ) (et : t ≡ stored s n ((8 - n % 8) % 8) 0) (bytes : Bytes t) (long : length t ≡ length s) where
    fill : ℕ
    fill = (8 - n % 8) % 8

    front : List Bool
    front = take n (bits_of s)

    front_long : length front ≡ n
    unfolding front
    front_long = length-take-le n (bits_of s) (rw (length_bits s) (omega arith))

    front_bits : take (8 * bytes_for n) (bits_of t) ≡ front ++ replicate fill false
    unfolding front fill with_field
    front_bits =
        ap (λ (l : List Bool). take (8 * bytes_for n) l) (ap bits_of et ∙ cleared s n ((8 - n % 8) % 8) (omega arith) (omega arith))
        ∙ take_at (take n (bits_of s) ++ replicate ((8 - n % 8) % 8) false) _ (8 * bytes_for n)
        (length-append (take n (bits_of s)) (replicate ((8 - n % 8) % 8) false) ∙ ap₂ ◌+◌ front_long (length-replicate ((8 - n % 8) % 8) false) ∙ omega arith)

    body_is : body t ≡ whole_bytes front
    unfolding body fill
    body_is =
        let short : length t - 2 ≡ bytes_for n = omega arith in
        ap (λ (k : ℕ). take k t) short
        ∙ sym (whole_of (take (bytes_for n) t) front fill (bytes_take (bytes_for n) t bytes) (omega arith) (sym (take_bits (bytes_for n) t) ∙ front_bits))

    pub was_closed : (u : List ℕ) → u ≡ with_seal t → (true ≡ eqb (length s) (sealed_size n)) × (u ≡ closed s n)
    unfolding with_seal closed sealed_record front
    was_closed u eu =
        let yes_size = sym (eq-eqb (length s) (sealed_size n) e) in (
          yes_size,
          eu
              ∙ ap (λ (b : Bool). cond b (seal (body t)) t) (le-leb 2 (length t) (omega arith))
              ∙ ap seal body_is
              ∙ ap (λ (b : Bool). cond b (seal (whole_bytes (take n (bits_of s)))) s) yes_size,
        )
