-- What `seal` makes is sealed, keeps what it seals, and is every sealed byte string.
use mathlib.Core.Bool.{true}
use mathlib.Core.List.{List, ◌++◌}
use mathlib.Core.Path.{◌≡◌, sym, ap, ◌∙◌}
use Prim.Native.Nat.{ℕ, ◌+◌, ◌-◌}
use native.Mathlib.Nat.{mod-eq_of_lt}
use native.Mathlib.Omega.{arith}
use lib.ListN.{length, take, drop, length-append, take-append-drop}
use lib.Seq.{take_at, drop_at}
use Rattle.bits.specs.Packed.{value, digits, bits_of, bytes_of, Bytes}
use Rattle.bits.proofs.Laws.{length_digits, value_digits, equal_value, length_bytes, bits_bytes, bytes_are_bytes, bytes_drop, equal_bits}
use Rattle.check_word.specs.Division.{check_word, seal, body, sealed}
use Rattle.check_word.proofs.Residue.{check_word_lt, last_bits, length_last, sealed_apart}

-- the check word's two bytes
abbrev word_bytes : List ℕ → List ℕ
word_bytes s = bytes_of 2 (digits 16 (check_word s))

pub length_seal : (s : List ℕ) → length (seal s) ≡ length s + 2
unfolding seal
length_seal s = length-append s (word_bytes s) ∙ ap (λ (n : ℕ). length s + n) (length_bytes 2 (digits 16 (check_word s)))

before_word : (s : List ℕ) → length s ≡ length (seal s) - 2
before_word s = omega (arith, length_seal s)

pub body_seal : (s : List ℕ) → body (seal s) ≡ s
unfolding body seal
body_seal s = take_at s (word_bytes s) (length (seal s) - 2) (before_word s)

word_behind : (s : List ℕ) → value (last_bits (seal s)) ≡ check_word s
unfolding last_bits seal
word_behind s =
    ap (λ (r : List ℕ). value (bits_of r)) (drop_at s (word_bytes s) (length (seal s) - 2) (before_word s))
    ∙ ap value (bits_bytes 2 (digits 16 (check_word s)) (length_digits 16 (check_word s)))
    ∙ value_digits 16 (check_word s) ∙ mod-eq_of_lt (check_word_lt s)

pub sealed_seal : (s : List ℕ) → sealed (seal s) ≡ true
sealed_seal s = (sealed_apart (seal s)).1 (omega (arith, length_seal s), word_behind s ∙ ap check_word (sym (body_seal s)))

-- every sealed byte string is what `seal` makes of its body
pub seal_body : (s : List ℕ) → Bytes s → sealed s ≡ true → seal (body s) ≡ s
unfolding seal body last_bits
seal_body s h e =
    let p = (sealed_apart s).0 e in
    let cw = check_word (body s) in
    let tail = drop (length s - 2) s in
    ap (λ (r : List ℕ). take (length s - 2) s ++ r)
    (equal_bits (word_bytes (body s)) tail (bytes_are_bytes 2 (digits 16 cw)) (bytes_drop (length s - 2) s h)
    (bits_bytes 2 (digits 16 cw) (length_digits 16 cw)
    ∙ equal_value (digits 16 cw) (bits_of tail) (length_digits 16 cw ∙ sym (length_last s p.0))
    (value_digits 16 cw ∙ mod-eq_of_lt (check_word_lt (body s)) ∙ sym p.1)))
    ∙ take-append-drop (length s - 2) s
