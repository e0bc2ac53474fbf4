-- A byte string is sealed where the division of all its bits, check word and all, leaves nothing.
use mathlib.Core.Bool.{Bool, true, false, xor, and-eq-true_iff}
use mathlib.Core.List.{List, [], ◌∷◌, ◌++◌}
use mathlib.Core.Logic.{◌↔◌}
use mathlib.Core.Path.{◌≡◌, refl, sym, ap, ap₂, ◌∙◌}
use Prim.Native.Nat.{ℕ, zero, suc, ◌-◌, ◌^◌, ◌≤◌, ◌<◌}
use native.Mathlib.Omega.{arith}
use borrow.Author.Tests.{eqb-true, eq-eqb, leb-true, le-leb}
use lib.Dec.{leb, eqb}
use lib.ListN.{length, take, drop, replicate, length-append, length-drop, take-append-drop}
use Rattle.bits.specs.Packed.{value, bits_of}
use Rattle.bits.proofs.Laws.{value_lt, equal_value, length_bits, bits_append}
use Rattle.check_word.specs.Division.{added, divided, polynomial, remainder, started, check_word, body, sealed}
use Rattle.check_word.proofs.Steps.{step, xor_false, xor_comm, xor_self, added_nil, added_comm, length_started, started_added, added_twice, length_divided}

-- ---- bits in the room for the check word

step_behind : (b : Bool) (p bs : List Bool) → step (xor false b) (added p bs) ≡ added p (step b bs)
unfolding xor
step_behind false p bs = refl
step_behind true p bs = added_comm polynomial p bs

-- a pattern added behind the first n bits comes out added to what n steps leave
pub divided_behind : (n : ℕ) (w bs : List Bool) → divided n (added (replicate n false ++ w) bs) ≡ added w (divided n bs)
unfolding divided added
divided_behind zero w bs = refl
divided_behind (suc n) w [] = sym (added_nil w)
divided_behind (suc n) w (b ∷ bs) = ap (divided n) (step_behind b (replicate n false ++ w) bs) ∙ divided_behind n w (step b bs)

pub added_zeros : (w : List Bool) (n : ℕ) → length w ≡ n → added w (replicate n false) ≡ w
unfolding added
added_zeros [] zero l = refl
added_zeros [] (suc n) l = let z : ⊥ = omega arith in absurd z
added_zeros (b ∷ w) zero l = let z : ⊥ = omega arith in absurd z
added_zeros (b ∷ w) (suc n) l = ap₂ ◌∷◌ (xor_comm b false ∙ xor_false b) (added_zeros w n (omega arith))

added_self : (w : List Bool) → added w w ≡ replicate (length w) false
unfolding added
added_self [] = refl
added_self (b ∷ w) = ap₂ ◌∷◌ (xor_self b) (added_self w)

room_filled : (bs w : List Bool) (n : ℕ) → length w ≡ n → bs ++ w ≡ added (replicate (length bs) false ++ w) (bs ++ replicate n false)
unfolding added
room_filled [] w n l = sym (added_zeros w n l)
room_filled (b ∷ bs) w n l = ap₂ ◌∷◌ (sym (xor_false b)) (room_filled bs w n l)

-- sixteen bits behind others: as many steps as there are others
pub remainder_is : (bs w : List Bool) → length w ≡ 16 → remainder (started (bs ++ w)) ≡ divided (length bs) (started (bs ++ w))
unfolding remainder
remainder_is bs w l =
    ap (λ (n : ℕ). divided n (started (bs ++ w))) (rw (length_started (bs ++ w), length-append bs w) (omega arith))

-- sixteen bits put into the room for the check word are added to what is left
remainder_behind : (bs w : List Bool) → length w ≡ 16 → remainder (started (bs ++ w)) ≡ added w (remainder (started (bs ++ replicate 16 false)))
remainder_behind bs w l =
    remainder_is bs w l
    ∙ ap (λ (r : List Bool). divided (length bs) (started r)) (room_filled bs w 16 l)
    ∙ ap (divided (length bs)) (started_added (replicate (length bs) false ++ w) (bs ++ replicate 16 false))
    ∙ divided_behind (length bs) w (started (bs ++ replicate 16 false))
    ∙ ap (added w) (sym (remainder_is bs (replicate 16 false) refl))

pub length_remainder : (bs : List Bool) → length (remainder (started bs)) ≡ length bs - (length bs - 16)
unfolding remainder
length_remainder bs = length_divided (length (started bs) - 16) (started bs) ∙ rw (length_started bs)

length_left : (bs : List Bool) → length (remainder (started (bs ++ replicate 16 false))) ≡ 16
length_left bs = length_remainder (bs ++ replicate 16 false) ∙ rw (length-append bs (replicate 16 false)) (omega arith)

left_lt : (bs : List Bool) → value (remainder (started (bs ++ replicate 16 false))) < 2 ^ 16
left_lt bs = rw (length_left bs) at (value_lt (remainder (started (bs ++ replicate 16 false))))

pub check_word_lt : (s : List ℕ) → check_word s < 2 ^ 16
unfolding check_word
check_word_lt s = left_lt _

-- ---- sealed strings

-- the bits of the last two bytes
unfoldable pub last_bits : List ℕ → List Bool
last_bits s = bits_of (drop (length s - 2) s)

left : List ℕ → List Bool
left s = remainder (started (bits_of (body s) ++ replicate 16 false))

module _ (s : List ℕ) (h : 2 ≤ length s) where
  pub length_last : length (last_bits s) ≡ 16
  unfolding last_bits
  length_last = length_bits (drop (length s - 2) s) ∙ rw length-drop (omega arith)

  whole : remainder (started (bits_of s)) ≡ added (last_bits s) (left s)
  unfolding last_bits left body
  whole =
      ap (λ (r : List ℕ). remainder (started (bits_of r))) (sym (take-append-drop (length s - 2) s))
      ∙ ap (λ (r : List Bool). remainder (started r)) (bits_append (take (length s - 2) s) (drop (length s - 2) s))
      ∙ remainder_behind (bits_of (take (length s - 2) s)) (bits_of (drop (length s - 2) s)) length_last

  nothing_left : value (last_bits s) ≡ check_word (body s) → remainder (started (bits_of s)) ≡ replicate 16 false
  unfolding check_word left
  nothing_left e =
      whole ∙ ap (λ (r : List Bool). added r (left s)) (equal_value (last_bits s) (left s) (length_last ∙ sym (length_left (bits_of (body s)))) e)
      ∙ added_self (left s) ∙ ap (λ (n : ℕ). replicate n false) (length_left (bits_of (body s)))

  word_there : remainder (started (bits_of s)) ≡ replicate 16 false → value (last_bits s) ≡ check_word (body s)
  unfolding check_word left
  word_there e =
      ap value (sym (added_zeros (last_bits s) 16 length_last) ∙ ap (added (last_bits s)) (sym e ∙ whole) ∙ added_twice (last_bits s) (left s))

two_at_least : (s : List ℕ) → remainder (started (bits_of s)) ≡ replicate 16 false → 2 ≤ length s
two_at_least s e = omega (arith, ap length e, length_remainder (bits_of s), length_bits s)

-- the two tests of `sealed`, taken apart and put together
pub sealed_apart : (s : List ℕ) → (sealed s ≡ true) ↔ ((2 ≤ length s) × (value (last_bits s) ≡ check_word (body s)))
unfolding sealed last_bits
sealed_apart s = (apart, together)
  where
    tests : (sealed s ≡ true) ↔ ((leb 2 (length s) ≡ true) × (eqb (value (last_bits s)) (check_word (body s)) ≡ true))
    tests = and-eq-true_iff (leb 2 (length s)) (eqb (value (last_bits s)) (check_word (body s)))

    apart : sealed s ≡ true → (2 ≤ length s) × (value (last_bits s) ≡ check_word (body s))
    apart e = (leb-true 2 (length s) (tests.0 e).0, eqb-true (value (last_bits s)) (check_word (body s)) (tests.0 e).1)

    together : (2 ≤ length s) × (value (last_bits s) ≡ check_word (body s)) → sealed s ≡ true
    together p = tests.1 (le-leb 2 (length s) p.0, eq-eqb (value (last_bits s)) (check_word (body s)) p.1)

-- A byte string is sealed if and only if the division of its own bits leaves sixteen zeros.
pub sealed_leaves_nothing : (s : List ℕ) → (sealed s ≡ true) ↔ (remainder (started (bits_of s)) ≡ replicate 16 false)
sealed_leaves_nothing s = (
  λ e. let p = (sealed_apart s).0 e in nothing_left s p.0 p.1,
  λ e. (sealed_apart s).1 (two_at_least s e, word_there s (two_at_least s e) e),
)
