-- The code's shifts and masks on numbers of sixteen bits, in bits.
use Rattle.std.specs.Int.{w16, from_be_bytes, to_be_bytes}
use mathlib.Core.Bool.{Bool, true, false, xor}
use mathlib.Core.List.{List, [], ◌∷◌, ◌++◌, append-nil}
use mathlib.Core.Path.{◌≡◌, refl, sym, ap, ap₂, ◌∙◌}
use Prim.Native.Nat.{ℕ, zero, suc, ◌+◌, ◌*◌, ◌/◌, ◌%◌, ◌^◌, ◌≤◌, ◌<◌}
use native.Mathlib.Nat.{add-zero, mul-add-mod_self_right, mod-lt, mod-eq_of_lt}
use native.Mathlib.Omega.{arith}
use borrow.Author.Tests.{eq-eqb, ne_eqb}
use lib.Bits.{bit_xor, differ, xor_step, xor_shr, xor_mod, xor_lt}
use lib.Dec.{eqb, lit<}
use lib.ListN.{length, take, replicate}
use lib.Pow.{high, low, pow_pos}
use lib.Seq.{take_at, drop_at, take_all}
use Rattle.bits.specs.Packed.{value, odd, digits, Bytes, bits_of, bytes_of}
use Rattle.bits.proofs.Laws.{length_digits, value_digits, digits_low, digits_split}
use Rattle.check_word.specs.Division.{added, polynomial, divided}
use Rattle.check_word.specs.Inside.Register.{shifted, fed}
use Rattle.check_word.proofs.Steps.{step}
use Rattle.check_word.proofs.Register.{added_zeros_behind}

-- ---- digits one after another, and digits added

pub digits_join : (a w h l : ℕ) → l < 2 ^ w → digits a h ++ digits w l ≡ digits (a + w) (h * 2 ^ w + l)
digits_join a w h l lt =
    sym
    (digits_split a w (h * 2 ^ w + l)
    ∙ ap₂ (λ (x y : List Bool). x ++ y) (ap (digits a) (high h w lt)) (digits_low w (h * 2 ^ w + l) l (low h w lt ∙ sym (mod-eq_of_lt lt))))

odd_xor : (a b : ℕ) → odd (bit_xor a b) ≡ xor (odd b) (odd a)
unfolding xor
odd_xor a b =
    ap (λ (n : ℕ). eqb (n % 2) 1) (xor_step a b)
    ∙ ap (λ (n : ℕ). eqb n 1) (mul-add-mod_self_right (bit_xor (a / 2) (b / 2)) 2 (differ (a % 2) (b % 2)))
    ∙ go (a % 2) (b % 2) (mod-lt a (lit< tt)) (mod-lt b (lit< tt))
  where
    go : (r s : ℕ) → r < 2 → s < 2 → eqb (differ r s % 2) 1 ≡ xor (eqb s 1) (eqb r 1)
    go zero zero h k = refl
    go zero (suc zero) h k = refl
    go zero (suc (suc s)) h k = absurd (omega arith)
    go (suc zero) zero h k = refl
    go (suc zero) (suc zero) h k = refl
    go (suc zero) (suc (suc s)) h k = absurd (omega arith)
    go (suc (suc r)) s h k = absurd (omega arith)

pub digits_xor : (w a b : ℕ) → digits w (bit_xor a b) ≡ added (digits w b) (digits w a)
unfolding digits added
digits_xor zero a b = refl
digits_xor (suc w) a b = ap₂ ◌∷◌ (ap odd (xor_shr a b w) ∙ odd_xor (a / 2 ^ w) (b / 2 ^ w)) (digits_xor w a b)

-- ---- one step

doubled : (c : ℕ) → digits 15 c ++ (false ∷ []) ≡ digits 16 (c * 2 ^ 1)
unfolding digits
doubled c = digits_join 15 1 c 0 (lit< tt) ∙ ap (digits 16) (add-zero (c * 2 ^ 1))

-- the polynomial's coefficients after the leading one, as a number
abbrev pattern : ℕ
pattern = 0x1021

polynomial_is : polynomial ≡ digits 16 pattern
unfolding polynomial digits
polynomial_is = refl

first_digit : (c : ℕ) → digits 16 c ≡ odd (c / 2 ^ 15) ∷ digits 15 c
unfolding digits
first_digit c = refl

shifted_one : (c : ℕ) (b : Bool) → odd (c / 2 ^ 15) ≡ b → shifted 1 c ≡ value (step b (digits 16 (c * 2 ^ 1)))
unfolding shifted divided
shifted_one c b e =
    ap (λ (l : List Bool). value (divided 1 (l ++ (false ∷ [])))) (first_digit c)
    ∙ ap₂ (λ (x : Bool) (l : List Bool). value (step x l)) e (doubled c)

module _ (c : ℕ) (h : c < 2 ^ 16) where
  -- the first bit is 1
  pub step_high : 0x8000 ≤ c → bit_xor ((c * 2 ^ 1) % 2 ^ 16) pattern ≡ shifted 1 c
  step_high k =
      sym
      (shifted_one c true (eq-eqb (c / 2 ^ 15 % 2) 1 (omega arith))
      ∙ ap (λ (p : List Bool). value (added p (digits 16 (c * 2 ^ 1)))) polynomial_is
      ∙ ap value (sym (digits_xor 16 (c * 2 ^ 1) pattern))
      ∙ value_digits 16 (bit_xor (c * 2 ^ 1) pattern)
      ∙ xor_mod (c * 2 ^ 1) pattern 16)

  -- the first bit is 0
  pub step_low : c < 0x8000 → (c * 2 ^ 1) % 2 ^ 16 ≡ shifted 1 c
  step_low k = sym (shifted_one c false (ne_eqb (c / 2 ^ 15 % 2) 1 (omega arith)) ∙ value_digits 16 (c * 2 ^ 1))

-- ---- a byte at the top

upper : (b : ℕ) → b < 2 ^ 8 → digits 16 ((b * 2 ^ 8) % 2 ^ 16) ≡ digits 8 b ++ replicate 8 false
unfolding digits
upper b h =
    let e : (b * 2 ^ 8) % 2 ^ 16 ≡ b * 2 ^ 8 + 0 = omega arith in
    ap (digits 16) e ∙ sym (digits_join 8 8 b 0 (lit< tt))

pub topped_lt : (c b : ℕ) → c < 2 ^ 16 → bit_xor c ((b * 2 ^ 8) % 2 ^ 16) < 2 ^ 16
topped_lt c b h = xor_lt 16 c ((b * 2 ^ 8) % 2 ^ 16) h (mod-lt (b * 2 ^ 8) (pow_pos 16))

pub fed_is : (c b : ℕ) → b < 2 ^ 8 → shifted 8 (bit_xor c ((b * 2 ^ 8) % 2 ^ 16)) ≡ fed c b
unfolding shifted fed
fed_is c b h =
    ap (λ (l : List Bool). value (divided 8 (l ++ replicate 8 false)))
    (digits_xor 16 c ((b * 2 ^ 8) % 2 ^ 16) ∙ ap (λ (l : List Bool). added l (digits 16 c)) (upper b h) ∙ added_zeros_behind (digits 8 b) 8 (digits 16 c))

-- ---- a number of sixteen bits and its two bytes

word_value : (h l : ℕ) → h < 2 ^ 8 → l < 2 ^ 8 → h * 2 ^ 8 + l ≡ value (bits_of (h ∷ l ∷ []))
unfolding bits_of
word_value h l hh hl =
    let f : (h * 2 ^ 8 + l) % 2 ^ 16 ≡ h * 2 ^ 8 + l = omega arith in
    sym
    (ap (λ (x : List Bool). value (digits 8 h ++ x)) (append-nil (digits 8 l)) ∙ ap value (digits_join 8 8 h l hl)
    ∙ value_digits 16 (h * 2 ^ 8 + l) ∙ f)

-- two bytes are the number that their bits stand for
pub word_of : (bs : List ℕ) → length bs ≡ 2 → Bytes bs → from_be_bytes w16 bs ≡ value (bits_of bs)
word_of [] e b = absurd (omega arith)
word_of (h ∷ []) e b = absurd (omega arith)
word_of (h ∷ l ∷ []) e b = word_value h l (b 0) (b 1)
word_of (h ∷ l ∷ x ∷ bs) e b = absurd (omega arith)

-- and the number's bits are those of its two bytes
pub bytes_word : (c : ℕ) → bytes_of 2 (digits 16 c) ≡ to_be_bytes w16 c
unfolding bytes_of
bytes_word c =
    ap (bytes_of 2) (digits_split 8 8 c)
    ∙ ap₂ (λ (x y : ℕ). x ∷ y ∷ [])
    (ap value (take_at (digits 8 (c / 2 ^ 8)) (digits 8 c) 8 (length_digits 8 (c / 2 ^ 8))) ∙ value_digits 8 (c / 2 ^ 8))
    (ap (λ (l : List Bool). value (take 8 l)) (drop_at (digits 8 (c / 2 ^ 8)) (digits 8 c) 8 (length_digits 8 (c / 2 ^ 8)))
    ∙ ap value (take_all 8 (digits 8 c) (omega (arith, length_digits 8 c))) ∙ value_digits 8 c)
