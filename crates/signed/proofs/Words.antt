-- The words of a line are read back from its bytes, and a number from its digits.
use mathlib.Core.Bool.{false}
use mathlib.Core.List.{List, [], ◌∷◌, ◌++◌, append_assoc}
use mathlib.Core.Path.{◌≡◌, refl, ap, ◌∙◌}
use Prim.Native.Nat.{ℕ, zero, suc, ◌+◌, ◌-◌, ◌*◌, ◌/◌, ◌%◌, ◌^◌, ◌≤◌, ◌<◌}
use native.Mathlib.Decide.{dec_le}
use native.Mathlib.Nat.{div-lt_iff_lt-mul, div-add-mod', pow-suc, mod-lt}
use native.Mathlib.Omega.{arith}
use borrow.Author.Tests.{ne_eqb}
use lib.Dec.{eqb, lit<}
use lib.ListN.{get_or}
use Rattle.report_text.specs.Words.{decimal_of, decimal, line}
use Rattle.report_text.proofs.Decimal.{of_small, of_large}
use Rattle.signed.specs.Reports.{before_words, words_in, number_from, number_in}

-- ---- words

-- a word with neither a space nor a line's end in it
unfoldable pub Plain : List ℕ → Type 0
Plain [] = Unit {0}
Plain (b ∷ w) = (eqb b 0x0A ≡ false) × (eqb b 0x20 ≡ false) × Plain w

unfoldable pub AllPlain : List (List ℕ) → Type 0
AllPlain [] = Unit {0}
AllPlain (w ∷ ws) = Plain w × AllPlain ws

-- a byte of a word
byte_read : (b : ℕ) (bs w : List ℕ) (ws : List (List ℕ)) → eqb b 0x0A ≡ false → eqb b 0x20 ≡ false → words_in bs ≡ w ∷ ws → words_in (b ∷ bs) ≡ (b ∷ w) ∷ ws
unfolding words_in before_words
byte_read b bs w ws e f r = rw (e, f, r)

word_then_space : (w bs : List ℕ) → Plain w → words_in (w ++ (0x20 ∷ bs)) ≡ w ∷ words_in bs
unfolding Plain words_in before_words
word_then_space [] bs p = refl
word_then_space (b ∷ w) bs p = byte_read b (w ++ (0x20 ∷ bs)) w (words_in bs) p.0 p.1 (word_then_space w bs p.2)

word_then_end : (w bs : List ℕ) → Plain w → words_in (w ++ (0x0A ∷ bs)) ≡ w ∷ []
unfolding Plain words_in before_words
word_then_end [] bs p = refl
word_then_end (b ∷ w) bs p = byte_read b (w ++ (0x0A ∷ bs)) w [] p.0 p.1 (word_then_end w bs p.2)

-- the words of a line, whatever stands behind it
pub words_of_line : (w : List ℕ) (ws : List (List ℕ)) (rest : List ℕ) → AllPlain (w ∷ ws) → words_in (line (w ∷ ws) ++ rest) ≡ w ∷ ws
unfolding AllPlain line
words_of_line w [] rest p = ap words_in (append_assoc w (0x0A ∷ []) rest) ∙ word_then_end w rest p.0
words_of_line w (v ∷ ws) rest p =
    ap words_in (append_assoc w (0x20 ∷ line (v ∷ ws)) rest)
    ∙ word_then_space w (line (v ∷ ws) ++ rest) p.0
    ∙ ap (λ (us : List (List ℕ)). w ∷ us) (words_of_line v ws rest p.1)

-- ---- numbers in decimal

-- every byte is a digit
unfoldable pub Digits : List ℕ → Type 0
Digits [] = Unit {0}
Digits (d ∷ ds) = (48 ≤ d) × (d < 58) × Digits ds

digits_append : (ds es : List ℕ) → Digits ds → Digits es → Digits (ds ++ es)
unfolding Digits
digits_append [] es p q = q
digits_append (d ∷ ds) es p q = (p.0, p.1, digits_append ds es p.2 q)

one_digit : (d : ℕ) → d < 10 → Digits ((48 + d) ∷ [])
unfolding Digits
one_digit d h = (omega arith, omega arith, tt)

digits_of : (k n : ℕ) → Digits (decimal_of k n)
digits_of zero n = unfold decimal_of Digits in tt
digits_of (suc k) n = go (dec_le 10 n) (digits_of k (n / 10))
  where
    go : Dec (10 ≤ n) → Digits (decimal_of k (n / 10)) → Digits (decimal_of (suc k) n)
    go (no l) p = rw (of_small k n (omega arith)) (one_digit n (omega arith))
    go (yes l) p = rw (of_large k n l) (digits_append (decimal_of k (n / 10)) ((48 + n % 10) ∷ []) p (one_digit (n % 10) (mod-lt n (lit< tt))))

digits_plain : (ds : List ℕ) → Digits ds → Plain ds
unfolding Digits Plain
digits_plain [] p = tt
digits_plain (d ∷ ds) p = (ne_eqb d 0x0A (omega (arith, p.0)), ne_eqb d 0x20 (omega (arith, p.0)), digits_plain ds p.2)

no_dash : (ds : List ℕ) → Digits ds → eqb (get_or ds 0 0) 0x2D ≡ false
unfolding Digits
no_dash [] p = refl
no_dash (d ∷ ds) p = ne_eqb d 0x2D (omega (arith, p.0))

pub decimal_plain : (n : ℕ) → Plain (decimal n)
unfolding decimal
decimal_plain n = digits_plain (decimal n) (digits_of 10 n)

pub decimal_no_dash : (n : ℕ) → eqb (get_or (decimal n) 0 0) 0x2D ≡ false
unfolding decimal
decimal_no_dash n = no_dash (decimal n) (digits_of 10 n)

-- one digit more
digit_more : (read : ℕ) (ds : List ℕ) (d : ℕ) → number_from read (ds ++ ((48 + d) ∷ [])) ≡ number_from read ds * 10 + d
unfolding number_from
digit_more read [] d = omega arith
digit_more read (e ∷ ds) d = digit_more (read * 10 + (e - 48)) ds d

number_of_digits : (k n : ℕ) → n < 10 ^ k → number_from 0 (decimal_of k n) ≡ n
number_of_digits zero n h = unfold decimal_of number_from in omega arith
number_of_digits (suc k) n h = go (dec_le 10 n) (number_of_digits k (n / 10))
  where
    tenth : n / 10 < 10 ^ k
    tenth = (div-lt_iff_lt-mul {x = n} {y = 10 ^ k} (lit< tt)).1 (rw (pow-suc 10 k) at h)

    go : Dec (10 ≤ n) → (n / 10 < 10 ^ k → number_from 0 (decimal_of k (n / 10)) ≡ n / 10) → number_from 0 (decimal_of (suc k) n) ≡ n
    go (no l) ih = ap (number_from 0) (of_small k n (omega arith)) ∙ digit_more 0 [] n ∙ unfold number_from in omega arith
    go (yes l) ih =
        ap (number_from 0) (of_large k n l)
        ∙ digit_more 0 (decimal_of k (n / 10)) (n % 10)
        ∙ ap (λ (m : ℕ). m * 10 + n % 10) (ih tenth)
        ∙ div-add-mod' n 10

-- a number below 10,000,000,000 is read back from its digits
pub number_read : (n : ℕ) → n < 10 ^ 10 → number_in (decimal n) ≡ n
unfolding decimal number_in
number_read n h = number_of_digits 10 n h
