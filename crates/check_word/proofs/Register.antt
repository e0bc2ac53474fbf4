-- The division in a register: sixteen bits that start at all ones, take in a byte at the top, and go on eight steps for each byte.
use Rattle.std.specs.List.{fold}
use mathlib.Core.Bool.{Bool, true, false, xor}
use mathlib.Core.List.{List, [], ◌∷◌, ◌++◌, append_assoc, append-nil}
use mathlib.Core.Path.{◌≡◌, refl, sym, ap, ap₂, ◌∙◌}
use Prim.Native.Nat.{ℕ, zero, suc, ◌+◌, ◌-◌, ◌*◌, ◌^◌, ◌≤◌, ◌<◌}
use native.Mathlib.Nat.{not-suc-le-zero, le_of_suc-le-suc, zero-add, suc-add, mod-eq_of_lt}
use native.Mathlib.Omega.{arith}
use lib.ListN.{length, replicate, length-append, length-replicate}
use Rattle.bits.specs.Packed.{value, digits, bits_of}
use Rattle.bits.proofs.Laws.{length_digits, value_digits, digits_value, value_lt, eight_more, length_bits}
use Rattle.check_word.specs.Division.{added, polynomial, divided, started, check_word}
use Rattle.check_word.specs.Inside.Register.{shifted, fed, register}
use Rattle.check_word.proofs.Steps.{step, xor_false, xor_comm, length_added, added_comm, added_assoc, length_polynomial, length_step, length_divided}
use Rattle.check_word.proofs.Residue.{added_zeros, remainder_is}

-- ---- patterns and what stands behind them

added_append : (p bs cs : List Bool) → length p ≤ length bs → added p (bs ++ cs) ≡ added p bs ++ cs
unfolding added
added_append [] bs cs h = refl
added_append (p ∷ ps) [] cs h = absurd (not-suc-le-zero h)
added_append (p ∷ ps) (b ∷ bs) cs h = ap (λ (r : List Bool). xor p b ∷ r) (added_append ps bs cs (le_of_suc-le-suc h))

-- zeros at a pattern's end add nothing
pub added_zeros_behind : (p : List Bool) (n : ℕ) (bs : List Bool) → added (p ++ replicate n false) bs ≡ added p bs
unfolding added
added_zeros_behind [] zero bs = refl
added_zeros_behind [] (suc n) [] = refl
added_zeros_behind [] (suc n) (b ∷ bs) = ap₂ ◌∷◌ (xor_false b) (added_zeros_behind [] n bs)
added_zeros_behind (p ∷ ps) n [] = refl
added_zeros_behind (p ∷ ps) n (b ∷ bs) = ap (λ (r : List Bool). xor p b ∷ r) (added_zeros_behind ps n bs)

-- bits are what they add to zeros
as_added : (p bs : List Bool) → p ++ bs ≡ added p (replicate (length p) false ++ bs)
unfolding added
as_added [] bs = refl
as_added (p ∷ ps) bs = ap₂ ◌∷◌ (sym (xor_comm p false ∙ xor_false p)) (as_added ps bs)

-- ---- one step

step_append : (b : Bool) (bs cs : List Bool) → length bs ≡ 16 → step b (bs ++ cs) ≡ step b bs ++ cs
step_append false bs cs l = refl
step_append true bs cs l = added_append polynomial bs cs (omega (arith, length_polynomial))

-- a step on bits to which the register was added: the register takes the step, with a zero behind it
step_added : (q : Bool) (qs bs : List Bool) → length qs ≡ 15 → step q (added qs bs) ≡ added (step q (qs ++ (false ∷ []))) bs
step_added false qs bs l = sym (added_zeros_behind qs 1 bs)
step_added true qs bs l =
    ap (added polynomial) (sym (added_zeros_behind qs 1 bs))
    ∙ sym (added_assoc polynomial (qs ++ (false ∷ [])) bs (rw (length-append qs (false ∷ [])) (omega (arith, length_polynomial))))

length_stepped : (q : Bool) (qs : List Bool) → length qs ≡ 15 → length (step q (qs ++ (false ∷ []))) ≡ 16
length_stepped q qs l = length_step q (qs ++ (false ∷ [])) ∙ rw (length-append qs (false ∷ [])) (omega arith)

-- the first of several steps of a register
divided_first : (n : ℕ) (r : List Bool) → length r ≡ 16
    → divided (suc n) (r ++ replicate (suc n) false) ≡ divided n (divided 1 (r ++ replicate 1 false) ++ replicate n false)
unfolding divided
divided_first n [] l = let z : ⊥ = omega arith in absurd z
divided_first n (q ∷ qs) l =
    ap (λ (x : List Bool). divided n (step q x)) (sym (append_assoc qs (false ∷ []) (replicate n false)))
    ∙ ap (divided n) (step_append q (qs ++ (false ∷ [])) (replicate n false) (rw (length-append qs (false ∷ [])) (omega arith)))

-- n steps on a register added to n zeros and more bits: the register takes them by itself, and is added to the bits behind
pub divided_register : (n m : ℕ) (r bs : List Bool) → length r ≡ 16
    → divided (n + m) (added r (replicate n false ++ bs)) ≡ divided m (added (divided n (r ++ replicate n false)) bs)
unfolding divided added
divided_register zero m r bs l = rw (zero-add m, append-nil r)
divided_register (suc n) m [] bs l = let z : ⊥ = omega arith in absurd z
divided_register (suc n) m (q ∷ qs) bs l =
    rw (suc-add n m)
    (ap (λ (x : Bool). divided (n + m) (step x (added qs (replicate n false ++ bs)))) (xor_comm q false ∙ xor_false q)
    ∙ ap (divided (n + m)) (step_added q qs (replicate n false ++ bs) (omega arith))
    ∙ divided_register n m (step q (qs ++ (false ∷ []))) bs (length_stepped q qs (omega arith))
    ∙ ap (λ (x : List Bool). divided m (added x bs)) (sym (divided_first n (q ∷ qs) l)))

-- ---- the register as a number

length_register : (n : ℕ) (r : List Bool) → length r ≡ 16 → length (divided n (r ++ replicate n false)) ≡ 16
length_register n r l =
    length_divided n (r ++ replicate n false)
    ∙ rw (length-append r (replicate n false), length-replicate n false) (omega arith)

value_register : (n : ℕ) (r : List Bool) → length r ≡ 16 → value (divided n (r ++ replicate n false)) < 2 ^ 16
value_register n r l = rw (length_register n r l) at (value_lt (divided n (r ++ replicate n false)))

digits_register : (n : ℕ) (r : List Bool) → length r ≡ 16 → digits 16 (value (divided n (r ++ replicate n false))) ≡ divided n (r ++ replicate n false)
digits_register n r l =
    ap (λ (w : ℕ). digits w (value (divided n (r ++ replicate n false)))) (sym (length_register n r l)) ∙ digits_value (divided n (r ++ replicate n false))

shifted_none : (c : ℕ) → c < 2 ^ 16 → shifted 0 c ≡ c
unfolding shifted divided
shifted_none c h = ap value (append-nil (digits 16 c)) ∙ value_digits 16 c ∙ mod-eq_of_lt h

shifted_suc : (n c : ℕ) → shifted (suc n) c ≡ shifted n (shifted 1 c)
unfolding shifted
shifted_suc n c =
    ap value
    (divided_first n (digits 16 c) (length_digits 16 c)
    ∙ ap (λ (x : List Bool). divided n (x ++ replicate n false)) (sym (digits_register 1 (digits 16 c) (length_digits 16 c))))

-- a turn of a loop that counts the steps, k of n done
pub shifted_turn : (n k r r' : ℕ) → k < n → r' ≡ shifted 1 r → shifted (n - (k + 1)) r' ≡ shifted (n - k) r
shifted_turn n k r r' h e =
    let f : suc (n - (k + 1)) ≡ n - k = omega arith in
    ap (shifted (n - (k + 1))) e ∙ sym (shifted_suc (n - (k + 1)) r) ∙ ap (λ (m : ℕ). shifted m r) f

-- and its end
pub shifted_end : (n k r : ℕ) → n ≤ k → r < 2 ^ 16 → r ≡ shifted (n - k) r
shifted_end n k r h lt =
    let f : 0 ≡ n - k = omega arith in
    sym (shifted_none r lt) ∙ ap (λ (m : ℕ). shifted m r) f

length_fed : (c b : ℕ) → length (added (digits 8 b) (digits 16 c)) ≡ 16
length_fed c b = length_added (digits 8 b) (digits 16 c) ∙ length_digits 16 c

pub fed_lt : (c b : ℕ) → fed c b < 2 ^ 16
unfolding fed
fed_lt c b = value_register 8 (added (digits 8 b) (digits 16 c)) (length_fed c b)

-- ---- all bytes

-- a byte at the front of the bits that are left
byte_taken : (c b m : ℕ) (bs : List Bool)
    → divided (8 + m) (added (digits 16 c) (digits 8 b ++ bs)) ≡ divided m (added (digits 16 (fed c b)) bs)
unfolding fed
byte_taken c b m bs =
    ap (λ (x : List Bool). divided (8 + m) (added (digits 16 c) x)) (as_added (digits 8 b) bs)
    ∙ ap (λ (n : ℕ). divided (8 + m) (added (digits 16 c) (added (digits 8 b) (replicate n false ++ bs)))) (length_digits 8 b)
    ∙ ap (divided (8 + m))
    (added_comm (digits 16 c) (digits 8 b) (replicate 8 false ++ bs)
    ∙ sym (added_assoc (digits 8 b) (digits 16 c) (replicate 8 false ++ bs) (omega (arith, length_digits 8 b, length_digits 16 c))))
    ∙ divided_register 8 m (added (digits 8 b) (digits 16 c)) bs (length_fed c b)
    ∙ ap (λ (x : List Bool). divided m (added x bs)) (sym (digits_register 8 (added (digits 8 b) (digits 16 c)) (length_fed c b)))

register_left : (c : ℕ) (s : List ℕ) → c < 2 ^ 16
    → value (divided (8 * length s) (added (digits 16 c) (bits_of s ++ replicate 16 false))) ≡ register c s
unfolding bits_of register divided
register_left c [] h = ap value (added_zeros (digits 16 c) 16 (length_digits 16 c)) ∙ value_digits 16 c ∙ mod-eq_of_lt h
register_left c (b ∷ s) h =
    ap (λ (n : ℕ). value (divided n (added (digits 16 c) (digits 8 b ++ bits_of s ++ replicate 16 false)))) (eight_more (length s))
    ∙ ap (λ (x : List Bool). value (divided (8 + 8 * length s) (added (digits 16 c) x))) (append_assoc (digits 8 b) (bits_of s) (replicate 16 false))
    ∙ ap value (byte_taken c b (8 * length s) (bits_of s ++ replicate 16 false))
    ∙ register_left (fed c b) s (fed_lt c b)

-- the check word is the register after all bytes, started at all ones
pub register_form : (s : List ℕ) → check_word s ≡ register 0xFFFF s
unfolding check_word started digits
register_form s =
    ap value (remainder_is (bits_of s) (replicate 16 false) refl)
    ∙ ap (λ (n : ℕ). value (divided n (started (bits_of s ++ replicate 16 false)))) (length_bits s)
    ∙ register_left 0xFFFF s (omega arith)

-- which the code folds over the bytes
pub register_folds : (s : List ℕ) (c : ℕ) → fold fed c s ≡ register c s
unfolding register
register_folds [] c = refl
register_folds (b ∷ s) c = register_folds s (fed c b)
