-- Laws of a field, over its width and position: what was put is read back, everything else stays, fields one after another compose.
use mathlib.Core.Bool.{Bool}
use mathlib.Core.List.{List, ◌++◌, append_assoc}
use mathlib.Core.Path.{◌≡◌, sym, ap, ap₂, ◌∙◌}
use Prim.Native.Nat.{ℕ, ◌+◌, ◌*◌, ◌/◌, ◌%◌, ◌^◌, ◌≤◌, ◌<◌}
use native.Mathlib.Nat.{add_assoc, mod-lt, mod-eq_of_lt}
use native.Mathlib.Omega.{arith}
use lib.Arith.{digits_lt}
use lib.ListN.{length, take, drop, length-append, length-take, length-drop, take-append-drop}
use lib.Pow.{pow-add, pow_pos, high, low}
use lib.Seq.{take_at, drop_at, take-append-le, drop-append-le, take-append-add, drop-append-add, take-append_seam, drop-drop}
use Rattle.bits.specs.Packed.{digits, field, with_field}
use Rattle.bits.proofs.Laws.{length_digits, digits_split, digits_low}

-- ---- where a field lies

pub field_drop : (m at w : ℕ) (bs : List Bool) → field (m + at) w bs ≡ field at w (drop m bs)
unfolding field
field_drop m at w bs = rw (drop-drop at m bs)

-- a field in the first of two parts
pub field_append : (at w : ℕ) (xs ys : List Bool) → at + w ≤ length xs → field at w (xs ++ ys) ≡ field at w xs
unfolding field
field_append at w xs ys h =
    rw (drop-append-le at xs ys (omega arith)) (take-append-le w (drop at xs) ys (rw length-drop (omega arith)))

pub length_with_field : (at : ℕ) (f bs : List Bool) → at + length f ≤ length bs → length (with_field at f bs) ≡ length bs
unfolding with_field
length_with_field at f bs h = simp (length-append, length-take, length-drop) (omega arith)

-- a field put inside the second of three parts
pub with_field_inside : (at : ℕ) (f xs ys zs : List Bool) → at + length f ≤ length ys
    → with_field (length xs + at) f (xs ++ (ys ++ zs)) ≡ xs ++ (with_field at f ys ++ zs)
unfolding with_field
with_field_inside at f xs ys zs h =
    rw (take-append-add xs (ys ++ zs) at, add_assoc (length xs) at (length f), drop-append-add xs (ys ++ zs) (at + length f), take-append-le at ys zs (omega arith), drop-append-le (at + length f) ys zs h)
    (simp append_assoc)

-- ---- the three laws

-- what was put is read back
pub read_back : (at : ℕ) (f bs : List Bool) → at + length f ≤ length bs → field at (length f) (with_field at f bs) ≡ f
unfolding field with_field
read_back at f bs h =
    rw (append_assoc (take at bs) f (drop (at + length f) bs), drop_at (take at bs) (f ++ drop (at + length f) bs) at (rw length-take (omega arith)))
    (take-append_seam f (drop (at + length f) bs))

-- everything before the field stays
pub stays_before : (at : ℕ) (f bs : List Bool) (a w : ℕ) → at ≤ length bs → a + w ≤ at → field a w (with_field at f bs) ≡ field a w bs
unfolding with_field
stays_before at f bs a w l h =
    rw (append_assoc (take at bs) f (drop (at + length f) bs))
    (field_append a w (take at bs) (f ++ drop (at + length f) bs) here
    ∙ sym (field_append a w (take at bs) (drop at bs) here)
    ∙ ap (field a w) (take-append-drop at bs))
  where
    here : a + w ≤ length (take at bs)
    here = rw length-take (omega arith)

-- everything behind the field stays
pub stays_behind : (at : ℕ) (f bs : List Bool) (a w : ℕ) → at + length f ≤ length bs → field (at + length f + a) w (with_field at f bs) ≡ field (at + length f + a) w bs
unfolding with_field
stays_behind at f bs a w h =
    field_drop (at + length f) a w _
    ∙ ap (field a w) (drop_at (take at bs ++ f) (drop (at + length f) bs) (at + length f) (simp (length-append, length-take) (omega arith)))
    ∙ sym (field_drop (at + length f) a w bs)

-- of any elements: a row put over a list and one put behind it are one row
pub rows_behind : {A : Type 0} (at : ℕ) (f g l : List A) → at ≤ length l
    → let over = take at l ++ f ++ drop (at + length f) l in
    take (at + length f) over ++ g ++ drop (at + length f + length g) over ≡ take at l ++ (f ++ g) ++ drop (at + length (f ++ g)) l
rows_behind {A} at f g l h =
    rw (take_at (take at l ++ f) (drop (at + length f) l) (at + length f) front, length-append f g, ← add_assoc at (length f) (length g))
    (ap (λ (r : List A). take at l ++ f ++ g ++ r) behind ∙ ap (λ (r : List A). r ++ drop (at + length f + length g) l) (append_assoc (take at l) f g))
  where
    front : length (take at l ++ f) ≡ at + length f
    front = simp (length-append, length-take) (omega arith)

    behind : drop (at + length f + length g) (take at l ++ f ++ drop (at + length f) l) ≡ drop (at + length f + length g) l
    behind =
        ap (λ (k : ℕ). drop (k + length g) (take at l ++ f ++ drop (at + length f) l)) (sym front)
        ∙ drop-append-add (take at l ++ f) (drop (at + length f) l) (length g)
        ∙ drop-drop (length g) (at + length f) l

-- two fields, one after the other, are one field
pub with_fields : (at : ℕ) (f g bs : List Bool) → at + length f + length g ≤ length bs
    → with_field (at + length f) g (with_field at f bs) ≡ with_field at (f ++ g) bs
unfolding with_field
with_fields at f g bs h = rows_behind at f g bs (omega arith)

-- ---- a field among a number's digits: `a` before it, `w` of its own, `p` past it

pub take_digits : (a w p n : ℕ) → field a w (digits (a + (w + p)) n) ≡ digits w (n / 2 ^ p)
unfolding field
take_digits a w p n =
    rw (digits_split a (w + p) n, drop_at (digits a (n / 2 ^ (w + p))) (digits (w + p) n) a (length_digits a _), digits_split w p n)
    (take_at (digits w (n / 2 ^ p)) (digits p n) w (length_digits w _))

-- the number with v in the field
abbrev pub replaced : ℕ → ℕ → ℕ → ℕ → ℕ
replaced w p n v = n / 2 ^ (w + p) * 2 ^ (w + p) + (v * 2 ^ p + n % 2 ^ p)

pub put_digits : (a w p n v : ℕ) → v < 2 ^ w → with_field a (digits w v) (digits (a + (w + p)) n) ≡ digits (a + (w + p)) (replaced w p n v)
unfolding with_field
put_digits a w p n v h =
    ap₂ (λ (l r : List Bool). l ++ digits w v ++ r) upper lower
    ∙ append_assoc (digits a (n / 2 ^ (w + p))) (digits w v) (digits p n)
    ∙ sym (digits_split a (w + p) new
    ∙ ap₂ (λ (x : ℕ) (l : List Bool). digits a x ++ l) (high (n / 2 ^ (w + p)) (w + p) below)
    (digits_low (w + p) new part (low (n / 2 ^ (w + p)) (w + p) below ∙ sym (mod-eq_of_lt below))
    ∙ digits_split w p part
    ∙ ap₂ ◌++◌ (ap (digits w) (high v p (mod-lt n (pow_pos p))))
    (digits_low p part n (low v p (mod-lt n (pow_pos p))))))
  where
    part : ℕ
    part = v * 2 ^ p + n % 2 ^ p

    new : ℕ
    new = n / 2 ^ (w + p) * 2 ^ (w + p) + part

    below : part < 2 ^ (w + p)
    below = rw (pow-add 2 w p) (digits_lt h (mod-lt n (pow_pos p)))

    upper : take a (digits (a + (w + p)) n) ≡ digits a (n / 2 ^ (w + p))
    upper = rw (digits_split a (w + p) n) (take_at (digits a (n / 2 ^ (w + p))) (digits (w + p) n) a (length_digits a _))

    lower : drop (a + length (digits w v)) (digits (a + (w + p)) n) ≡ digits p n
    lower =
        rw (length_digits w v, ← drop-drop w a (digits (a + (w + p)) n), digits_split a (w + p) n, drop_at (digits a (n / 2 ^ (w + p))) (digits (w + p) n) a (length_digits a _), digits_split w p n)
        (drop_at (digits w (n / 2 ^ p)) (digits p n) w (length_digits w _))
