-- Laws of fields one after another, over any widths: what was packed is unpacked, what was unpacked packs to the same bits.
use mathlib.Core.Bool.{Bool}
use mathlib.Core.List.{List, [], ◌∷◌, ◌++◌, append_assoc, append-nil}
use mathlib.Core.Path.{◌≡◌, refl, sym, ap, ap₂, ◌∙◌}
use Prim.Native.Nat.{ℕ, zero, suc, ◌+◌, ◌*◌, ◌^◌, ◌≤◌, ◌<◌}
use native.Mathlib.Nat.{mod-eq_of_lt, lt_of_lt_of_le}
use native.Mathlib.Numerals.{add-one}
use native.Mathlib.Omega.{arith}
use lib.ListN.{length, get_or, take, drop, replicate, length-append, length-take, length-drop}
use lib.Pow.{pow_mono}
use lib.Seq.{take_at, drop_at, drop-drop, take-add, length-take-le}
use Rattle.bits.specs.Packed.{value, digits, field}
use Rattle.bits.proofs.Laws.{length_digits, value_digits, value_lt, digits_value}
use Rattle.records.specs.Rows.{packed, unpacked, total}

-- as many numbers as widths, and each number fits its width
pub data Fit : List ℕ → List ℕ → Type 0 where
  no_field : Fit [] []
  one_more : {w v : ℕ} {ws vs : List ℕ} → v < 2 ^ w → Fit ws vs → Fit (w ∷ ws) (v ∷ vs)

-- fields take the sum of their widths
pub length_packed : (ws vs : List ℕ) → length ws ≡ length vs → length (packed ws vs) ≡ total ws
unfolding packed total
length_packed [] vs e = refl
length_packed (w ∷ ws) [] e = let z : ⊥ = omega arith in absurd z
length_packed (w ∷ ws) (v ∷ vs) e =
    length-append (digits w v) (packed ws vs) ∙ ap₂ ◌+◌ (length_digits w v) (length_packed ws vs (omega arith))

pub length_unpacked : (ws : List ℕ) (bits : List Bool) → length (unpacked ws bits) ≡ length ws
unfolding unpacked
length_unpacked [] bits = refl
length_unpacked (w ∷ ws) bits = ap suc (length_unpacked ws (drop w bits))

pub fit_length : {ws vs : List ℕ} → Fit ws vs → length ws ≡ length vs
fit_length no_field = refl
fit_length (one_more h f) = ap suc (fit_length f)

-- numbers that were packed are unpacked
pub unpacked_packed : {ws vs : List ℕ} → Fit ws vs → (rest : List Bool) → unpacked ws (packed ws vs ++ rest) ≡ vs
unfolding unpacked packed
unpacked_packed no_field rest = refl
unpacked_packed (one_more {w} {v} {ws} {vs} h f) rest =
    ap (λ (bs : List Bool). value (take w bs) ∷ unpacked ws (drop w bs)) (append_assoc (digits w v) (packed ws vs) rest)
    ∙ ap₂ ◌∷◌
    (ap value (take_at (digits w v) (packed ws vs ++ rest) w (length_digits w v)) ∙ value_digits w v ∙ mod-eq_of_lt h)
    (ap (unpacked ws) (drop_at (digits w v) (packed ws vs ++ rest) w (length_digits w v)) ∙ unpacked_packed f rest)

-- the bits of a field are the digits of its number
pub digits_taken : (w : ℕ) (bits : List Bool) → w ≤ length bits → digits w (value (take w bits)) ≡ take w bits
digits_taken w bits h =
    ap (λ (k : ℕ). digits k (value (take w bits))) (sym (length-take-le w bits h)) ∙ digits_value (take w bits)

-- numbers that were unpacked pack to the bits that they were in
pub packed_unpacked : (ws : List ℕ) (bits : List Bool) → total ws ≤ length bits → packed ws (unpacked ws bits) ≡ take (total ws) bits
unfolding packed unpacked total
packed_unpacked [] bits h = refl
packed_unpacked (w ∷ ws) bits h =
    ap₂ ◌++◌ (digits_taken w bits (omega arith)) (packed_unpacked ws (drop w bits) (rw length-drop (omega arith)))
    ∙ sym (take-add w (total ws) bits)

-- a number of w bits is below 2 ^ w
pub value_taken : (w : ℕ) (bits : List Bool) → value (take w bits) < 2 ^ w
value_taken w bits = lt_of_lt_of_le (value_lt (take w bits)) (pow_mono (rw length-take (omega arith)))

-- n fields of one width
pub total_replicate : (n w : ℕ) → total (replicate n w) ≡ n * w
unfolding total
total_replicate zero w = omega arith
total_replicate (suc n) w = rw (total_replicate n w) (omega arith)

-- ---- field by field

-- number i is that of the field behind the first i widths
pub number_in : (ws : List ℕ) (bits : List Bool) (i : ℕ) → i < length ws → get_or (unpacked ws bits) i 0 ≡ value (field (total (take i ws)) (get_or ws i 0) bits)
unfolding unpacked total field
number_in [] bits i h = let z : ⊥ = omega arith in absurd z
number_in (w ∷ ws) bits zero h = refl
number_in (w ∷ ws) bits (suc i) h =
    number_in ws (drop w bits) i (omega arith) ∙ ap (λ (l : List Bool). value (take (get_or ws i 0) l)) (drop-drop (total (take i ws)) w bits)

-- one field more at the end of a row
pub packed_more : (ws vs : List ℕ) (w v : ℕ) → length ws ≡ length vs → packed (ws ++ (w ∷ [])) (vs ++ (v ∷ [])) ≡ packed ws vs ++ digits w v
unfolding packed
packed_more [] [] w v e = append-nil (digits w v)
packed_more [] (y ∷ vs) w v e = let z : ⊥ = omega arith in absurd z
packed_more (x ∷ ws) [] w v e = let z : ⊥ = omega arith in absurd z
packed_more (x ∷ ws) (y ∷ vs) w v e =
    ap (λ (l : List Bool). digits x y ++ l) (packed_more ws vs w v (omega arith)) ∙ sym (append_assoc (digits x y) (packed ws vs) (digits w v))

-- the first i fields and the next
pub total_more : (ws : List ℕ) (i : ℕ) → i < length ws → total (take (suc i) ws) ≡ total (take i ws) + get_or ws i 0
unfolding total
total_more [] i h = let z : ⊥ = omega arith in absurd z
total_more (w ∷ ws) zero h = omega arith
total_more (w ∷ ws) (suc i) h = omega (arith, total_more ws i (omega arith))

-- are part of the row
pub total_part : (ws : List ℕ) (i : ℕ) → i < length ws → total (take i ws) + get_or ws i 0 ≤ total ws
unfolding total
total_part [] i h = let z : ⊥ = omega arith in absurd z
total_part (w ∷ ws) zero h = omega arith
total_part (w ∷ ws) (suc i) h = omega (arith, total_part ws i (omega arith))

pub total_to : (ws : List ℕ) (i : ℕ) → i < length ws → total (take (i + 1) ws) ≡ total (take i ws) + get_or ws i 0
total_to ws i h = ap (λ (k : ℕ). total (take k ws)) (add-one i) ∙ total_more ws i h
