-- Laws of adding a pattern to bits, and of the division's steps.
use mathlib.Core.Bool.{Bool, true, false, not, xor, cond, true≢false, false≢true}
use mathlib.Core.List.{List, [], ◌∷◌}
use mathlib.Core.Logic.{◌⊎◌, inl, inr, ⊎_elim}
use mathlib.Core.Path.{◌≡◌, refl, sym, ap, ap₂, ◌∙◌}
use Prim.Native.Nat.{ℕ, zero, suc, ◌+◌, ◌-◌, ◌≤◌, ◌<◌, zero-le}
use native.Mathlib.Nat.{not-suc-le-zero, le_of_suc-le-suc, suc_inj, suc-ne-zero, sub-zero, zero-sub, suc-sub-suc}
use native.Mathlib.Omega.{arith}
use lib.Dec.{lit≤}
use lib.ListN.{length, get_or}
use Rattle.bits.specs.Packed.{digits}
use Rattle.check_word.specs.Division.{added, polynomial, divided, started}
use Rattle.check_word.specs.Change.{AgreeOutside}

-- ---- bits

pub xor_false : (b : Bool) → xor false b ≡ b
unfolding xor
xor_false false = refl
xor_false true = refl

pub xor_true : (b : Bool) → xor true b ≡ not b
unfolding xor
xor_true false = refl
xor_true true = refl

pub xor_self : (b : Bool) → xor b b ≡ false
unfolding xor
xor_self false = refl
xor_self true = refl

pub xor_comm : (a b : Bool) → xor a b ≡ xor b a
unfolding xor
xor_comm false false = refl
xor_comm false true = refl
xor_comm true false = refl
xor_comm true true = refl

pub xor_assoc : (a b c : Bool) → xor (xor a b) c ≡ xor a (xor b c)
unfolding xor
xor_assoc false false false = refl
xor_assoc false false true = refl
xor_assoc false true false = refl
xor_assoc false true true = refl
xor_assoc true false false = refl
xor_assoc true false true = refl
xor_assoc true true false = refl
xor_assoc true true true = refl

xor_swap : (a b c : Bool) → xor a (xor b c) ≡ xor b (xor a c)
xor_swap a b c = sym (xor_assoc a b c) ∙ ap (λ (x : Bool). xor x c) (xor_comm a b) ∙ xor_assoc b a c

xor_twice : (a b : Bool) → xor a (xor a b) ≡ b
xor_twice a b = sym (xor_assoc a a b) ∙ ap (λ (x : Bool). xor x b) (xor_self a) ∙ xor_false b

pub not_self : (b : Bool) → ¬ (not b ≡ b)
not_self false e = true≢false e
not_self true e = false≢true e

-- ---- adding a pattern

pub length_added : (p bs : List Bool) → length (added p bs) ≡ length bs
unfolding added
length_added [] bs = refl
length_added (p ∷ ps) [] = refl
length_added (p ∷ ps) (b ∷ bs) = ap suc (length_added ps bs)

pub added_nil : (p : List Bool) → added p [] ≡ []
unfolding added
added_nil [] = refl
added_nil (p ∷ ps) = refl

pub added_comm : (p q bs : List Bool) → added p (added q bs) ≡ added q (added p bs)
unfolding added
added_comm [] q bs = refl
added_comm (p ∷ ps) [] bs = refl
added_comm (p ∷ ps) (q ∷ qs) [] = refl
added_comm (p ∷ ps) (q ∷ qs) (b ∷ bs) = ap₂ ◌∷◌ (xor_swap p q b) (added_comm ps qs bs)

pub added_twice : (p bs : List Bool) → added p (added p bs) ≡ bs
unfolding added
added_twice [] bs = refl
added_twice (p ∷ ps) [] = refl
added_twice (p ∷ ps) (b ∷ bs) = ap₂ ◌∷◌ (xor_twice p b) (added_twice ps bs)

added_inj : (p bs cs : List Bool) → added p bs ≡ added p cs → bs ≡ cs
added_inj p bs cs e = sym (added_twice p bs) ∙ ap (added p) e ∙ added_twice p cs

-- two patterns one after the other, or their sum at once
pub added_assoc : (p q bs : List Bool) → length p ≤ length q → added (added p q) bs ≡ added p (added q bs)
unfolding added
added_assoc [] q bs h = refl
added_assoc (p ∷ ps) [] bs h = absurd (not-suc-le-zero h)
added_assoc (p ∷ ps) (q ∷ qs) [] h = refl
added_assoc (p ∷ ps) (q ∷ qs) (b ∷ bs) h = ap₂ ◌∷◌ (xor_assoc p q b) (added_assoc ps qs bs (le_of_suc-le-suc h))

-- bits that agree at a position agree there after the same pattern was added
added_agree : (p bs cs : List Bool) (i : ℕ) → length bs ≡ length cs → get_or bs i false ≡ get_or cs i false
    → get_or (added p bs) i false ≡ get_or (added p cs) i false
unfolding added
added_agree [] bs cs i l h = h
added_agree (p ∷ ps) [] [] i l h = refl
added_agree (p ∷ ps) [] (c ∷ cs) i l h = absurd (suc-ne-zero (length cs) (sym l))
added_agree (p ∷ ps) (b ∷ bs) [] i l h = absurd (suc-ne-zero (length bs) l)
added_agree (p ∷ ps) (b ∷ bs) (c ∷ cs) zero l h = ap (xor p) h
added_agree (p ∷ ps) (b ∷ bs) (c ∷ cs) (suc i) l h = added_agree ps bs cs i (suc_inj l) h

-- what follows the pattern stays
added_behind : (p bs : List Bool) (i : ℕ) → length p ≤ i → get_or (added p bs) i false ≡ get_or bs i false
unfolding added
added_behind [] bs i h = refl
added_behind (p ∷ ps) [] i h = refl
added_behind (p ∷ ps) (b ∷ bs) zero h = absurd (not-suc-le-zero h)
added_behind (p ∷ ps) (b ∷ bs) (suc i) h = added_behind ps bs i (le_of_suc-le-suc h)

getD_added : (p bs : List Bool) (i : ℕ) → i < length bs → get_or (added p bs) i false ≡ xor (get_or p i false) (get_or bs i false)
unfolding added
getD_added [] bs i h = sym (xor_false (get_or bs i false))
getD_added (p ∷ ps) [] i h = absurd (not-suc-le-zero h)
getD_added (p ∷ ps) (b ∷ bs) zero h = refl
getD_added (p ∷ ps) (b ∷ bs) (suc i) h = getD_added ps bs i (le_of_suc-le-suc h)

-- ---- the start

pub length_started : (bs : List Bool) → length (started bs) ≡ length bs
unfolding started
length_started bs = length_added _ bs

pub started_added : (p bs : List Bool) → started (added p bs) ≡ added p (started bs)
unfolding started
started_added p bs = added_comm _ p bs

pub started_inj : (bs cs : List Bool) → started bs ≡ started cs → bs ≡ cs
unfolding started
started_inj bs cs e = added_inj _ bs cs e

pub started_agree : (bs cs : List Bool) (i : ℕ) → length bs ≡ length cs → get_or bs i false ≡ get_or cs i false
    → get_or (started bs) i false ≡ get_or (started cs) i false
unfolding started
started_agree bs cs i l h = added_agree _ bs cs i l h

-- ---- a step of the division

-- what one step makes of the first bit and the bits behind it
abbrev pub step : Bool → List Bool → List Bool
step b bs = cond b (added polynomial bs) bs

pub length_polynomial : length polynomial ≡ 16
unfolding polynomial digits
length_polynomial = refl

-- the polynomial's last coefficient is 1
last_one : get_or polynomial 15 false ≡ true
unfolding polynomial digits
last_one = refl

pub length_step : (b : Bool) (bs : List Bool) → length (step b bs) ≡ length bs
length_step false bs = refl
length_step true bs = length_added polynomial bs

pub length_divided : (n : ℕ) (bs : List Bool) → length (divided n bs) ≡ length bs - n
unfolding divided
length_divided zero bs = sym (sub-zero (length bs))
length_divided (suc n) [] = sym (zero-sub (suc n))
length_divided (suc n) (b ∷ bs) = length_divided n (step b bs) ∙ ap (λ (k : ℕ). k - n) (length_step b bs) ∙ sym (suc-sub-suc (length bs) n)

-- the bits behind the sixteen that a step can change stay, and equal first bits change them alike
step_agree : (b c : Bool) (bs cs : List Bool) (i : ℕ) → length bs ≡ length cs → (b ≡ c) ⊎ (16 ≤ i) → get_or bs i false ≡ get_or cs i false
    → get_or (step b bs) i false ≡ get_or (step c cs) i false
step_agree false false bs cs i l o h = h
step_agree true true bs cs i l o h = added_agree polynomial bs cs i l h
step_agree true false bs cs i l o h =
    ⊎_elim (λ e. absurd (true≢false e)) (λ f. added_behind polynomial bs i (rw length_polynomial f) ∙ h) o
step_agree false true bs cs i l o h =
    ⊎_elim (λ e. absurd (false≢true e)) (λ f. h ∙ sym (added_behind polynomial cs i (rw length_polynomial f))) o

-- a step that subtracted inverts the sixteenth bit, so it is no step that did not
unlike : (bs cs : List Bool) → 15 < length bs → get_or bs 15 false ≡ get_or cs 15 false → ¬ (added polynomial bs ≡ cs)
unlike bs cs l h e =
    not_self (get_or bs 15 false)
    (sym (xor_true (get_or bs 15 false)) ∙ ap (λ (x : Bool). xor x (get_or bs 15 false)) (sym last_one) ∙ sym (getD_added polynomial bs 15 l)
    ∙ ap (λ (r : List Bool). get_or r 15 false) e ∙ sym h)

-- a step can be undone
undone : (b c : Bool) (bs cs : List Bool) → 15 < length bs → length bs ≡ length cs → (b ≡ c) ⊎ (get_or bs 15 false ≡ get_or cs 15 false)
    → step b bs ≡ step c cs → b ∷ bs ≡ c ∷ cs
undone false false bs cs l m o e = ap (λ (r : List Bool). false ∷ r) e
undone true true bs cs l m o e = ap (λ (r : List Bool). true ∷ r) (added_inj polynomial bs cs e)
undone true false bs cs l m o e = ⊎_elim (λ q. absurd (true≢false q)) (λ h. absurd (unlike bs cs l h e)) o
undone false true bs cs l m o e = ⊎_elim (λ q. absurd (false≢true q)) (λ h. absurd (unlike cs bs (rw m at l) (sym h) (sym e))) o

-- bits that agree outside of sixteen neighbouring positions and leave the same are the same
pub same_left : (n k : ℕ) (bs cs : List Bool) → length bs ≡ n + 16 → length cs ≡ n + 16 → k ≤ n → AgreeOutside k 16 bs cs
    → divided n bs ≡ divided n cs → bs ≡ cs
unfolding divided
same_left zero k bs cs l m h a e = e
same_left (suc n) k [] cs l m h a e = let z : ⊥ = omega arith in absurd z
same_left (suc n) k (b ∷ bs) [] l m h a e = let z : ⊥ = omega arith in absurd z
same_left (suc n) zero (b ∷ bs) (c ∷ cs) l m h a e =
    undone b c bs cs (omega arith) (omega arith) (inr (a 16 (inr (lit≤ tt))))
    (same_left n zero (step b bs) (step c cs) (length_step b bs ∙ omega arith) (length_step c cs ∙ omega arith) zero-le
    (λ i. ⊎_elim (λ z. absurd (not-suc-le-zero z)) (λ f. step_agree b c bs cs i (omega arith) (inr f) (a (suc i) (inr (omega arith)))))
    e)
same_left (suc n) (suc k) (b ∷ bs) (c ∷ cs) l m h a e =
    let q : b ≡ c = a zero (inl (omega arith)) in
    undone b c bs cs (omega arith) (omega arith) (inl q)
    (same_left n k (step b bs) (step c cs) (length_step b bs ∙ omega arith) (length_step c cs ∙ omega arith) (omega arith)
    (λ i o. step_agree b c bs cs i (omega arith) (inl q) (a (suc i) (⊎_elim (λ f. inl (omega arith)) (λ f. inr (omega arith)) o)))
    e)
