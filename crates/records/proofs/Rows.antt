-- Which rows there are and which numbers fit them: the outcomes of `row_there` and `each_fits`, by the fact that decides each.
use Rattle.std.proofs.lemmas.Bool.Decides.{nat_tests}
use mathlib.Core.Bool.{Bool, true, false, ◌&&◌, and-false, false≢true}
use mathlib.Core.List.{List, [], ◌∷◌}
use mathlib.Core.Path.{◌≡◌, refl, ap, ap₂, ◌∙◌}
use Prim.Native.Nat.{ℕ, zero, suc, ◌+◌, ◌-◌, ◌^◌, ◌≤◌, ◌<◌}
use native.Mathlib.Numerals.{add-one}
use native.Mathlib.Omega.{arith}
use borrow.Author.Tests.{le-leb, lt-ltb, le-ltb}
use lib.Dec.{leb, ltb}
use lib.ListN.{length, get_or, drop, drop_of_length-le}
use lib.Seq.{drop-cons}
use Rattle.bits.specs.Faces.{widest}
use Rattle.records.specs.Rows.{total}
use Rattle.records.specs.Faces.{end_of, lawful, row_there, each_fits}
use Rattle.records.proofs.Packing.{Fit, no_field, one_more}

-- ---- widths

lawful_first : (w : ℕ) (ws : List ℕ) → lawful (w ∷ ws) ≡ true → (1 ≤ w) × (w ≤ widest) × (lawful ws ≡ true)
unfolding lawful
lawful_first w ws e = (grind (arith, nat_tests), grind (arith, nat_tests), grind (arith, nat_tests))

pub lawful_at : (ws : List ℕ) → lawful ws ≡ true → (i : ℕ) → i < length ws → (1 ≤ get_or ws i 0) × (get_or ws i 0 ≤ widest)
lawful_at [] e i h = let z : ⊥ = omega arith in absurd z
lawful_at (w ∷ ws) e zero h = let f = lawful_first w ws e in (f.0, f.1)
lawful_at (w ∷ ws) e (suc i) h = lawful_at ws (lawful_first w ws e).2 i (omega arith)

-- ---- a row from a position on

-- lawful fields in so many bits
pub room_for : ℕ → List ℕ → Bool
room_for left ws = lawful ws && leb (total ws) left

module _ (n at : ℕ) (ws : List ℕ) where
  pub there_room : (left : ℕ) → at ≤ end_of n → left ≡ end_of n - at → row_there n at ws ≡ room_for left ws
  unfolding row_there room_for
  there_room left h e = grind (arith, nat_tests)

  pub there_past : end_of n < at → row_there n at ws ≡ false
  unfolding row_there
  there_past h = grind (arith, nat_tests)

  pub there_is : lawful ws ≡ true → row_there n at ws ≡ leb (at + total ws) (end_of n)
  unfolding row_there
  there_is e = ap (λ (b : Bool). b && leb (at + total ws) (end_of n)) e

  -- what a row that is there has
  pub there_has : row_there n at ws ≡ true → (lawful ws ≡ true) × (at + total ws ≤ end_of n)
  unfolding row_there
  there_has e = (grind (arith, nat_tests), grind (arith, nat_tests))

-- one field after another
module _ (left : ℕ) (ws : List ℕ) (i : ℕ) (h : i < length ws) where
  next_is : drop i ws ≡ get_or ws i 0 ∷ drop (suc i) ws
  next_is = drop-cons ws i 0 h

  pub room_not : (1 ≤ get_or ws i 0 → get_or ws i 0 ≤ widest → get_or ws i 0 ≤ left → ⊥) → room_for left (drop i ws) ≡ false
  unfolding room_for lawful total
  room_not f = rw next_is (grind (arith, nat_tests))

  pub room_more : 1 ≤ get_or ws i 0 → get_or ws i 0 ≤ widest → get_or ws i 0 ≤ left → room_for left (drop i ws) ≡ room_for (left - get_or ws i 0) (drop (i + 1) ws)
  unfolding room_for lawful total
  room_more m w l = rw (next_is, add-one i) (grind (arith, nat_tests))

pub room_all : (left : ℕ) (ws : List ℕ) (i : ℕ) → length ws ≤ i → room_for left (drop i ws) ≡ true
unfolding room_for lawful total
room_all left ws i h = rw (drop_of_length-le ws h) (le-leb 0 left (omega arith))

-- ---- numbers in fields

pub uneven : (ws vs : List ℕ) → (length ws ≡ length vs → ⊥) → each_fits ws vs ≡ false
unfolding each_fits
uneven [] [] f = absurd (f refl)
uneven [] (v ∷ vs) f = refl
uneven (w ∷ ws) [] f = refl
uneven (w ∷ ws) (v ∷ vs) f = ap (λ (b : Bool). ltb v (2 ^ w) && b) (uneven ws vs (λ e. f (ap suc e))) ∙ and-false (ltb v (2 ^ w))

-- what is left of widths and numbers, where all before fits
pub record FitsLeft (ws vs us ns : List ℕ) : Type 0 where
  pub widths : lawful us ≡ true
  pub even : length us ≡ length ns
  pub same : each_fits ws vs ≡ each_fits us ns

pub left_all : {ws vs us ns : List ℕ} → lawful ws ≡ true → length ws ≡ length vs → us ≡ ws → ns ≡ vs → FitsLeft ws vs us ns
left_all e l eu en = rw (eu, en) (record { widths = e; even = l; same = refl })

module _ {ws vs us ns us' ns' : List ℕ} {w v : ℕ} (p : FitsLeft ws vs us ns) (eu : us ≡ w ∷ us') (en : ns ≡ v ∷ ns') where
  pub left_width : w ≤ widest
  left_width = (lawful_first w us' (rw eu at p.widths)).1

  pub left_not : 2 ^ w ≤ v → each_fits ws vs ≡ false
  unfolding each_fits
  left_not h = p.same ∙ rw (eu, en, le-ltb v (2 ^ w) h)

  pub left_more : v < 2 ^ w → FitsLeft ws vs us' ns'
  unfolding each_fits
  left_more h =
      record {
        widths = (lawful_first w us' (rw eu at p.widths)).2;
        even = omega (arith, p.even, ap length eu, ap length en);
        same = p.same ∙ rw (eu, en, lt-ltb v (2 ^ w) h);
      }

pub left_none : {ws vs us ns : List ℕ} → FitsLeft ws vs us ns → us ≡ [] → ns ≡ [] → each_fits ws vs ≡ true
unfolding each_fits
left_none p eu en = p.same ∙ rw (eu, en)

fits_first : (w v : ℕ) (ws vs : List ℕ) → each_fits (w ∷ ws) (v ∷ vs) ≡ true → (v < 2 ^ w) × (each_fits ws vs ≡ true)
unfolding each_fits
fits_first w v ws vs e = (grind (arith, nat_tests), grind (arith, nat_tests))

pub as_many : (ws vs : List ℕ) → each_fits ws vs ≡ true → length ws ≡ length vs
unfolding each_fits
as_many [] [] e = refl
as_many [] (v ∷ vs) e = absurd (false≢true e)
as_many (w ∷ ws) [] e = absurd (false≢true e)
as_many (w ∷ ws) (v ∷ vs) e = ap suc (as_many ws vs (fits_first w v ws vs e).1)

pub fits_at : (ws vs : List ℕ) → each_fits ws vs ≡ true → (i : ℕ) → i < length ws → get_or vs i 0 < 2 ^ get_or ws i 0
unfolding each_fits
fits_at [] vs e i h = let z : ⊥ = omega arith in absurd z
fits_at (w ∷ ws) [] e i h = absurd (false≢true e)
fits_at (w ∷ ws) (v ∷ vs) e zero h = (fits_first w v ws vs e).0
fits_at (w ∷ ws) (v ∷ vs) e (suc i) h = fits_at ws vs (fits_first w v ws vs e).1 i (omega arith)

pub fit_of : (ws vs : List ℕ) → each_fits ws vs ≡ true → Fit ws vs
unfolding each_fits
fit_of [] [] e = no_field
fit_of [] (v ∷ vs) e = absurd (false≢true e)
fit_of (w ∷ ws) [] e = absurd (false≢true e)
fit_of (w ∷ ws) (v ∷ vs) e = let f = fits_first w v ws vs e in one_more f.0 (fit_of ws vs f.1)

pub of_fit : {ws vs : List ℕ} → Fit ws vs → each_fits ws vs ≡ true
unfolding each_fits
of_fit no_field = refl
of_fit (one_more {w} {v} {ws} {vs} h f) = ap₂ ◌&&◌ (lt-ltb v (2 ^ w) h) (of_fit f)
