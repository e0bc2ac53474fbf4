-- Which fields there are: the outcomes of `within`, by the fact that decides each.
use Rattle.std.proofs.lemmas.Bool.Decides.{nat_tests}
use mathlib.Core.Bool.{Bool, true, false}
use mathlib.Core.Path.{◌≡◌, sym, ◌∙◌}
use Prim.Native.Nat.{ℕ, ◌+◌, ◌*◌, ◌≤◌, ◌<◌}
use native.Mathlib.Omega.{arith}
use borrow.Author.Tests.{le-leb, lt-leb}
use lib.Dec.{leb}
use Rattle.bits.specs.Faces.{widest, within}

module _ (n at w : ℕ) where
  pub within_narrow : w < 1 → within n at w ≡ false
  unfolding within
  within_narrow h = rw (lt-leb 1 w h)

  -- a field of a lawful width is there exactly where its end is
  pub within_end : 1 ≤ w → w ≤ widest → within n at w ≡ leb (at + w) (8 * n)
  unfolding within
  within_end l h = rw (le-leb 1 w l, le-leb w widest h)

  pub within_in : 1 ≤ w → w ≤ widest → at + w ≤ 8 * n → within n at w ≡ true
  within_in l h e = within_end l h ∙ le-leb (at + w) (8 * n) e

-- what a field that is there has
pub record Inside (n at w : ℕ) : Type 0 where
  pub low : 1 ≤ w
  pub high : w ≤ widest
  pub there : at + w ≤ 8 * n

pub inside : (n at w : ℕ) → within n at w ≡ true → Inside n at w
unfolding within
inside n at w e = record { low = grind (arith, nat_tests); high = grind (arith, nat_tests); there = grind (arith, nat_tests) }

-- the same from a test that was made
pub passed : {t : Bool} {n at w : ℕ} → t ≡ within n at w → t ≡ true → Inside n at w
passed {t} {n} {at} {w} e f = inside n at w (sym e ∙ f)
