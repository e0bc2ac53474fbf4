-- Admission as the reading of a sheet says it, and what stands behind the bytes that a call writes.
use Rattle.std.specs.Prelude.{Err, None, Ok, Result, Some, IsOk, is_ok}
use mathlib.Core.List.{List}
use mathlib.Core.Bool.{true≢false}
use mathlib.Core.Logic.{◌↔◌}
use mathlib.Core.Path.{◌≡◌, refl, sym, ap, ◌∙◌}
use Prim.Native.Nat.{ℕ}
use native.Mathlib.Omega.{arith}
use lib.Dec.{lit≤}
use lib.ListN.{length, drop}
use lib.Seq.{drop_at}
use Rattle.lent.specs.Checks.{first_refusal}
use Rattle.lent.specs.Lent.{laid}
use Rattle.lent.proofs.Checks.{each_first}
use Rattle.sheet.specs.Admission.{decided}
use Rattle.sheet.specs.Reading.{sheet_checks, tasks_of, reading}
use Rattle.sheet.specs.declared.Refusal.{Refusal}
use Rattle.sheet.specs.declared.Refusal.TheVariants.{Room}
use Rattle.sheet.proofs.Checks.{admits, refuses, none_applies, one_applies}
use Rattle.sheet.proofs.Carried.{admitted_reading, refused_reading, reading_refuses}
use Rattle.sheet.proofs.Refused.{sheet_each}
use Rattle.signed.specs.Claims.{refusal_to}
use Rattle.signed.proofs.Numbers.{Up, numbered}

module _ (sheet : List ℕ) where
  -- an admitted sheet is read, and only such a sheet
  pub reading_ok : decided (sheet_checks sheet) ≡ Ok tt → IsOk (reading sheet)
  reading_ok a = ap is_ok (admitted_reading sheet a)

  pub decided_ok : IsOk (reading sheet) → decided (sheet_checks sheet) ≡ Ok tt
  decided_ok read = go (decided (sheet_checks sheet)) refl
    where
      go : (a : Result Unit Refusal) → decided (sheet_checks sheet) ≡ a → decided (sheet_checks sheet) ≡ Ok tt
      go (Ok tt) e = e
      go (Err why) e = absurd (true≢false (sym read ∙ ap is_ok (refused_reading sheet why e)))

  pub admitted_is : (first_refusal (sheet_checks sheet) ≡ None) ↔ IsOk (reading sheet)
  admitted_is = (λ e. reading_ok (admits (sheet_checks sheet) e), λ a. none_applies (sheet_checks sheet) (decided_ok a))

  pub refused_is : (why : Refusal) → (first_refusal (sheet_checks sheet) ≡ Some why) ↔ (reading sheet ≡ Err why)
  refused_is why = (λ e. refused_reading sheet why (refuses (sheet_checks sheet) why e), λ a. one_applies (sheet_checks sheet) why (reading_refuses sheet why a))

  -- the refusal of a call is that of the sheet's checks
  pub same_refusal : (needs has : ℕ) → refusal_to (reading sheet) needs has ≡ refusal_to (decided (sheet_checks sheet)) needs has
  unfolding refusal_to
  same_refusal needs has = go (decided (sheet_checks sheet)) refl
    where
      go : (a : Result Unit Refusal) → decided (sheet_checks sheet) ≡ a → refusal_to (reading sheet) needs has ≡ refusal_to (decided (sheet_checks sheet)) needs has
      go (Ok tt) e = rw (admitted_reading sheet e, e)
      go (Err why) e = rw (refused_reading sheet why e, e)

  -- no sheet is refused for want of room
  pub not_for_room : ¬ (first_refusal (sheet_checks sheet) ≡ Some Room)
  not_for_room e =
      let own : Up 11 Room = each_first (Up 11) (sheet_checks sheet) (sheet_each sheet (numbered 11 (lit≤ tt) (tasks_of sheet))) Room e in
      omega (arith, own)

-- what is written stands first, and the bytes behind it are as they were
pub behind_laid : (written memory : List ℕ) (n : ℕ) → length written ≡ n → drop n (laid written memory) ≡ drop n memory
unfolding laid
behind_laid written memory n e = drop_at written (drop (length written) memory) n e ∙ ap (λ k. drop k memory) e
