-- A sheet and a script are turned away by the sheet's own checks, by the form of the script, or by an item of it; or by nothing.
use Rattle.std.specs.Prelude.{None, Option, Some}
use mathlib.Core.Bool.{Bool, true, false, not}
use mathlib.Core.List.{List, ◌∷◌}
use mathlib.Core.Path.{◌≡◌, refl, ap, ◌∙◌}
use Prim.Native.Nat.{ℕ, ◌≤◌}
use lib.ListN.{length}
use Rattle.lent.specs.Checks.{Check, ◌⇒◌, first_refusal, retold}
use Rattle.lent.proofs.Checks.{applies, passed_over, none_first, some_first, retold_none, retold_some}
use Rattle.sheet.specs.Constants.{most_tasks}
use Rattle.sheet.specs.Reading.{sheet_checks, tasks_of}
use Rattle.sheet.specs.declared.Refusal.{Refusal}
use Rattle.sheet.proofs.Checks.{admits}
use Rattle.sheet.proofs.Carried.{by_reading}
use Rattle.plays.specs.Items.{item_checks}
use Rattle.scripts.specs.Reading.{well_made}
use Rattle.player.specs.Answers.{script_for, play_checks}
use Rattle.player.specs.declared.PlayRefusal.{PlayRefusal}
use Rattle.player.specs.declared.PlayRefusal.TheVariants.{Base, Malformed as ill_made, Item}

-- an admitted sheet has at most sixteen tasks
pub few_tasks : (sheet : List ℕ) → first_refusal (sheet_checks sheet) ≡ None → length (tasks_of sheet) ≤ most_tasks
few_tasks sheet s = (by_reading sheet (admits (sheet_checks sheet) s)).few_tasks

module _ (sheet bytes : List ℕ) where
  abbrev form_check : Check PlayRefusal
  form_check = not (well_made (length (tasks_of sheet)) bytes) ⇒ ill_made

  abbrev items : List (Check ℕ)
  items = item_checks (tasks_of sheet) (script_for sheet bytes)

  -- the sheet's own refusals come first
  pub sheet_turns : {why : Refusal} → first_refusal (sheet_checks sheet) ≡ Some why → first_refusal (play_checks sheet bytes) ≡ Some (Base why)
  unfolding play_checks
  sheet_turns {why} s = some_first _ (form_check ∷ retold Item items) (Base why) (retold_some Base (sheet_checks sheet) why s)

  module _ (admitted : first_refusal (sheet_checks sheet) ≡ None) where
    behind : first_refusal (play_checks sheet bytes) ≡ first_refusal (form_check ∷ retold Item items)
    unfolding play_checks
    behind = none_first _ (form_check ∷ retold Item items) (retold_none Base (sheet_checks sheet) admitted)

    -- then the form of the script
    pub form_turns : well_made (length (tasks_of sheet)) bytes ≡ false → first_refusal (play_checks sheet bytes) ≡ Some ill_made
    form_turns w = behind ∙ applies _ ill_made (retold Item items) (ap not w)

    module _ (made : well_made (length (tasks_of sheet)) bytes ≡ true) where
      -- then its items
      pub item_turns : {j : ℕ} → first_refusal (item_checks (tasks_of sheet) (script_for sheet bytes)) ≡ Some j → first_refusal (play_checks sheet bytes) ≡ Some (Item j)
      item_turns {j} f = behind ∙ passed_over _ ill_made (retold Item items) (ap not made) ∙ retold_some Item items j f

      -- and nothing else
      pub nothing_turns : first_refusal (item_checks (tasks_of sheet) (script_for sheet bytes)) ≡ None → first_refusal (play_checks sheet bytes) ≡ None
      nothing_turns f = behind ∙ passed_over _ ill_made (retold Item items) (ap not made) ∙ retold_none Item items f

  -- which check applies, and what those before it say
  pub data Told : Option PlayRefusal → Type 0 where
    by_sheet : (why : Refusal) → first_refusal (sheet_checks sheet) ≡ Some why → Told (Some (Base why))
    by_form : first_refusal (sheet_checks sheet) ≡ None → well_made (length (tasks_of sheet)) bytes ≡ false → Told (Some ill_made)
    by_item : (j : ℕ) → first_refusal (sheet_checks sheet) ≡ None → well_made (length (tasks_of sheet)) bytes ≡ true
        → first_refusal (item_checks (tasks_of sheet) (script_for sheet bytes)) ≡ Some j → Told (Some (Item j))
    by_nothing : first_refusal (sheet_checks sheet) ≡ None → well_made (length (tasks_of sheet)) bytes ≡ true
        → first_refusal (item_checks (tasks_of sheet) (script_for sheet bytes)) ≡ None → Told None

  -- there is no other way
  pub told : Told (first_refusal (play_checks sheet bytes))
  told = sheet_first (first_refusal (sheet_checks sheet)) refl
    where
      then_items : (o : Option ℕ) → first_refusal items ≡ o → first_refusal (sheet_checks sheet) ≡ None → well_made (length (tasks_of sheet)) bytes ≡ true
          → Told (first_refusal (play_checks sheet bytes))
      then_items None f s w = rw (nothing_turns s w f) (by_nothing s w f)
      then_items (Some j) f s w = rw (item_turns s w f) (by_item j s w f)

      then_form : (b : Bool) → well_made (length (tasks_of sheet)) bytes ≡ b → first_refusal (sheet_checks sheet) ≡ None → Told (first_refusal (play_checks sheet bytes))
      then_form true w s = then_items (first_refusal items) refl s w
      then_form false w s = rw (form_turns s w) (by_form s w)

      sheet_first : (o : Option Refusal) → first_refusal (sheet_checks sheet) ≡ o → Told (first_refusal (play_checks sheet bytes))
      sheet_first None s = then_form (well_made (length (tasks_of sheet)) bytes) refl s
      sheet_first (Some why) s = rw (sheet_turns s) (by_sheet why s)
