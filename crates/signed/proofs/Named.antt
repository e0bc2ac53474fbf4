-- The task that a refusal names and the numbers of its reason have room in eight bits, whichever entry answers it.
use Rattle.std.specs.Prelude.{Ok, Err}
use mathlib.Core.List.{List}
use mathlib.Core.Path.{◌≡◌, sym, subst, ◌∙◌}
use Prim.Native.Nat.{ℕ}
use lib.Dec.{lit≤}
use Rattle.lent.specs.Lent.{Call, answered}
use Rattle.lent.proofs.Lent.{Told, turned_away, is_done, told, each_refusal}
use Rattle.sheet.specs.Writing.{writing, written}
use Rattle.sheet.specs.declared.Task.{Task as Record}
use Rattle.sheet.specs.declared.Refusal.{Refusal}
use Rattle.sheet.specs.declared.Refusal.TheVariants.{Room}
use Rattle.analysis.specs.Answers.{analysing, set_analysing, set_decision, sheet_analysing, sheet_decision}
use Rattle.lists.specs.Lists.{gathered_of}
use Rattle.lists.specs.Faces.{reading_list, list_read, list_written, list_analysed}
use Rattle.lists.proofs.Faces.{written_gathered, decision_gathered}
use Rattle.converter.specs.Converting.{converting, converted}
use Rattle.report_text.specs.Text.{reporting, report_written}
use Rattle.workbench.proofs.Small.{NamesBelow, Names, names_more, room_names, row_names, writing_names, sheet_names, converting_names}
use Rattle.signed.proofs.Numbers.{NamesSmall}

module _ {A X : Type 0} (call : Call Refusal A X) (memory : List A) (names : Names 32 call.checks) where
  named : (why : Refusal) → answered Room call memory ≡ Err why → NamesSmall why
  named why e = go (told Room call memory)
    where
      go : Told Room call memory → NamesSmall why
      go (turned_away q t) =
          let roomy : NamesSmall q = names_more (lit≤ tt) (each_refusal Room call memory (NamesBelow 32) names room_names q t.why) in
          let same : Err q ≡ Err why = sym t.answer ∙ e in
          let same : q ≡ why = cc in
          subst NamesSmall same roomy
      go (is_done d) = let clash : Ok call.says ≡ Err why = sym d.answer ∙ e in cc

pub sheet_named : (s memory : List ℕ) (why : Refusal) → sheet_decision s memory ≡ Err why → NamesSmall why
unfolding sheet_decision sheet_analysing analysing
sheet_named s memory = named (sheet_analysing s) memory (sheet_names s)

pub list_named : (policy : ℕ) (list : List Record) (memory : List ℕ) (why : Refusal) → list_analysed policy list memory ≡ Err why → NamesSmall why
unfolding set_decision set_analysing analysing gathered_of
list_named policy list memory why e = named (set_analysing (gathered_of policy list)) memory (row_names policy list memory) why (decision_gathered policy list memory ∙ e)

pub read_named : (s : List ℕ) (list : List Record) (why : Refusal) → list_read s list ≡ Err why → NamesSmall why
unfolding list_read reading_list
read_named s list = named (reading_list s) list (sheet_names s)

pub write_named : (version policy : ℕ) (list : List Record) (memory : List ℕ) (why : Refusal) → list_written version policy list memory ≡ Err why → NamesSmall why
unfolding written writing gathered_of
write_named version policy list memory why e =
    named (writing version (gathered_of policy list)) memory (writing_names policy list memory version) why (written_gathered version policy list memory ∙ e)

pub convert_named : (version : ℕ) (s memory : List ℕ) (why : Refusal) → converted version s memory ≡ Err why → NamesSmall why
unfolding converted converting
convert_named version s memory = named (converting version s) memory (converting_names version s)

pub report_named : (s memory : List ℕ) (why : Refusal) → report_written s memory ≡ Err why → NamesSmall why
unfolding report_written reporting
report_named s memory = named (reporting s) memory tt
