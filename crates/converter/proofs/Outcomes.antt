-- The outcomes of the converter: a version that is neither, a sheet that is turned away, and what the writer makes of an admitted one.
use Rattle.std.specs.Prelude.{Err, None, Ok, Option, Result, Some}
use mathlib.Core.Bool.{true, false, not, ◌||◌}
use mathlib.Core.Logic.{◌↔◌}
use mathlib.Core.List.{List, [], ◌∷◌, map}
use mathlib.Core.Path.{◌≡◌, sym, ap, ap₂, ◌∙◌}
use Prim.Native.Nat.{ℕ, ◌≤◌}
use borrow.Author.Tests.{not-false}
use lib.ListN.{length}
use lib.Dec.{ltb}
use Rattle.theory.specs.Tasks.{Task}
use Rattle.lent.specs.Checks.{Check, ◌⇒◌, first_refusal}
use Rattle.lent.specs.Lent.{Call, laid, refusal_of, answered, left_after}
use Rattle.lent.proofs.Checks.{or_else, append, Each, each_append}
use Rattle.lent.proofs.Checks as rows
use Rattle.lent.proofs.Lent.{by_checks, turned_tells}
use Rattle.sheet.specs.Constants.{version_1, version_2, greatest_size}
use Rattle.sheet.specs.Fields.{own_deadlines}
use Rattle.sheet.specs.Tasks.{task_in, records_of, set_with}
use Rattle.sheet.specs.Admission.{decided, list_checks, admission}
use Rattle.sheet.specs.Reading.{version_among, checks_among, policy_of, tasks_of, reading_among}
use Rattle.sheet.specs.Writing.{sheet_of, sheet_bytes, one_deadline_each, version_check, deadlines_check, writing_checks, writing, written, left}
use Rattle.sheet.specs.declared.Reading.{Reading}
use Rattle.sheet.specs.declared.Refusal.{Refusal}
use Rattle.sheet.specs.declared.Refusal.TheVariants.{Version, Deadlines, Room}
use Rattle.sheet.proofs.Checks.{one_applies, none_applies, admits}
use Rattle.sheet.proofs.Refused.{Covers, each_among}
use Rattle.sheet.proofs.Sizes.{size_between}
use Rattle.sheet.proofs.Records.{tasks_with}
use Rattle.sheet.proofs.Carried.{among_admits, among_refuses, carried_among, carried_many, to_admission, many_found}
use Rattle.converter.specs.Converting.{other_version, converting_checks, conversion, converting, converted, converted_left}

-- two calls that are turned away alike, write the same and say the same answer and leave the same
pub same_calls : {R A X : Type 0} (full : R) (c d : Call R A X) (memory : List A)
    → first_refusal c.checks ≡ first_refusal d.checks → c.writes ≡ d.writes → c.says ≡ d.says
    → (answered full c memory ≡ answered full d memory) × (left_after full c memory ≡ left_after full d memory)
unfolding refusal_of answered left_after
same_calls {R} {A} {X} full c d memory ec ew es =
    let same = same_refusal in (
      ap₂ (λ (o : Option R) (x : X). elim o as (λ (y : Option R). Result X R) [ None ↦ Ok x | Some r ↦ Err r ]) same es,
      ap₂ (λ (o : Option R) (w : List A). elim o as (λ (y : Option R). List A) [ None ↦ laid w memory | Some r ↦ memory ]) same ew,
    )
  where
    last : List A → List (Check R)
    last w = (ltb (length memory) (length w) ⇒ full) ∷ []

    same_refusal : refusal_of full c memory ≡ refusal_of full d memory
    same_refusal = append c.checks (last c.writes) ∙ ap₂ or_else ec (ap (λ (w : List A). first_refusal (last w)) ew) ∙ sym (append d.checks (last d.writes))

module _ (version : ℕ) (sheet room : List ℕ) where
  turned : (r : Refusal) → first_refusal (converting_checks version sheet) ≡ Some r
      → (Err r ≡ converted version sheet room) × (room ≡ converted_left version sheet room)
  unfolding converted converted_left converting
  turned r e = turned_tells Room (converting version sheet) room (by_checks Room (converting version sheet) room r e)

  pub version_wrong : version_among version_1 version_2 version ≡ false → (Err Version ≡ converted version sheet room) × (room ≡ converted_left version sheet room)
  unfolding converting_checks version_check
  version_wrong e = turned Version (rows.applies _ Version _ (ap not e))

  module _ (known : version_among version_1 version_2 version ≡ true) where
    pub sheet_refused : (why : Refusal) → reading_among (other_version version) (other_version version) sheet ≡ Err why
        → (Err why ≡ converted version sheet room) × (room ≡ converted_left version sheet room)
    unfolding converting_checks version_check
    sheet_refused why e =
        turned why
        (rows.passed_over _ Version _ (ap not known)
        ∙ rows.some_first (checks_among (other_version version) (other_version version) sheet) _ why (one_applies _ why (among_refuses (other_version version) (other_version version) sheet why e)))

    module _ (r : Reading) (e : reading_among (other_version version) (other_version version) sheet ≡ Ok r) where
      admitted : decided (checks_among (other_version version) (other_version version) sheet) ≡ Ok tt
      admitted = (among_admits (other_version version) (other_version version) sheet r e).0

      set_is : r.set ≡ set_with (policy_of sheet) (tasks_of sheet)
      set_is = ap (λ (x : Reading). x.set) (among_admits (other_version version) (other_version version) sheet r e).1

      tasks_are : map task_in (records_of (set_with (policy_of sheet) (tasks_of sheet))) ≡ tasks_of sheet
      tasks_are = tasks_with (policy_of sheet) (tasks_of sheet) (many_found sheet)

      -- both pass all checks but that of the deadlines
      same_checks : first_refusal (writing version (set_with (policy_of sheet) (tasks_of sheet))).checks ≡ first_refusal (converting_checks version sheet)
      unfolding writing writing_checks converting_checks version_check admission
      same_checks =
          let set = set_with (policy_of sheet) (tasks_of sheet) in
          let carried = carried_among (other_version version) (other_version version) sheet admitted in
          rows.passed_over _ Version _ (ap not known)
          ∙ rows.none_first (list_checks set.policy set.task_count (records_of set)) _ (none_applies _ (to_admission carried))
          ∙ ap (λ (ts : List Task). first_refusal (deadlines_check version ts ∷ [])) tasks_are
          ∙ sym (rows.passed_over _ Version _ (ap not known)
          ∙ rows.none_first (checks_among (other_version version) (other_version version) sheet) _ (none_applies _ admitted))

      same_sheet : sheet_bytes version (set_with (policy_of sheet) (tasks_of sheet)) ≡ conversion version sheet
      unfolding sheet_bytes conversion set_with
      same_sheet = ap (sheet_of version (policy_of sheet)) tasks_are

      -- what the writer makes of the set is the conversion
      pub as_written : (written version r.set room ≡ converted version sheet room) × (left version r.set room ≡ converted_left version sheet room)
      unfolding written left writing converted converted_left converting
      as_written =
          rw set_is
          (same_calls Room (writing version (set_with (policy_of sheet) (tasks_of sheet))) (converting version sheet) room
          same_checks same_sheet (ap length same_sheet))

-- ---- what its checks say

-- what is true of each refusal that the sheet and its conversion can get is true of the one that they get
pub converting_each : {P : Refusal → Type 0} (version : ℕ) (sheet : List ℕ) → P Deadlines → Covers P (tasks_of sheet) → Each P (converting_checks version sheet)
unfolding converting_checks version_check deadlines_check
converting_each {P} version sheet p c =
    (λ _. c.of_version, λ _. each_append P (checks_among (other_version version) (other_version version) sheet) _ (each_among _ _ sheet c) (λ _. (λ _. p, λ _. tt)))

-- where none applies, the version is known, the sheet is an admitted one of the other version, and this one can hold it
pub record Convertible (version : ℕ) (sheet : List ℕ) : Type 0 where
  pub known : version_among version_1 version_2 version ≡ true
  pub admitted : decided (checks_among (other_version version) (other_version version) sheet) ≡ Ok tt
  pub held : (own_deadlines version || one_deadline_each (tasks_of sheet)) ≡ true

pub convertible : (version : ℕ) (sheet : List ℕ) → (first_refusal (converting_checks version sheet) ≡ None) ↔ Convertible version sheet
unfolding converting_checks version_check deadlines_check
convertible version sheet = (there, back)
  where
    its_own : List (Check Refusal)
    its_own = checks_among (other_version version) (other_version version) sheet

    there : first_refusal (converting_checks version sheet) ≡ None → Convertible version sheet
    there e =
        let three = rows.passed _ _ e in
        let both = rows.both_passed its_own _ three.1 in
        record {
          known = not-false _ three.0;
          admitted = admits its_own both.0;
          held = not-false _ (rows.passed _ _ both.1).0;
        }

    back : Convertible version sheet → first_refusal (converting_checks version sheet) ≡ None
    back c =
        rows.passed_over _ Version _ (ap not c.known)
        ∙ rows.none_first its_own _ (none_applies its_own c.admitted)
        ∙ rows.passed_over _ Deadlines [] (ap not c.held)
        ∙ rows.no_check

-- a conversion has no more than 732 bytes
pub conversion_few : (version : ℕ) (sheet : List ℕ) → Convertible version sheet → length (conversion version sheet) ≤ greatest_size
unfolding conversion
conversion_few version sheet c =
    let carried = carried_among (other_version version) (other_version version) sheet c.admitted in
    (size_between version (policy_of sheet) (tasks_of sheet) (carried_many carried) carried.some_task carried.few_tasks carried.counted).1
