-- The cast of a play that is not turned away, and what the entries cite.
use Rattle.std.specs.Prelude.{Err, Ok, Result, IsErrAnd}
use Rattle.std.proofs.Math.ListN.{get_or-map}
use Rattle.std.proofs.lemmas.List.{ext_get_or}
use mathlib.Core.List.{List, map}
use mathlib.Core.Path.{◌≡◌, refl, sym, ap, ◌∙◌}
use Prim.Native.Nat.{ℕ, ◌<◌}
use native.Mathlib.Omega.{arith}
use lib.ListN.{length, get_or, length-map}
use Rattle.sheet.specs.Tasks.{task_in, records_of, set_with}
use Rattle.sheet.specs.Admission.{decided}
use Rattle.sheet.specs.Reading.{sheet_checks, policy_of, tasks_of}
use Rattle.sheet.specs.declared.TaskSet.{TaskSet}
use Rattle.sheet.specs.declared.Refusal.{Refusal}
use Rattle.admission.specs.declared.Judged.{Judged}
use Rattle.admission.proofs.Answers.{judged_admits, judged_refuses}
use Rattle.reader.specs.Sheets.{sheet_judged}
use Rattle.order.specs.Ordered.{ordered, no_place}
use Rattle.order.specs.declared.Place.{Place}
use Rattle.order.specs.declared.Ordered.{Ordered}
use Rattle.scripts.specs.Reading.{entry_count}
use Rattle.scripts.specs.Judging.{judgement}
use Rattle.scripts.specs.declared.Flaw.{Flaw}
use Rattle.player.specs.Inside.Staging.{cast_for, refusal_by, staged_by, set_staged, answer_staged, sheet_staged}
use Rattle.player.specs.declared.PlayRefusal.TheVariants.{Base}
use Rattle.player.specs.declared.course.Cast.{Cast}

-- ---- the cast

-- the numbers of places, one by one
pub numbers_mapped : (places : List Place) (numbers : List ℕ) → length numbers ≡ length places → ((i : ℕ) → i < length places → get_or numbers i 0 ≡ (get_or places i no_place).number)
    → numbers ≡ map (λ (p : Place). p.number) places
numbers_mapped places numbers long each =
    ext_get_or 0 numbers (map (λ (p : Place). p.number) places) (long ∙ sym (length-map places (λ (p : Place). p.number)))
    (λ i h. each i (omega arith) ∙ sym (get_or-map (λ (p : Place). p.number) places i no_place))

pub cast_is : (set : TaskSet) (bytes : List ℕ) (o : Ordered) (entries : ℕ) (order : List ℕ) → o ≡ ordered set → entries ≡ entry_count o.count bytes
    → order ≡ map (λ (p : Place). p.number) o.places → ◌≡◌ {A = Cast} (record { count = o.count; entries = entries; order = order; tasks = set.tasks }) (cast_for set bytes)
unfolding cast_for ordered
cast_is set bytes o entries order eo ee en = rw (en, ee, eo) refl

-- ---- the stage

-- what a `?` returns
pub told_err : {A E : Type 0} (r : Result A E) {why : E} → IsErrAnd r (λ told. told ≡ why) → r ≡ Err why
told_err (Ok a) h = elim h [ ]
told_err (Err e) h = ap Err h

-- a sheet that is refused
pub sheet_refused : (sheet bytes : List ℕ) (why : Refusal) → sheet_judged sheet ≡ Err why → Err (Base why) ≡ sheet_staged sheet bytes
unfolding sheet_staged answer_staged sheet_judged
sheet_refused sheet bytes why e = rw (judged_refuses (decided (sheet_checks sheet)) (set_with (policy_of sheet) (tasks_of sheet)) why e) refl

-- one that is admitted, by how the script is judged
module _ (sheet bytes : List ℕ) (j : Judged) (e : sheet_judged sheet ≡ Ok j) where
  staged_so : staged_by (judgement (map task_in (records_of j.set)) bytes) j.set bytes ≡ sheet_staged sheet bytes
  unfolding sheet_staged answer_staged set_staged sheet_judged
  staged_so =
      let (a, is) = judged_admits (decided (sheet_checks sheet)) (set_with (policy_of sheet) (tasks_of sheet)) j e in
      rw (a, is) refl

  pub script_flawed : (flaw : Flaw) → judgement (map task_in (records_of j.set)) bytes ≡ Err flaw → Err (refusal_by flaw) ≡ sheet_staged sheet bytes
  unfolding staged_by
  script_flawed flaw f = rw f at staged_so

  pub script_sound : judgement (map task_in (records_of j.set)) bytes ≡ Ok tt → Ok (cast_for j.set bytes) ≡ sheet_staged sheet bytes
  unfolding staged_by
  script_sound f = rw f at staged_so
