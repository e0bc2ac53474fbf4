-- The cast of a play, and what the parts of the entries answer.
use Rattle.std.specs.Prelude.{List, map, ℕ, length, Err, Ok, Result}
use Rattle.sheet.specs.Tasks.{task_in, records_of, set_with}
use Rattle.sheet.specs.Admission.{decided}
use Rattle.sheet.specs.Reading.{sheet_checks, policy_of, tasks_of}
use Rattle.sheet.specs.declared.TaskSet.{TaskSet}
use Rattle.sheet.specs.declared.Refusal.{Refusal}
use Rattle.order.specs.Ordered.{order_of, ordered}
use Rattle.order.specs.declared.Place.{Place}
use Rattle.scripts.specs.Reading.{entry_count}
use Rattle.scripts.specs.Judging.{judgement}
use Rattle.scripts.specs.declared.Flaw.{Flaw}
use Rattle.scripts.specs.declared.Flaw.TheVariants.{Malformed, Item}
use Rattle.player.specs.declared.PlayRefusal.{PlayRefusal}
use Rattle.player.specs.declared.PlayRefusal.TheVariants.{Base, Malformed as ill_made, Item as wrong_item}
use Rattle.player.specs.declared.course.Cast.{Cast}

-- the cast of a set that plays a script
unfoldable pub cast_for : TaskSet → List ℕ → Cast
cast_for set bytes =
    let count = length (order_of set) in
    record { count = count; entries = entry_count count bytes; order = map (λ (p : Place). p.number) (ordered set).places; tasks = set.tasks }

-- 13 or 14, by what is wrong with a script
abbrev pub refusal_by : Flaw → PlayRefusal
refusal_by Malformed = ill_made
refusal_by (Item j) = wrong_item j

-- a set and a script by how that is judged
unfoldable pub staged_by : Result Unit Flaw → TaskSet → List ℕ → Result Cast PlayRefusal
staged_by (Ok tt) set bytes = Ok (cast_for set bytes)
staged_by (Err flaw) set bytes = Err (refusal_by flaw)

unfoldable pub set_staged : TaskSet → List ℕ → Result Cast PlayRefusal
set_staged set bytes = staged_by (judgement (map task_in (records_of set)) bytes) set bytes

-- a sheet by the answer to it
unfoldable pub answer_staged : Result Unit Refusal → TaskSet → List ℕ → Result Cast PlayRefusal
answer_staged (Ok tt) set bytes = set_staged set bytes
answer_staged (Err why) set bytes = Err (Base why)

unfoldable pub sheet_staged : List ℕ → List ℕ → Result Cast PlayRefusal
sheet_staged sheet bytes = answer_staged (decided (sheet_checks sheet)) (set_with (policy_of sheet) (tasks_of sheet)) bytes
