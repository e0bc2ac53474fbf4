-- SCOPE.md, "Run scripts": how a byte string is judged as a script of some tasks.
use Rattle.std.specs.Prelude.{cond, List, ℕ, length, None, Option, Some, Ok, Err, Result}
use Rattle.lent.specs.Checks.{Check, first_refusal}
use Rattle.theory.specs.Tasks.{Task}
use Rattle.plays.specs.Items.{item_checks}
use Rattle.scripts.specs.Reading.{script_in, well_made}
use Rattle.scripts.specs.declared.Flaw.{Flaw}
use Rattle.scripts.specs.declared.Flaw.TheVariants.{Malformed, Item}

-- the answer where this item, if any, is the first that is turned away
abbrev pub judged_by : Option ℕ → Result Unit Flaw
judged_by None = Ok tt
judged_by (Some j) = Err (Item j)

-- the answer to a row of items
unfoldable pub judged : List (Check ℕ) → Result Unit Flaw
judged cs = judged_by (first_refusal cs)

-- 13 where the string is not made as a script of these tasks is, 14 for the first of its items that is turned away
unfoldable pub judgement : List Task → List ℕ → Result Unit Flaw
judgement tasks s = cond (well_made (length tasks) s) (judged (item_checks tasks (script_in (length tasks) s))) (Err Malformed)
