-- `deadline_of` meets its contract.
use Rattle.std.proofs.Common.{sym, ◌∙◌, eqb-true, rules}
use Rattle.sheet.proofs.Shortest.{deadline_found, no_deadline}
use Rattle.sheet.proofs.deadline_of.Goals as goal

pub returns-then-is_empty : goal.returns-then-is_empty
returns-then-is_empty c =
    no_deadline c.args.task (search rules) (search rules) _ c.deadlines_in_use-deadlines.ensures.are _ (eqb-true _ 0 (sym c.is_empty.ensures ∙ c.if-is_empty.true))

pub returns : goal.returns
returns c = deadline_found c.args.task (search rules) (search rules) _ c.deadlines_in_use-deadlines.ensures.are _
