-- `well_made` meets its contract: the count is there, and then the tests in their order.
use Rattle.std.proofs.Common.{arith}
use Rattle.std.proofs.lemmas.Bool.Decides.{nat_tests}
use Rattle.scripts.proofs.Made.{not_made, made_is}
use Rattle.scripts.proofs.well_made.Goals as goal

pub returns-in_default : goal.returns-in_default
returns-in_default c = not_made _ _ _ c.count_taken.ensures c.in_default.is

pub returns-then-is_ok : goal.returns-then-is_ok
returns-then-is_ok c = grind (arith, nat_tests, made_is c.args.script.now c.args.tasks _ c.count_taken.ensures c.in-Some.count c.in-Some.is)

pub returns-else-is_ok : goal.returns-else-is_ok
returns-else-is_ok c = grind (arith, nat_tests, made_is c.args.script.now c.args.tasks _ c.count_taken.ensures c.in-Some.count c.in-Some.is)
