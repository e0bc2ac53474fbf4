-- `burrbeech_check_sheet` meets its contract.
use Rattle.std.proofs.Common.{ap, ◌∙◌, arith}
use Rattle.analysis.specs.Answers.{code}
use Rattle.workbench.specs.Entry.{entry_number}
use Rattle.workbench.proofs.Answers.{small}
use Rattle.workbench.proofs.burrbeech_check_sheet.Goals as goal

pub overflow_cast-result : goal.overflow_cast-result
unfolding entry_number
overflow_cast-result c = record { fits = omega (arith, c.code.ensures ∙ ap code c.check.ensures.0, small c.args.sheet.now c.args.times.now) }

pub returns : goal.returns
unfolding entry_number
returns c = (c.code.ensures ∙ ap code c.check.ensures.0, c.check.ensures.1)
