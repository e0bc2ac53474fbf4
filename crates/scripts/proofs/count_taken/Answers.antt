-- `count_taken` meets its contract.
use Rattle.std.proofs.Common.{◌∙◌}
use Rattle.scripts.proofs.Widths.{firsts_width}
use Rattle.scripts.proofs.count_taken.Goals as goal

pub returns : goal.returns
returns c = c.take_field.ensures ∙ rw (c.body.ensures, firsts_width c.args.tasks)
