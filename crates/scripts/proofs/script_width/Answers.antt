-- `script_width` meets its contract.
use Rattle.std.proofs.Common.{arith}
use Rattle.scripts.proofs.Widths.{width_is}
use Rattle.scripts.proofs.script_width.Goals as goal

pub returns : goal.returns
returns c = omega (arith, width_is c.args.tasks c.args.entries)
