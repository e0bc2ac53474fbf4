-- `width_of` meets its contract: the sum is that of the widths so far.
use mathlib.Core.Path.{refl}
use native.Mathlib.Omega.{arith}
use Rattle.records.specs.Rows.{total}
use Rattle.records.proofs.Packing.{total_part, total_to}
use Rattle.records.proofs.width_of.Goals as goal

pub loop-width-init : goal.loop-width-init
unfolding total
loop-width-init c = (refl, omega arith)

pub returns-in_default : goal.returns-in_default
returns-in_default c = omega (arith, c.in_default.ensures, total_part c.args.widths.now c.loop-width.width-index c.loop-width-test.true)

pub loop-width-preserved : goal.loop-width-preserved
loop-width-preserved c =
    let more = total_to c.args.widths.now c.loop-width.width-index c.loop-width-test.true in (omega (arith, c.in-Some.ensures, more), omega (arith, c.in-Some.ensures, more))
