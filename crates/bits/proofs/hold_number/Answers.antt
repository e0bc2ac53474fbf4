-- `hold_number` meets its contract: after i bytes, the first i are those of the number and the others as they were.
use mathlib.Core.Path.{refl, ap, ◌∙◌}
use native.Mathlib.Omega.{arith}
use borrow.Author.Rules.{rules}
use lib.ListN.{length}
use Rattle.bits.proofs.Numbers.{none_written, length_written, written_more, all_written}
use Rattle.bits.proofs.hold_number.Goals as goal

pub loop-i-init : goal.loop-i-init
loop-i-init c = (search rules, refl, none_written _ _)

pub bounds-bytes-i : goal.bounds-bytes-i
bounds-bytes-i c = omega (arith, ap length c.loop-i.invariant.2 ∙ length_written _ _ _ c.loop-i.invariant.0)

pub loop-i-preserved : goal.loop-i-preserved
loop-i-preserved c = (search rules, refl, rw c.loop-i.invariant.2 (written_more _ _ _ (omega arith)))

pub shape_of-bytes : goal.shape_of-bytes
shape_of-bytes c = ap length c.loop-i.invariant.2 ∙ length_written _ _ _ c.loop-i.invariant.0

pub returns : goal.returns
returns c = c.loop-i.invariant.2 ∙ all_written _ _ _ (omega arith)
