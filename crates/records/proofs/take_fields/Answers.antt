-- `take_fields` meets its contract: the numbers of a row, one after another.
use native.Mathlib.Omega.{arith}
use Rattle.records.proofs.Faces.{takes}
use Rattle.records.proofs.Packing.{total_part}
use Rattle.records.proofs.Taking.{taken_none, taken_more, taken_end, taken_all}
use Rattle.records.proofs.take_fields.Goals as goal

pub loop-i-init : goal.loop-i-init
loop-i-init c = taken_none _ _ _ _

pub bounds-numbers-i : goal.bounds-numbers-i
bounds-numbers-i c = let h = takes _ _ _ _ c.requires in omega (arith, h.enough)

pub overflow_add-next : goal.overflow_add-next
overflow_add-next c =
    let h = takes _ _ _ _ c.requires in
    omega (arith, h.short, c.loop-i.invariant.position, total_part c.args.widths.now c.loop-i.i c.loop-i-test.true)

pub loop-i-preserved : goal.loop-i-preserved
loop-i-preserved c = taken_more (takes _ _ _ _ c.requires) c.loop-i.invariant c.loop-i-test.true _ (cc)

pub returns : goal.returns
returns c = let h = takes _ _ _ _ c.requires in (taken_end h c.loop-i.invariant c.loop-i-test.false, taken_all h c.loop-i.invariant c.loop-i-test.false)
