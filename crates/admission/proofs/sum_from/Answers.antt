-- `sum_from` meets its contract.
use Rattle.std.proofs.Common.{◌≡◌, refl, arith}
use Rattle.admission.proofs.Sums.{summed_none, summed_more}
use Rattle.admission.proofs.sum_from.Goals as goal

pub loop-init : goal.loop-init
loop-init c = summed_none _ _ c.requires.1

pub loop-preserved : goal.loop-preserved
loop-preserved c = summed_more c.args.frames.now _ _ _ _ _ c.loop.invariant refl _ (c.type_inv.frames c.loop.i).fits c.next_frame-i.ensures

pub returns : goal.returns
returns c = let all : c.loop.counter ≡ c.args.n = omega arith in
    rw all at c.loop.invariant.is_work
