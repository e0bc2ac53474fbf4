-- `Tally::of` meets its contract: after n frames, the sums of the first 1 to n frames stand.
use Rattle.std.proofs.Common.{get_or, ◌∙◌, Fits, w32, length-take, arith, rules}
use Rattle.sheet.proofs.Records.{frame_is, frames_few}
use Rattle.analysis.proofs.Tallies.{first_none, first_more, tally_made}
use Rattle.analysis.proofs.demand.Tally.of.Goals as goal

pub overflow_add-slot-items : goal.overflow_add-slot-items
overflow_add-slot-items c = record { fits = omega (arith, c.frame_count-count.ensures, frames_few c.args.task (search rules)) }

pub slice_bounds-sums-end : goal.slice_bounds-sums-end
slice_bounds-sums-end c = omega (arith, c.frame_count-count.ensures, frames_few c.args.task (search rules))

pub loop-slot-init : goal.loop-slot-init
loop-slot-init c = first_none _ _ _ (length-take _ _ ∙ omega (arith, c.frame_count-count.ensures, frames_few c.args.task (search rules))) c.requires

pub loop-slot-preserved : goal.loop-slot-preserved
loop-slot-preserved c =
    let small : Fits w32 (get_or c.args.task.frames c.loop-slot.k 0) = search rules in
    first_more _ _ _ _ _ _ c.loop-slot.invariant _ _ (omega (arith, c.loop-slot.invariant.room)) (frame_is _ _ c.loop-slot.invariant.inside)
    (rw (← c.frame_count-count.ensures) c.next_frame-k.ensures) small.fits

pub returns : goal.returns
returns c =
    rw c.frame_count-count.ensures
    (tally_made c.args.task c.args.start c.loop-slot.slot-index _ _ _ _ c.loop-slot.invariant (omega (arith, c.loop-slot.invariant.room)) (frames_few c.args.task (search rules)) (search rules))
