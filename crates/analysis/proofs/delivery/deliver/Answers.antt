-- `deliver` meets its contract: the times of the places that are looked at stand at their numbers.
use Rattle.std.proofs.Common.{◌≡◌, refl, ◌∙◌, length-take-le, arith}
use Rattle.analysis.proofs.ByNumber.{none_stands}
use Rattle.analysis.proofs.Delivered.{number_used, no_room, put_more, all_numbers}
use Rattle.analysis.proofs.delivery.deliver.Goals as goal

pub returns-then-times-count : goal.returns-then-times-count
returns-then-times-count c = no_room c.args.a c.requires c.args.times.now (omega arith)

pub loop-f-init : goal.loop-f-init
loop-f-init c = none_stands _ _ _ _ _ _

pub slice_bounds-copy_from_slice-end : goal.slice_bounds-copy_from_slice-end
slice_bounds-copy_from_slice-end c = omega (arith, number_used c.args.a c.requires c.loop-f.f-index c.loop-f-test.true, c.loop-f.invariant.long)

pub loop-f-preserved : goal.loop-f-preserved
loop-f-preserved c =
    put_more c.args.a c.requires c.args.times.now (omega arith) c.loop-f.times c.loop-f.f-index _ _ c.loop-f-test.true refl (c.copy_from_slice.ensures.after ∙ c.unwrap_or-row.ensures) c.loop-f.invariant

pub returns : goal.returns
returns c =
    let ends : c.loop-f.f-index ≡ c.args.a.task_count = omega (arith, c.requires.room, c.requires.few, length-take-le c.args.a.task_count c.args.a.findings) in
    all_numbers c.args.a c.requires c.args.times.now (omega arith) c.loop-f.times (rw ends at c.loop-f.invariant)
