-- `first_of` meets its contract: each task of a place before place p passes.
use Rattle.std.specs.Prelude.{Some}
use Rattle.std.proofs.Common.{ℕ, sym, ap, ◌∙◌, arith}
use Rattle.order.specs.Ordered.{blocking_at}
use Rattle.analysis.proofs.Placed.{task_there, well_formed, places_of}
use Rattle.analysis.proofs.Growing.{above_here, long_here, above_here_are}
use Rattle.analysis.proofs.MissedFrames.{frame_at, without_at, passes_at, no_miss, frame_missed}
use Rattle.analysis.proofs.Passed.{none_passed, one_passed}
use Rattle.analysis.proofs.misses.first_of.Goals as goal

pub loop-p-init : goal.loop-p-init
loop-p-init c = none_passed _

pub overflow_cast-p : goal.overflow_cast-p
overflow_cast-p c = record { fits = omega (arith, c.requires.few, places_of c.args.o.now _ c.in_use-place-items.ensures) }

pub slice_bounds-tallies-end : goal.slice_bounds-tallies-end
slice_bounds-tallies-end c = omega (arith, c.tallies_of-tallies.ensures.room, c.requires.few, places_of c.args.o.now _ c.in_use-place-items.ensures)

pub slice_bounds-frame_without-end : goal.slice_bounds-frame_without-end
slice_bounds-frame_without-end c =
    sym (long_here c.args.o.now _ c.in_use-place-items.ensures c.loop-p.p c.loop-p-test.true _ c.tallies_of-tallies.ensures)

pub frame_without-requires : goal.frame_without-requires
frame_without-requires c = (
  above_here c.args.o.now _ c.in_use-place-items.ensures c.loop-p.p c.loop-p-test.true _ c.tallies_of-tallies.ensures,
  well_formed c.args.o.now _ c.in_use-place-items.ensures _ _ c.loop-p-test.true _ c.requires,
)

pub overflow_cast-place : goal.overflow_cast-place
overflow_cast-place c = record { fits = omega (arith, c.requires.few, places_of c.args.o.now _ c.in_use-place-items.ensures) }

pub returns-in-Some : goal.returns-in-Some
unfolding blocking_at
returns-in-Some c =
    let above = above_here c.args.o.now _ c.in_use-place-items.ensures c.loop-p.p c.loop-p-test.true _ c.tallies_of-tallies.ensures in
    let are = above_here_are c.args.o.now _ c.in_use-place-items.ensures c.loop-p.p c.loop-p-test.true _ c.tallies_of-tallies.ensures in
    let there = task_there c.args.o.now _ c.in_use-place-items.ensures c.loop-p.p _ c.loop-p-test.true in
    let (fails, is) = without_at _ _ _ _ _ are c.blocking-blocked.ensures there _ (sym (c.in-Some.ensures above)) in
    ap (λ (k : ℕ). Some (frame_at c.loop-p.p k)) is ∙ frame_missed _ _ c.loop-p.invariant (omega (arith, places_of c.args.o.now _ c.in_use-place-items.ensures)) fails

pub loop-p-preserved : goal.loop-p-preserved
unfolding blocking_at
loop-p-preserved c =
    let above = above_here c.args.o.now _ c.in_use-place-items.ensures c.loop-p.p c.loop-p-test.true _ c.tallies_of-tallies.ensures in
    let are = above_here_are c.args.o.now _ c.in_use-place-items.ensures c.loop-p.p c.loop-p-test.true _ c.tallies_of-tallies.ensures in
    let there = task_there c.args.o.now _ c.in_use-place-items.ensures c.loop-p.p _ c.loop-p-test.true in
    one_passed _ _ c.loop-p.invariant (passes_at _ _ _ _ _ are c.blocking-blocked.ensures there (sym (c.in_default.ensures above)))

pub returns : goal.returns
returns c = no_miss _ _ c.loop-p.invariant (omega (arith, places_of c.args.o.now _ c.in_use-place-items.ensures))
