-- `tallies_of` meets its contract: the tallies of the places before place p stand.
use Rattle.std.proofs.Common.{arith}
use Rattle.analysis.proofs.Placed.{number_in, start_in, counted_there, places_of}
use Rattle.analysis.proofs.Growing.{none_stand, one_stands}
use Rattle.analysis.proofs.findings.tallies_of.Goals as goal

pub loop-p-init : goal.loop-p-init
loop-p-init c = none_stand _ _

pub bounds-shapes-place : goal.bounds-shapes-place
bounds-shapes-place c = number_in c.args.o.now _ c.in_use-place-items.ensures _ _ c.loop-p-test.true _ c.requires

pub of-requires : goal.of-requires
of-requires c = start_in c.args.o.now _ c.in_use-place-items.ensures _ _ c.loop-p-test.true _ c.requires

pub bounds-tallies-p : goal.bounds-tallies-p
bounds-tallies-p c = omega (arith, c.requires.few, places_of c.args.o.now _ c.in_use-place-items.ensures)

pub loop-p-preserved : goal.loop-p-preserved
loop-p-preserved c =
    one_stands _ _ c.loop-p.invariant (omega (arith, c.requires.few, places_of c.args.o.now _ c.in_use-place-items.ensures))
    (counted_there c.args.o.now _ c.in_use-place-items.ensures _ _ c.loop-p-test.true _ c.requires _ c.of.ensures)

pub returns : goal.returns
returns c = record { few = c.requires.few; room = c.loop-p.invariant.room; each = λ p l. c.loop-p.invariant.each p (omega (arith, places_of c.args.o.now _ c.in_use-place-items.ensures)) }
