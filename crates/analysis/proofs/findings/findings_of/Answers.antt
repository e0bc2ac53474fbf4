-- `findings_of` meets its contract: the findings of the places before place p stand.
use Rattle.std.proofs.Common.{sym, arith}
use Rattle.analysis.proofs.Placed.{well_formed, places_of}
use Rattle.analysis.proofs.Growing.{none_found, above_here, long_here, found_more, all_found}
use Rattle.analysis.proofs.findings.findings_of.Goals as goal

pub loop-p-init : goal.loop-p-init
loop-p-init c = none_found c.args.o.now _ c.default-findings.ensures

pub overflow_cast-p : goal.overflow_cast-p
overflow_cast-p c = record { fits = omega (arith, c.requires.few, places_of c.args.o.now _ c.in_use-place-items.ensures) }

pub slice_bounds-tallies-end : goal.slice_bounds-tallies-end
slice_bounds-tallies-end c = omega (arith, c.tallies_of-tallies.ensures.room, c.requires.few, places_of c.args.o.now _ c.in_use-place-items.ensures)

pub slice_bounds-finding_of-end : goal.slice_bounds-finding_of-end
slice_bounds-finding_of-end c =
    sym (long_here c.args.o.now _ c.in_use-place-items.ensures c.loop-p.p c.loop-p-test.true _ c.tallies_of-tallies.ensures)

pub finding_of-requires : goal.finding_of-requires
finding_of-requires c = (
  above_here c.args.o.now _ c.in_use-place-items.ensures c.loop-p.p c.loop-p-test.true _ c.tallies_of-tallies.ensures,
  well_formed c.args.o.now _ c.in_use-place-items.ensures _ _ c.loop-p-test.true _ c.requires,
)

pub bounds-findings-p : goal.bounds-findings-p
bounds-findings-p c = omega (arith, c.requires.few, places_of c.args.o.now _ c.in_use-place-items.ensures)

pub loop-p-preserved : goal.loop-p-preserved
loop-p-preserved c =
    found_more c.args.o.now _ c.in_use-place-items.ensures c.loop-p.p c.loop-p-test.true _ c.tallies_of-tallies.ensures _ _ _ _ c.loop-p.invariant c.blocking-blocked.ensures
    (c.finding_of.ensures (above_here c.args.o.now _ c.in_use-place-items.ensures c.loop-p.p c.loop-p-test.true _ c.tallies_of-tallies.ensures))

pub returns : goal.returns
returns c = all_found c.args.o.now _ c.loop-p.p (omega (arith, places_of c.args.o.now _ c.in_use-place-items.ensures)) c.loop-p.invariant
