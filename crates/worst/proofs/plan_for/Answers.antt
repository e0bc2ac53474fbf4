-- `plan_for` meets its contract: the series of the places before place q stand at their numbers.
use Rattle.std.proofs.Common.{refl, arith}
use Rattle.analysis.proofs.Placed.{places_of, number_in, shape_there}
use Rattle.worst.proofs.Planning.{nowhere, planned_more, all_planned, apart}
use Rattle.worst.proofs.plan_for.Goals as goal

pub overflow_cast-q : goal.overflow_cast-q
overflow_cast-q c = record { fits = omega (arith, c.requires.stand.few, places_of c.args.o _ c.in_use-places.ensures) }

pub bounds-judged-i : goal.bounds-judged-i
bounds-judged-i c = number_in c.args.o _ c.in_use-places.ensures c.loop-q.q nowhere c.loop-q-test.true _ c.requires.stand

pub series_of-requires : goal.series_of-requires
series_of-requires c = (c.requires.short, shape_there c.args.o _ c.in_use-places.ensures c.loop-q.q nowhere c.loop-q-test.true _ c.requires.stand)

pub bounds-series-i : goal.bounds-series-i
bounds-series-i c = number_in c.args.o _ c.in_use-places.ensures c.loop-q.q nowhere c.loop-q-test.true _ c.requires.stand

pub loop-q-preserved : goal.loop-q-preserved
loop-q-preserved c =
    let o = c.args.o in
    let are = c.in_use-places.ensures in
    let inside = c.loop-q-test.true in
    planned_more _ _ _ _ _ c.loop-q.invariant refl (number_in o _ are c.loop-q.q nowhere inside _ c.requires.stand) (apart o _ are c.requires.numbered c.loop-q.q inside) c.series_of.ensures

pub overflow_cast-result : goal.overflow_cast-result
overflow_cast-result c = record { fits = omega (arith, c.requires.stand.few, places_of c.args.o _ c.in_use-places.ensures) }

pub returns : goal.returns
returns c = all_planned c.args.o _ c.in_use-places.ensures _ _ _ _ (omega arith) c.loop-q.invariant
