-- `demand` meets its contract: the work of the tasks above is added, from the lowest up.
use Rattle.analysis.proofs.Tallies.{Added}
use Rattle.analysis.proofs.demand.demand.Given as goal

abbrev pub invariant-loop-tally : goal.invariant-loop-tally
invariant-loop-tally l =
    (goal.iterator-loop-tally).can_next l.tally-iterator
    × (goal.iterator-loop-tally).is_finite l.tally-iterator
    × Added l.above l.blocked l.own l.t l.tally-iterator.iter.rest.now l.total
