-- `respond` meets its contract: x is from 1 up, and at every time before it the demand is more.
use Rattle.std.proofs.Common.{◌+◌, ◌-◌}
use Rattle.analysis.specs.Inside.Demand.{Tallies}
use Rattle.analysis.proofs.Rounds.{NotBefore}
use Rattle.analysis.proofs.response.respond.Given as goal

abbrev pub invariant-loop-x : goal.invariant-loop-x
invariant-loop-x l = (tallies : Tallies l.above) → NotBefore tallies.tasks l.blocked l.own l.x

abbrev pub decreases-loop-x : goal.decreases-loop-x
decreases-loop-x l = l.limit + 1 - l.x
