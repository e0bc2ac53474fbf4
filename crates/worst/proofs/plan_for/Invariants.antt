-- `plan_for` meets its contract: the series of the places before place q stand at their numbers.
use Rattle.worst.proofs.Planning.{PlannedTo}
use Rattle.worst.proofs.plan_for.Given as goal

abbrev pub invariant-loop-q : goal.invariant-loop-q
invariant-loop-q l = PlannedTo l.places l.case l.series l.q
