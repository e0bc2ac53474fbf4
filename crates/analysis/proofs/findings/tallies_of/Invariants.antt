-- `tallies_of` meets its contract: the tallies of the places before place p stand.
use Rattle.order.specs.Ordered.{tasks_in_order}
use Rattle.analysis.proofs.Growing.{FirstStand}
use Rattle.analysis.proofs.findings.tallies_of.Given as goal

abbrev pub invariant-loop-p : goal.invariant-loop-p
invariant-loop-p l = FirstStand (tasks_in_order l.fn.o) l.tallies l.p
