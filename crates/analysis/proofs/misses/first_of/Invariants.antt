-- `first_of` meets its contract: each task of a place before place p passes.
use Rattle.order.specs.Ordered.{tasks_in_order}
use Rattle.analysis.proofs.Passed.{Passed}
use Rattle.analysis.proofs.misses.first_of.Given as goal

abbrev pub invariant-loop-p : goal.invariant-loop-p
invariant-loop-p l = Passed (tasks_in_order l.fn.o) l.p
