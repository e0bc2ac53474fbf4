-- `put_times` meets its contract: after p places the times of these stand at their numbers.
use Rattle.workbench.proofs.Four.{AtNumbers}
use Rattle.workbench.proofs.put_times.Given as goal

abbrev pub invariant-loop-found : goal.invariant-loop-found
invariant-loop-found l = AtNumbers l.a l.initial.bytes l.bytes l.found-index
