-- `deliver` meets its contract: the times of the places that are looked at stand at their numbers.
use Rattle.analysis.proofs.Delivered.{AtNumbers}
use Rattle.analysis.proofs.delivery.deliver.Given as goal

abbrev pub invariant-loop-f : goal.invariant-loop-f
invariant-loop-f l = AtNumbers l.fn.a l.initial.times l.times l.f-index
