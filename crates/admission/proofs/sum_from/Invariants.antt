-- Before each turn the sum is the work of the frames passed, and i the frame that follows.
use Rattle.admission.proofs.Sums.{Summed}
use Rattle.admission.proofs.sum_from.Given as goal

abbrev pub invariant-loop : goal.invariant-loop
invariant-loop l = Summed l.frames l.s l.counter l.sum l.i
