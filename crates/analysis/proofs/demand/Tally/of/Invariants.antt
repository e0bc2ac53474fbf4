-- `Tally::of` meets its contract: after n frames, the sums of the first 1 to n frames stand.
use Rattle.sheet.specs.Tasks.{task_in}
use Rattle.analysis.proofs.Tallies.{FirstSums}
use Rattle.analysis.proofs.demand.Tally.of.Given as goal

abbrev pub invariant-loop-slot : goal.invariant-loop-slot
invariant-loop-slot l = FirstSums (task_in l.task) l.start l.slot-index l.slot-items l.sum l.k
