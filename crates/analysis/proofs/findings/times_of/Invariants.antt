-- `times_of` meets its contract: the frames before frame k are looked at, and each has a response time.
use Rattle.sheet.specs.Tasks.{task_in}
use Rattle.analysis.specs.Inside.Demand.{Tallies}
use Rattle.analysis.proofs.ByPlace.{Looked}
use Rattle.analysis.proofs.findings.times_of.Given as goal

abbrev pub invariant-loop-k : goal.invariant-loop-k
invariant-loop-k l = (tallies : Tallies l.above) → Looked tallies.tasks l.blocked (task_in l.task) l.times l.last l.k
