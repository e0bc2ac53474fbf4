-- `frame_without` meets its contract: every frame before frame k has a response time.
use Rattle.sheet.specs.Tasks.{task_in}
use Rattle.analysis.specs.Inside.Demand.{Tallies}
use Rattle.analysis.proofs.MissedFrames.{AllHave}
use Rattle.analysis.proofs.misses.frame_without.Given as goal

abbrev pub invariant-loop-k : goal.invariant-loop-k
invariant-loop-k l = (tallies : Tallies l.above) → AllHave tallies.tasks l.blocked (task_in l.task) l.k
