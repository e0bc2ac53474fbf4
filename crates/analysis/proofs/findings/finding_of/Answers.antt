-- `finding_of` meets its contract.
use Rattle.std.proofs.Common.{arith, rules}
use Rattle.sheet.proofs.Records.{frames_few}
use Rattle.analysis.proofs.ByPlace.{finding_made}
use Rattle.analysis.proofs.findings.finding_of.Goals as goal

pub overflow_cast-result : goal.overflow_cast-result
overflow_cast-result c = record { fits = omega (arith, c.frame_count.ensures, frames_few c.args.task (search rules)) }

pub returns : goal.returns
returns c tallies = finding_made _ _ _ _ c.shortest_deadline.ensures c.frame_count.ensures (c.times_of.ensures tallies)
