-- `burrbeech_worst_run` keeps what is signed.
use Rattle.signed.proofs.WorstRuns.{worst_run_c_signed}
use Rattle.signed.proofs.worst_run_from_c.Goals as goal

pub returns : goal.returns
returns c = let e = c.burrbeech_worst_run.ensures in worst_run_c_signed _ _ _ _ (record { answers = e.0; leaves = e.1 })
