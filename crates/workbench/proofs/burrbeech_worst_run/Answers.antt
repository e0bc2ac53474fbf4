-- `burrbeech_worst_run` meets its contract.
use Rattle.workbench.proofs.Small.{worst_small}
use Rattle.workbench.proofs.burrbeech_worst_run.Goals as goal

pub answer_number-requires : goal.answer_number-requires
answer_number-requires c = rw c.worst_run.ensures.0 (worst_small _ _)
