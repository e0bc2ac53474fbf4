-- `burrbeech_read_list` meets its contract.
use Rattle.workbench.proofs.Small.{read_small}
use Rattle.workbench.proofs.burrbeech_read_list.Goals as goal

pub answer_number-requires : goal.answer_number-requires
answer_number-requires c = rw c.read_list.ensures.0 (read_small _ _)
