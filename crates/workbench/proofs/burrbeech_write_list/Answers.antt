-- `burrbeech_write_list` meets its contract.
use Rattle.workbench.proofs.Small.{written_small}
use Rattle.workbench.proofs.burrbeech_write_list.Goals as goal

pub answer_number-requires : goal.answer_number-requires
answer_number-requires c = rw c.write_list.ensures.0 (written_small _ _ _ _)
