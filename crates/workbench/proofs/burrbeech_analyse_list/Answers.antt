-- `burrbeech_analyse_list` meets its contract.
use Rattle.workbench.proofs.Small.{list_small}
use Rattle.workbench.proofs.burrbeech_analyse_list.Goals as goal

pub answer_number-requires : goal.answer_number-requires
answer_number-requires c = rw c.analyse_list.ensures.0 (list_small _ _ _)
