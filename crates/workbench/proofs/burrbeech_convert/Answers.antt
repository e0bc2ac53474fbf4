-- `burrbeech_convert` meets its contract.
use Rattle.workbench.proofs.Small.{converted_small}
use Rattle.workbench.proofs.burrbeech_convert.Goals as goal

pub answer_number-requires : goal.answer_number-requires
answer_number-requires c = rw c.convert.ensures.0 (converted_small _ _ _)
