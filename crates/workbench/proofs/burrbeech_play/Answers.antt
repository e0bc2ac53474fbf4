-- `burrbeech_play` meets its contract.
use Rattle.workbench.proofs.Small.{play_small}
use Rattle.workbench.proofs.burrbeech_play.Goals as goal

pub answer_number-requires : goal.answer_number-requires
answer_number-requires c = rw c.play.ensures (play_small _ _)
