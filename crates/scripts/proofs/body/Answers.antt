-- `body` meets its contract.
use Rattle.check_word.specs.Division.{body}
use Rattle.scripts.proofs.body.Goals as goal

pub returns : goal.returns
unfolding body
returns c = rw c.saturating_sub.ensures
