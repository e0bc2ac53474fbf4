-- `standing` meets its contract.
use Rattle.std.proofs.Common.{refl}
use Rattle.plays.specs.Items.{standing}
use Rattle.scripts.proofs.standing.Goals as goal

pub returns : goal.returns
unfolding standing
returns c = refl
