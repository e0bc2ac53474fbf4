-- `advance` meets its contract.
use Rattle.std.proofs.Common.{◌∙◌}
use Rattle.sheet.proofs.Rounds.{next_is}
use Rattle.worst.specs.Inside.Plans.{behind}
use Rattle.worst.proofs.Series.advance.Goals as goal

pub returns : goal.returns
unfolding behind
returns c = rw (c.frame_after-self.ensures ∙ next_is _ _ c.requires.0)
