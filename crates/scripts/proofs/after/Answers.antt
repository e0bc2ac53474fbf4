-- `after` meets its contract.
use Rattle.std.proofs.Common.{◌∙◌}
use Rattle.sheet.proofs.Rounds.{next_is}
use Rattle.scripts.proofs.Turns.{after_is}
use Rattle.scripts.proofs.after.Goals as goal

pub returns : goal.returns
returns c = after_is _ _ _ _ (c.frame_after.ensures ∙ next_is _ _ c.requires)
