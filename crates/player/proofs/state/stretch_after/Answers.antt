-- `stretch_after` meets its contract.
use mathlib.Core.Path.{◌∙◌}
use native.Mathlib.Omega.{arith}
use Rattle.player.proofs.Picking.{stretch_ends, stretch_goes}
use Rattle.player.proofs.state.stretch_after.Goals as goal

pub returns-then-left-eq0 : goal.returns-then-left-eq0
returns-then-left-eq0 c = stretch_ends _ _ (omega arith)

pub returns : goal.returns
returns c = c.saturating_sub.ensures ∙ stretch_goes _ _ (omega arith)
