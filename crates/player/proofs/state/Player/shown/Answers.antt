-- `shown` meets its contract.
use native.Mathlib.Omega.{arith}
use Rattle.player.proofs.Picking.{shown_none, shown_unlocked, shown_locked}
use Rattle.player.proofs.state.Player.shown.Goals as goal

pub returns-in_default : goal.returns-in_default
returns-in_default c = shown_none _ c.in_default.is

pub returns-then-stretch-eq0 : goal.returns-then-stretch-eq0
returns-then-stretch-eq0 c = shown_unlocked _ _ c.in-Some.is (omega (arith, c.stretch.ensures))

pub returns : goal.returns
returns c = shown_locked _ _ c.in-Some.is (λ e. absurd (omega (arith, c.stretch.ensures)))
