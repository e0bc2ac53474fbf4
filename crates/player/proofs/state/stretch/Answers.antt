-- `stretch` meets its contract.
use native.Mathlib.Omega.{arith}
use Rattle.player.proofs.Picking.{stretch_under_way, stretch_none, stretch_starts}
use Rattle.player.proofs.state.stretch.Goals as goal

pub returns-then-coming-gt0 : goal.returns-then-coming-gt0
returns-then-coming-gt0 c = stretch_under_way _ _ (omega arith)

pub returns-then-lock-lt2 : goal.returns-then-lock-lt2
returns-then-lock-lt2 c = stretch_none _ _ (omega arith) (omega arith)

pub returns : goal.returns
returns c = stretch_starts _ _ (omega arith) (omega arith)
