-- `play` meets its contract.
use mathlib.Core.Path.{refl, ap, ◌∙◌}
use Rattle.std.specs.Prelude.{Ok}
use Rattle.player.proofs.Ways.{turned_away, is_played, played_turned, played_ends}
use Rattle.player.proofs.Staging.{told_err}
use Rattle.player.proofs.play.Goals as goal

pub returns-in_err-cast : goal.returns-in_err-cast
returns-in_err-cast c = told_err _ c.from_residual.ensures.1 ∙ played_turned _ _ (turned_away _ _ _ c.in_err-cast.ensures _ refl)

pub returns : goal.returns
returns c = let p = is_played _ _ c.stage.result c.stage.ensures c.in_ok-cast.cast c.in_ok-cast.was in ap Ok (c.play_on.ensures p.stage ∙ p.ends) ∙ played_ends _ _ p.no_refusal

pub play_on-requires : goal.play_on-requires
play_on-requires c = (is_played _ _ c.stage.result c.stage.ensures c.in_ok-cast.cast c.in_ok-cast.was).stage
