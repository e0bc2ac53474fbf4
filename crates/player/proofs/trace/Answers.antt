-- `trace` meets its contract.
use mathlib.Core.Path.{refl, ap, ◌∙◌}
use native.Mathlib.Omega.{arith}
use Rattle.std.specs.Prelude.{Ok}
use Rattle.player.specs.Answers.{moment_of}
use Rattle.player.proofs.Ways.{moment_by, turned_away, is_played, trace_turned, trace_short, trace_done}
use Rattle.player.proofs.Staging.{told_err}
use Rattle.player.proofs.trace.Goals as goal

pub returns-in_err-cast : goal.returns-in_err-cast
returns-in_err-cast c = let d = trace_turned _ _ _ (turned_away _ _ _ c.in_err-cast.ensures _ refl) in (told_err _ c.from_residual.ensures.1 ∙ d.0, d.1)

pub play_on-end-requires : goal.play_on-end-requires
play_on-end-requires c = (is_played _ _ c.stage.result c.stage.ensures c.in_ok-cast.cast c.in_ok-cast.was).stage

pub returns-then-ticks-moment : goal.returns-then-ticks-moment
returns-then-ticks-moment c = let p = is_played _ _ c.stage.result c.stage.ensures c.in_ok-cast.cast c.in_ok-cast.was in
    trace_short _ _ _ p (omega (arith, c.moment-moment.ensures ∙ ap moment_of (c.play_on-end.ensures p.stage)))

pub trace_on-requires : goal.trace_on-requires
trace_on-requires c = let p = is_played _ _ c.stage.result c.stage.ensures c.in_ok-cast.cast c.in_ok-cast.was in
    record { stage = p.stage; to_end = λ stage. c.moment-moment.ensures ∙ ap moment_of (c.play_on-end.ensures stage) ∙ moment_by _ _; has_room = omega arith }

pub returns : goal.returns
returns c = let p = is_played _ _ c.stage.result c.stage.ensures c.in_ok-cast.cast c.in_ok-cast.was in
    let ends = c.moment-moment.ensures ∙ ap moment_of (c.play_on-end.ensures p.stage) in
    let d = trace_done _ _ c.args.ticks.now p (omega arith) in
    (ap Ok (c.play_on-end.ensures p.stage ∙ p.ends) ∙ d.0, c.trace_on.ensures p.stage ∙ rw ends d.1)
