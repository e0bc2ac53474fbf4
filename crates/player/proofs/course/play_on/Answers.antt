-- `play_on` meets its contract: up to each moment the play is not over.
use mathlib.Core.Path.{◌≡◌, sym, ap, ◌∙◌}
use native.Mathlib.Omega.{arith}
use Rattle.player.specs.State.{ticked, looking_ahead}
use Rattle.player.specs.Inside.Course.{Gone, with_player}
use Rattle.player.proofs.Soonest.{not_reached}
use Rattle.player.proofs.Playing.{miss_ends, calm_ahead, none_released, done_ends, goes_behind, never_past}
use Rattle.player.proofs.course.play_on.Goals as goal
use Rattle.player.proofs.course.play_on.Goals.{then-at-moment, else-at-moment, then-at-moment-2, else-at-moment-2}

pub returns-in-Some : goal.returns-in-Some
returns-in-Some c stage = let l = c.loop-moment in miss_ends stage l.moment l.at (l.invariant stage) c.in-Some.task (sym c.misser.ensures ∙ c.in-Some.is)

pub releases-requires : goal.releases-requires
releases-requires c =
    let l = c.loop-moment in
    let ahead : c.if-at-moment.at ≡ with_player l.at (looking_ahead l.at.player l.moment) = elim c.if-at-moment.branch [
      | then-at-moment w ↦ w.at-is ∙ ap (with_player l.at) w.look_ahead-at.ensures
      | else-at-moment w ↦ w.at-is ∙ ap (with_player l.at) (sym (not_reached _ _ w.if-at-moment.false))
    ] in
    calm_ahead c.requires l.moment l.at (l.invariant c.requires) (sym c.misser.ensures ∙ c.in_default.is) (omega arith) _ ahead

pub returns-then-all_done : goal.returns-then-all_done
returns-then-all_done c stage =
    let l = c.loop-moment in
    let ahead : c.if-at-moment.at ≡ with_player l.at (looking_ahead l.at.player l.moment) = elim c.if-at-moment.branch [
      | then-at-moment w ↦ w.at-is ∙ ap (with_player l.at) w.look_ahead-at.ensures
      | else-at-moment w ↦ w.at-is ∙ ap (with_player l.at) (sym (not_reached _ _ w.if-at-moment.false))
    ] in
    let on = calm_ahead stage l.moment l.at (l.invariant stage) (sym c.misser.ensures ∙ c.in_default.is) (omega arith) _ ahead in
    let gone : Gone stage l.moment c.if-at-moment-2.at = elim c.if-at-moment-2.branch [
      | then-at-moment-2 w ↦ rw w.at-is (w.releases.ensures on)
      | else-at-moment-2 w ↦ rw w.at-is (none_released stage l.moment _ on.going w.if-at-moment-2.false)
    ] in
    done_ends stage l.moment _ gone (l.invariant stage).not_over on.calm (rw c.pick-player.ensures at (sym c.all_done.ensures ∙ c.if-all_done.true))

pub loop-moment-preserved : goal.loop-moment-preserved
loop-moment-preserved c stage =
    let l = c.loop-moment in
    let ahead : c.if-at-moment.at ≡ with_player l.at (looking_ahead l.at.player l.moment) = elim c.if-at-moment.branch [
      | then-at-moment w ↦ w.at-is ∙ ap (with_player l.at) w.look_ahead-at.ensures
      | else-at-moment w ↦ w.at-is ∙ ap (with_player l.at) (sym (not_reached _ _ w.if-at-moment.false))
    ] in
    let on = calm_ahead stage l.moment l.at (l.invariant stage) (sym c.misser.ensures ∙ c.in_default.is) (omega arith) _ ahead in
    let gone : Gone stage l.moment c.if-at-moment-2.at = elim c.if-at-moment-2.branch [
      | then-at-moment-2 w ↦ rw w.at-is (w.releases.ensures on)
      | else-at-moment-2 w ↦ rw w.at-is (none_released stage l.moment _ on.going w.if-at-moment-2.false)
    ] in
    rw (c.tick-at.ensures ∙ ap ticked c.pick-player.ensures)
    (goes_behind stage l.moment _ gone (l.invariant stage).not_over on.calm (rw c.pick-player.ensures at (sym c.all_done.ensures ∙ c.if-all_done.false)))

pub unreachable-requires : goal.unreachable-requires
unreachable-requires c = let past = never_past c.requires _ _ (c.loop-moment.invariant c.requires) in omega arith
