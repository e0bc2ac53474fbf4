-- `trace_on` meets its contract: of each tick up to the moment its byte is written.
use mathlib.Core.Path.{◌≡◌, refl, sym, ap, ◌∙◌}
use Prim.Native.Nat.{◌<◌}
use native.Mathlib.Omega.{arith}
use lib.ListN.{length-set}
use Rattle.lent.proofs.Laid.{laid_none}
use Rattle.player.specs.State.{ticked}
use Rattle.player.specs.Inside.Course.{Gone}
use Rattle.player.proofs.Playing.{order_fits, none_released, picked_there, calm_yet, goes_yet, byte_laid, all_laid}
use Rattle.player.proofs.course.trace_on.Goals as goal
use Rattle.player.proofs.course.trace_on.Goals.{then-at-moment, else-at-moment}

pub loop-moment-init : goal.loop-moment-init
loop-moment-init c = (refl, λ stage. (c.start-at.ensures stage, sym (laid_none _ _)))

pub releases-requires : goal.releases-requires
releases-requires c =
    let t = c.requires in
    let l = c.loop-moment in
    calm_yet t.stage c.args.end (t.to_end t.stage) l.moment (omega arith) l.at (l.invariant.1 t.stage).0

pub pick-player-requires : goal.pick-player-requires
pick-player-requires c = order_fits c.requires.stage

pub shown-requires : goal.shown-requires
shown-requires c =
    let t = c.requires in
    let l = c.loop-moment in
    let on = calm_yet t.stage c.args.end (t.to_end t.stage) l.moment (omega arith) l.at (l.invariant.1 t.stage).0 in
    let gone : Gone t.stage l.moment c.if-at-moment.at = elim c.if-at-moment.branch [
      | then-at-moment w ↦ rw w.at-is (w.releases.ensures on)
      | else-at-moment w ↦ rw w.at-is (none_released t.stage l.moment l.at on.going w.if-at-moment.false)
    ] in
    rw c.pick-player.ensures (picked_there t.stage l.moment _ gone)

pub loop-moment-preserved : goal.loop-moment-preserved
loop-moment-preserved c =
    let t = c.requires in
    let l = c.loop-moment in
    let before : l.moment < c.args.end = omega arith in (
      length-set l.ticks l.moment _ ∙ l.invariant.0,
      λ stage.
          let walked = l.invariant.1 stage in
          let on = calm_yet stage c.args.end (t.to_end stage) l.moment before l.at walked.0 in
          let gone : Gone stage l.moment c.if-at-moment.at = elim c.if-at-moment.branch [
            | then-at-moment w ↦ rw w.at-is (w.releases.ensures on)
            | else-at-moment w ↦ rw w.at-is (none_released stage l.moment l.at on.going w.if-at-moment.false)
          ] in (
            rw (c.tick-at.ensures ∙ ap ticked c.pick-player.ensures) (goes_yet stage c.args.end (t.to_end stage) l.moment before walked.0.not_over _ gone),
            rw (c.shown.ensures, c.pick-player.ensures, walked.1) (byte_laid stage c.args.end (t.to_end stage) l.moment before _ gone _ t.has_room),
          ),
    )

pub returns : goal.returns
returns c stage =
    let a = c.args in
    let l = c.loop-moment in
    let last : l.moment ≡ a.end = omega arith in
    rw last at (l.invariant.1 stage).1 ∙ all_laid stage a.end _
