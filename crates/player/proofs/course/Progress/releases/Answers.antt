-- `releases` meets its contract: the releases of the tick are seen one by one.
use native.Mathlib.Omega.{arith}
use Rattle.player.proofs.Playing.{calm_so_far, release_starts, turn_at, entry_room, entry_fits, one_more, all_seen}
use Rattle.player.proofs.course.Progress.releases.Goals as goal

pub returns : goal.returns
returns c on = let l = c.loop-self in all_seen on.stage _ l.self (l.invariant.1 on) l.invariant.0 (omega arith)

pub loop-self-init : goal.loop-self-init
loop-self-init c = (c.requires.going.next_is, λ on. release_starts on.stage _ _ on.going)

pub bounds-cast-i : goal.bounds-cast-i
bounds-cast-i c = let l = c.loop-self in entry_room c.requires.stage _ l.self (turn_at c.requires l.self l.invariant (omega arith))

pub bounds-self-i : goal.bounds-self-i
bounds-self-i c = let l = c.loop-self in entry_room c.requires.stage _ l.self (turn_at c.requires l.self l.invariant (omega arith))

pub bounds-self-i-in-loop-self : goal.bounds-self-i-in-loop-self
bounds-self-i-in-loop-self c = let l = c.loop-self in entry_room c.requires.stage _ l.self (turn_at c.requires l.self l.invariant (omega arith))

pub release-self-requires : goal.release-self-requires
release-self-requires c =
    let l = c.loop-self in
    entry_fits c.requires.stage _ l.self (turn_at c.requires l.self l.invariant (omega arith)) _ _ c.deadline_of-deadline.ensures

pub loop-self-preserved : goal.loop-self-preserved
loop-self-preserved c = let l = c.loop-self in (
  c.upcoming-self.ensures,
  λ on.
      rw c.release-self.ensures
      (one_more on.stage _ l.self (turn_at on l.self l.invariant (omega arith)) (calm_so_far on.stage _ _ on.going on.calm) _ _ c.deadline_of-deadline.ensures c.frame_after.ensures),
)
