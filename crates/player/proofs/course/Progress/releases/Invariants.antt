-- `releases` meets its contract: the releases of the tick are seen one by one.
use mathlib.Core.Path.{◌≡◌}
use Prim.Native.Nat.{◌-◌}
use Rattle.player.specs.Inside.Course.{upcoming, Calmly}
use Rattle.player.proofs.Playing.{ReleasingOn}
use Rattle.player.proofs.course.Progress.releases.Given as goal

abbrev pub invariant-loop-self : goal.invariant-loop-self
invariant-loop-self l = (l.self.next ≡ upcoming l.script l.cast l.self.released)
    × ((on : Calmly l.script l.cast l.moment l.initial.self) → ReleasingOn on.stage l.moment l.self.released l.self.player l.self.frames)

abbrev pub decreases-loop-self : goal.decreases-loop-self
decreases-loop-self l = l.cast.entries - l.self.released
