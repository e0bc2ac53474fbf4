-- `trace_on` meets its contract: of each tick up to the moment its byte is written.
use mathlib.Core.Path.{◌≡◌}
use lib.ListN.{length}
use Rattle.lent.proofs.Laid.{laid_to}
use Rattle.player.specs.Inside.Course.{Stage, Going, shown_on}
use Rattle.player.proofs.course.trace_on.Given as goal

abbrev pub invariant-loop-moment : goal.invariant-loop-moment
invariant-loop-moment l = (length l.ticks ≡ length l.initial.ticks)
    × ((stage : Stage l.script l.cast) → Going stage l.moment l.at × (l.ticks ≡ laid_to (shown_on stage l.end) l.initial.ticks l.moment))
