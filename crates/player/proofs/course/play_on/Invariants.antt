-- `play_on` meets its contract: up to each moment the play is not over.
use Rattle.player.specs.Inside.Course.{Stage, Going}
use Rattle.player.proofs.course.play_on.Given as goal

abbrev pub invariant-loop-moment : goal.invariant-loop-moment
invariant-loop-moment l = (stage : Stage l.script l.cast) → Going stage l.moment l.at
