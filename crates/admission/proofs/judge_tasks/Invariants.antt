-- The records from i on decide, and the shapes of those before stand.
use Rattle.std.proofs.Common.{◌≡◌}
use Rattle.admission.proofs.Answers.{tasks_left}
use Rattle.admission.proofs.Shapes.{shapes_up_to}
use Rattle.admission.proofs.judge_tasks.Given as goal

abbrev pub invariant-loop-i : goal.invariant-loop-i
invariant-loop-i l = (tasks_left l.task-items l.i ≡ tasks_left l.task-items 0) × (l.shapes ≡ shapes_up_to l.task-items l.i)
