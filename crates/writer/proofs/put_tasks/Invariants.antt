-- `put_tasks` puts the records of a set one after another.
use Rattle.writer.proofs.Turns.{Stand}
use Rattle.writer.proofs.put_tasks.Given as goal

abbrev pub invariant-loop-task : goal.invariant-loop-task
invariant-loop-task l = Stand l.own l.initial.bytes l.at l.task-items l.task-index l.bytes l.next
