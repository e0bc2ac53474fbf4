-- `sheet_size` counts the bits of a set's header and records.
use Rattle.sheet.specs.Fields.{own_deadlines}
use Rattle.writer.proofs.Turns.{Counted}
use Rattle.writer.proofs.sheet_size.Given as goal

abbrev pub invariant-loop-task : goal.invariant-loop-task
invariant-loop-task l = Counted (own_deadlines l.version) l.task-items l.task-index l.bits
