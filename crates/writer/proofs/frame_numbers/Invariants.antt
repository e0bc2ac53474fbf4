-- `frame_numbers` meets its contract.
use Rattle.std.proofs.Common.{◌≡◌, ◌*◌}
use Rattle.sheet.specs.Fields.{frame_fields}
use Rattle.sheet.specs.Tasks.{task_in}
use Rattle.sheet.specs.Writing.{frame_numbers}
use Rattle.sheet.proofs.Filled.{filled}
use Rattle.writer.proofs.frame_numbers.Given as goal

abbrev pub invariant-loop-j : goal.invariant-loop-j
invariant-loop-j l = (l.fields ≡ frame_fields l.own * l.task.frame_count) × (l.number-items ≡ filled l.fields 0 (frame_numbers l.own (task_in l.task)) l.j)
