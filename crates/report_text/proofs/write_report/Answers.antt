-- The text has no room, or stands in front of what was there.
use Rattle.std.proofs.Common.{arith}
use Rattle.report_text.proofs.Written.{no_room, written}
use Rattle.report_text.proofs.write_report.Goals as goal

pub returns-then-memory-length : goal.returns-then-memory-length
returns-then-memory-length c = no_room c.args.sheet.now c.args.memory.now (rw (← c.put_report.ensures) (omega arith))

pub returns : goal.returns
returns c =
    rw (c.copy_from_slice.ensures.after, c.deref.ensures.0, c.len-length.ensures.value, c.put_report.ensures)
    (written c.args.sheet.now c.args.memory.now (rw (← c.put_report.ensures) (omega arith)))
