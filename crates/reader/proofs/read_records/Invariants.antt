-- `read_records` meets its contract: a walk over the records, and the fill behind them.
use Rattle.reader.proofs.Walk.{Walked}
use Rattle.reader.proofs.read_records.Given as goal

abbrev pub invariant-loop-i : goal.invariant-loop-i
invariant-loop-i l = Walked l.own l.body l.start l.count l.i l.at l.task-items
