-- `put_fields` meets its contract: the fields of a row, one after another.
use lib.ListN.{length}
use Rattle.records.proofs.Placing.{RowTo}
use Rattle.records.proofs.put_fields.Given as goal

abbrev pub invariant-loop-width : goal.invariant-loop-width
invariant-loop-width l = RowTo l.initial.bytes l.at l.widths l.numbers (length l.yielded) l.bytes l.next
