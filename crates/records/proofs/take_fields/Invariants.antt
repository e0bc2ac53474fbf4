-- `take_fields` meets its contract: the numbers of a row, one after another.
use Rattle.records.proofs.Taking.{TakenTo}
use Rattle.records.proofs.take_fields.Given as goal

abbrev pub invariant-loop-i : goal.invariant-loop-i
invariant-loop-i l = TakenTo l.bytes l.at l.widths l.initial.numbers l.i l.numbers l.next
