-- `each_fits` meets its contract: a number fits its field where nothing is left of it behind the field's width.
use Rattle.records.proofs.Rows.{FitsLeft}
use Rattle.records.proofs.each_fits.Given as goal

abbrev pub invariant-loop-width : goal.invariant-loop-width
invariant-loop-width l = FitsLeft l.widths l.numbers l.width-iterator.a.rest.now l.width-iterator.b.rest.now
