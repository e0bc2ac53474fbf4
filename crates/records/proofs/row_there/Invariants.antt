-- `row_there` meets its contract: what is left of the row goes into what is left of the string's bits.
use mathlib.Core.Path.{◌≡◌}
use lib.ListN.{drop}
use Rattle.records.specs.Faces.{row_there}
use Rattle.records.proofs.Rows.{room_for}
use Rattle.records.proofs.row_there.Given as goal

abbrev pub invariant-loop-width : goal.invariant-loop-width
invariant-loop-width l = row_there l.len l.at l.widths ≡ room_for l.left (drop l.width-index l.widths)
