-- `width_of` meets its contract: the sum is that of the widths so far.
use mathlib.Core.Path.{◌≡◌}
use Prim.Native.Nat.{◌≤◌}
use lib.ListN.{take}
use Rattle.records.specs.Rows.{total}
use Rattle.records.specs.Faces.{last_position}
use Rattle.records.proofs.width_of.Given as goal

abbrev pub invariant-loop-width : goal.invariant-loop-width
invariant-loop-width l = (l.sum ≡ total (take l.width-index l.widths)) × (l.sum ≤ last_position)
