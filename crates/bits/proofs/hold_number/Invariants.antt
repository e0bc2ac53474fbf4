-- `hold_number` meets its contract: after i bytes, the first i are those of the number and the others as they were.
use mathlib.Core.Path.{◌≡◌}
use Prim.Native.Nat.{◌≤◌, ◌-◌}
use lib.ListN.{length}
use Rattle.bits.proofs.Numbers.{written}
use Rattle.bits.proofs.hold_number.Given as goal

abbrev pub invariant-loop-i : goal.invariant-loop-i
invariant-loop-i l = (l.i ≤ length l.initial.bytes) × (l.count ≡ length l.initial.bytes) × (l.bytes ≡ written l.initial.bytes l.n l.i)

abbrev pub decreases-loop-i : goal.decreases-loop-i
decreases-loop-i l = length l.initial.bytes - l.i
