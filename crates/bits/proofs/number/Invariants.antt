-- `number` meets its contract: after some bytes, n is their number.
use mathlib.Core.Path.{◌≡◌}
use lib.ListN.{take}
use Rattle.bits.specs.Packed.{value, bits_of}
use Rattle.bits.proofs.number.Given as goal

abbrev pub invariant-loop-byte : goal.invariant-loop-byte
invariant-loop-byte l = l.n ≡ value (bits_of (take l.byte-index l.bytes))
