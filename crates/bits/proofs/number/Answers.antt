-- `number` meets its contract: after some bytes, n is their number.
use mathlib.Core.Path.{refl}
use native.Mathlib.Omega.{arith}
use Rattle.bits.specs.Packed.{value, bits_of}
use Rattle.bits.proofs.Numbers.{number_more}
use Rattle.bits.proofs.number.Goals as goal

pub loop-byte-init : goal.loop-byte-init
unfolding value bits_of
loop-byte-init c = refl

pub loop-byte-preserved : goal.loop-byte-preserved
loop-byte-preserved c = number_more c.args.bytes.now c.loop-byte.byte-index _ _ (omega arith) (omega arith) (λ i. (c.type_inv.bytes i).fits) c.loop-byte.invariant refl
