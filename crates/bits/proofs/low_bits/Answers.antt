-- `low_bits` meets its contract.
use Rattle.bits.proofs.Masks.{masked}
use Rattle.bits.proofs.low_bits.Goals as goal

pub returns : goal.returns
returns c = masked _ _ c.requires
