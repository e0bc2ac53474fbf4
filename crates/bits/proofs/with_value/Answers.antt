-- `with_value` meets its contract.
use Rattle.bits.proofs.Masks.{joined}
use Rattle.bits.proofs.with_value.Goals as goal

pub returns : goal.returns
returns c = let h = c.requires in rw c.low_bits.ensures (joined _ _ _ _ h.0 h.1 h.2 h.3)
