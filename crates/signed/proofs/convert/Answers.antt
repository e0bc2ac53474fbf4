-- `convert` keeps what is signed.
use Rattle.signed.proofs.Conversions.{convert_signed}
use Rattle.signed.proofs.convert.Goals as goal

pub returns : goal.returns
returns c = let e = c.convert.ensures in convert_signed _ _ _ _ _ (record { answers = e.0; leaves = e.1 })
