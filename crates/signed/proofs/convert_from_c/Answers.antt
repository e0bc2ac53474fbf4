-- `burrbeech_convert` keeps what is signed.
use Rattle.signed.proofs.Conversions.{convert_c_signed}
use Rattle.signed.proofs.convert_from_c.Goals as goal

pub returns : goal.returns
returns c = let e = c.burrbeech_convert.ensures in convert_c_signed _ _ _ _ _ (record { answers = e.0; leaves = e.1 })
