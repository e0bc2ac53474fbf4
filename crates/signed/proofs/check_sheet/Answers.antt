-- `check_sheet` keeps what is signed.
use Rattle.signed.proofs.Signed.{check_sheet_c_signed}
use Rattle.signed.proofs.check_sheet.Goals as goal

pub returns : goal.returns
returns c = let e = c.burrbeech_check_sheet.ensures in check_sheet_c_signed _ _ _ _ (record { answers = e.0; leaves = e.1 })
