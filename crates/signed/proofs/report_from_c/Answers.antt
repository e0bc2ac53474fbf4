-- `burrbeech_report` keeps what is signed.
use Rattle.signed.proofs.Signed.{report_c_signed}
use Rattle.signed.proofs.report_from_c.Goals as goal

pub returns : goal.returns
returns c = let e = c.burrbeech_report.ensures in report_c_signed _ _ _ _ (record { answers = e.0; leaves = e.1 })
