-- `write_report` keeps what is signed.
use Rattle.signed.proofs.Signed.{write_report_signed}
use Rattle.signed.proofs.write_report.Goals as goal

pub returns : goal.returns
returns c = let e = c.write_report.ensures in write_report_signed _ _ _ _ (record { answers = e.0; leaves = e.1 })
