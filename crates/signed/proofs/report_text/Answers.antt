-- `report_text` keeps what is signed.
use Rattle.signed.proofs.Signed.{report_text_signed}
use Rattle.signed.proofs.report_text.Goals as goal

pub returns : goal.returns
returns c = report_text_signed _ _ (record { answers = c.report_text.ensures })
