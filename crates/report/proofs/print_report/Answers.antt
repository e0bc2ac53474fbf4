-- What is printed lies within the text's room.
use Rattle.report_text.proofs.Whole.{text_within}
use Rattle.report.proofs.print_report.Goals as goal

pub shared_ref_as_front-print : goal.shared_ref_as_front-print
shared_ref_as_front-print c = text_within _ _ c.report_text-text.ensures
