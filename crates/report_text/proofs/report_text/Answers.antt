-- The page's bytes and zeros behind them are the text.
use Rattle.report_text.proofs.Whole.{text_is}
use Rattle.report_text.proofs.report_text.Goals as goal

pub returns : goal.returns
returns c = rw (c.copy_from_slice.ensures.after, c.deref.ensures.0, c.len-length.ensures.value, c.put_report.ensures) (text_is _)
