-- The library's digits are the number's.
use Rattle.std.proofs.Common.{rules}
use Rattle.report_text.proofs.Decimal.{decimal_is}
use Rattle.report_text.proofs.put_number.Goals as goal

pub returns-clause-text : goal.returns-clause-text
returns-clause-text c = rw (decimal_is c.args.n c.ranges.n.fits) (search rules)
