-- `row_at` meets its contract.
use Rattle.std.proofs.Common.{rules}
use Rattle.reader.specs.Inside.Parts.{row_at}
use Rattle.reader.proofs.row_at.Goals as goal

pub returns-in_err-end : goal.returns-in_err-end
unfolding row_at
returns-in_err-end g c = search rules

pub returns : goal.returns
unfolding row_at
returns g c = search rules
