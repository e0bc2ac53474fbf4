-- `is_time` meets its contract.
use Rattle.std.proofs.Common.{rules}
use Rattle.sheet.specs.Admission.{is_time}
use Rattle.admission.proofs.is_time.Goals as goal

pub returns : goal.returns
unfolding is_time
returns c = search rules
