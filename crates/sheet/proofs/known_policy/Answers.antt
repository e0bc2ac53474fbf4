-- `known_policy` meets its contract.
use Rattle.std.proofs.Common.{refl}
use Rattle.sheet.specs.Admission.{known_policy}
use Rattle.sheet.proofs.known_policy.Goals as goal

pub returns : goal.returns
unfolding known_policy
returns c = refl
