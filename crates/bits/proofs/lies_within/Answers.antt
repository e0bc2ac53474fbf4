-- `lies_within` meets its contract: the bytes that the field touches are there exactly where its bits are.
use Rattle.std.proofs.Common.{arith}
use Rattle.std.proofs.lemmas.Bool.Decides.{nat_tests}
use Rattle.bits.specs.Faces.{within}
use Rattle.bits.proofs.lies_within.Goals as goal
use Rattle.bits.proofs.lies_within.Goals.{then-contains, else-contains}

pub returns-then-at-len : goal.returns-then-at-len
unfolding within
returns-then-at-len c = elim c.if-contains.branch [ then-contains w ↦ grind (arith, nat_tests) | else-contains w ↦ grind (arith, nat_tests) ]

pub returns-else-at-len : goal.returns-else-at-len
unfolding within
returns-else-at-len c = elim c.if-contains.branch [ then-contains w ↦ grind (arith, nat_tests) | else-contains w ↦ grind (arith, nat_tests) ]
