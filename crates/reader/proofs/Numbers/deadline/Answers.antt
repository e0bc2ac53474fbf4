-- `deadline` meets its contract.
use Rattle.std.proofs.Common.{rules}
use Rattle.reader.specs.Inside.Parts.{deadline_in}
use Rattle.reader.proofs.Numbers.deadline.Goals as goal

pub returns-then-self : goal.returns-then-self
unfolding deadline_in
returns-then-self c = rw c.if-self.true (search rules)

pub returns-else-self : goal.returns-else-self
unfolding deadline_in
returns-else-self c = rw c.if-self.false (search rules)
