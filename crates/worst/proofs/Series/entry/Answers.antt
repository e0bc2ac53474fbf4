-- `entry` meets its contract.
use Rattle.worst.specs.Inside.Plans.{next_entry}
use Rattle.worst.proofs.Series.entry.Goals as goal

pub returns : goal.returns
unfolding next_entry
returns c = rw c.work.ensures
