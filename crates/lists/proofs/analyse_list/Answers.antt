-- `analyse_list` meets its contract: what is said of the set that the list is gathered into is said of the list.
use Rattle.std.proofs.Common.{◌∙◌}
use Rattle.lists.proofs.Faces.{decision_gathered, times_gathered}
use Rattle.lists.proofs.analyse_list.Goals as goal

pub returns : goal.returns
returns c = (
  c.analyse_set.ensures.0 ∙ rw c.gathered.ensures (decision_gathered c.args.policy c.args.list.now c.args.times.now),
  c.analyse_set.ensures.1 ∙ rw c.gathered.ensures (times_gathered c.args.policy c.args.list.now c.args.times.now),
)
