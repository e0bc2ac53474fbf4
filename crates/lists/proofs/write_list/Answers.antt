-- `write_list` meets its contract: what is said of the set that the list is gathered into is said of the list.
use Rattle.std.proofs.Common.{◌∙◌}
use Rattle.lists.proofs.Faces.{written_gathered, left_gathered}
use Rattle.lists.proofs.write_list.Goals as goal

pub returns : goal.returns
returns c = (
  c.write_sheet.ensures.0 ∙ rw c.gathered.ensures (written_gathered c.args.version c.args.policy c.args.list.now c.args.sheet.now),
  c.write_sheet.ensures.1 ∙ rw c.gathered.ensures (left_gathered c.args.version c.args.policy c.args.list.now c.args.sheet.now),
)
