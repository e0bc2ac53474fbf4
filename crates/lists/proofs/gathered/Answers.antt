-- `gathered` meets its contract.
use Rattle.std.proofs.Common.{replicate, ap}
use Rattle.sheet.specs.Constants.{most_tasks}
use Rattle.reader.proofs.Slots.{blank_task}
use Rattle.lists.proofs.Laws.{gathered_is}
use Rattle.lists.proofs.gathered.Goals as goal

pub returns : goal.returns
returns c = gathered_is _ _ _ _ _ _ c.min.ensures c.min-count.ensures c.copy_from_slice.ensures.after (ap (replicate most_tasks) (blank_task _ c.default-tasks.ensures))
