-- `frame_count` meets its contract.
use Rattle.std.proofs.Common.{rules}
use Rattle.sheet.proofs.Records.{frames_counted}
use Rattle.sheet.proofs.frame_count.Goals as goal

pub returns : goal.returns
returns c = frames_counted c.args.task _ (c.in_use.ensures, search rules)
