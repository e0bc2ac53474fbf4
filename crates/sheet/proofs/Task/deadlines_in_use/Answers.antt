-- `Task::deadlines_in_use` meets its contract.
use Rattle.std.proofs.Common.{rules}
use Rattle.sheet.proofs.Records.{deadlines_used}
use Rattle.sheet.proofs.Task.deadlines_in_use.Goals as goal

pub returns-clause-are : goal.returns-clause-are
returns-clause-are c = deadlines_used c.args.self.now _ (c.in_use.ensures, search rules)
