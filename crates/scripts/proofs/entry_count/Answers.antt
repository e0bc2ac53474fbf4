-- `entry_count` meets its contract.
use Rattle.std.proofs.Common.{Option, ℕ, unwrap_or, ap, ◌∙◌}
use Rattle.scripts.proofs.Made.{counted}
use Rattle.scripts.proofs.entry_count.Goals as goal

pub returns : goal.returns
returns c = c.unwrap_or.ensures ∙ ap (λ (o : Option ℕ). unwrap_or o 0) c.count_taken.ensures ∙ counted c.args.script.now c.args.tasks
