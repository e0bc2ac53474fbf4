-- `first_frames` meets its contract.
use Rattle.std.proofs.Common.{◌∙◌}
use Rattle.scripts.proofs.Entries.{firsts_taken}
use Rattle.scripts.proofs.first_frames.Goals as goal

pub returns : goal.returns
returns c = c.take_row.ensures.1 ∙ rw c.body.ensures (firsts_taken c.args.tasks c.args.script.now _ _ c.in_use-in_use.ensures c.first_frame_widths-widths.ensures)
