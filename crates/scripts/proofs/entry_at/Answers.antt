-- `entry_at` meets its contract: a row that is not there leaves the zeros of a blank entry.
use Rattle.std.proofs.Common.{rules, ◌∙◌}
use Rattle.scripts.specs.Reading.{entry_with}
use Rattle.scripts.proofs.Entries.{entry_taken}
use Rattle.scripts.proofs.entry_at.Goals as goal

pub returns : goal.returns
unfolding entry_with
returns c = let a = c.args in
    entry_taken a.script.now a.tasks a.j (search rules) (search rules) _ (c.take_row.ensures.1 ∙ rw (c.body.ensures, c.script_width.ensures, c.entry_widths-widths.ensures))
