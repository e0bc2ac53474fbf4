-- `start` meets its contract.
use mathlib.Core.Path.{◌≡◌, ◌∙◌}
use borrow.Author.Rules.{rules}
use lib.ListN.{length}
use Rattle.sheet.specs.Constants.{most_tasks}
use Rattle.scripts.proofs.Entries.{firsts_there}
use Rattle.player.proofs.Playing.{frames_begin, count_fits, begins}
use Rattle.player.proofs.course.Progress.start.Goals as goal

pub returns : goal.returns
returns c stage =
    let room : length c.first_frames-frames.result ≡ most_tasks = search rules in
    rw (c.start.ensures, c.upcoming.ensures) (begins stage _ (frames_begin stage _ room (c.first_frames-frames.ensures ∙ firsts_there _ _ (count_fits stage) stage.made)))
