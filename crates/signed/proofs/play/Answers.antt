-- `play` keeps what is signed.
use Rattle.signed.proofs.Plays.{play_signed}
use Rattle.signed.proofs.play.Goals as goal

pub returns : goal.returns
returns c = play_signed _ _ _ (record { answers = c.play.ensures })
