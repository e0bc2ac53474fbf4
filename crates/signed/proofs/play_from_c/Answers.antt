-- `burrbeech_play` keeps what is signed.
use Rattle.signed.proofs.Plays.{play_c_signed}
use Rattle.signed.proofs.play_from_c.Goals as goal

pub returns : goal.returns
returns c = play_c_signed _ _ _ (record { answers = c.burrbeech_play.ensures })
