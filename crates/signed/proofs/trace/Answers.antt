-- `trace` keeps what is signed.
use Rattle.signed.proofs.Plays.{trace_signed}
use Rattle.signed.proofs.trace.Goals as goal

pub returns : goal.returns
returns c = let e = c.trace.ensures in trace_signed _ _ _ _ _ (record { answers = e.0; leaves = e.1 })
