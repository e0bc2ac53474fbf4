-- `burrbeech_trace` keeps what is signed.
use Rattle.signed.proofs.Plays.{trace_c_signed}
use Rattle.signed.proofs.trace_from_c.Goals as goal

pub returns : goal.returns
returns c = let e = c.burrbeech_trace.ensures in trace_c_signed _ _ _ _ _ (record { answers = e.0; leaves = e.1 })
