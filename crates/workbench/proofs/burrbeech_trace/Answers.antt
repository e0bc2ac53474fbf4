-- `burrbeech_trace` meets its contract.
use Rattle.workbench.proofs.Small.{trace_small}
use Rattle.workbench.proofs.burrbeech_trace.Goals as goal

pub answer_number-requires : goal.answer_number-requires
answer_number-requires c = rw c.trace.ensures.0 (trace_small _ _ _)
