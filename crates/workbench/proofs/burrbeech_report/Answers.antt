-- `burrbeech_report` meets its contract.
use Rattle.workbench.proofs.Small.{report_small}
use Rattle.workbench.proofs.burrbeech_report.Goals as goal

pub answer_number-requires : goal.answer_number-requires
answer_number-requires c = rw c.write_report.ensures.0 (report_small _ _)
