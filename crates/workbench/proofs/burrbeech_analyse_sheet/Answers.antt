-- `burrbeech_analyse_sheet` meets its contract.
use Rattle.workbench.proofs.Small.{sheet_small}
use Rattle.workbench.proofs.burrbeech_analyse_sheet.Goals as goal

pub answer_number-requires : goal.answer_number-requires
answer_number-requires c = rw c.analyse_sheet.ensures.0 (sheet_small _ _)
