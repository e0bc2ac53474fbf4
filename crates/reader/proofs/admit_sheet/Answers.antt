-- `admit_sheet` meets its contract.
use Rattle.std.proofs.Common.{rules, sym, ◌∙◌}
use Rattle.reader.proofs.Whole.{sheet_refused, sheet_judged_so}
use Rattle.reader.proofs.admit_sheet.Goals as goal

pub returns-in_err-found : goal.returns-in_err-found
returns-in_err-found c = let told = sheet_refused _ _ (sym c.read_bytes.ensures ∙ c.in_err-found.was) in search rules

pub returns : goal.returns
returns c = c.judge_tasks.ensures ∙ sheet_judged_so _ _ (sym c.read_bytes.ensures ∙ c.in_ok-found.was)
