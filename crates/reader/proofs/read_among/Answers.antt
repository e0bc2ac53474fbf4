-- `read_among` meets its contract.
use Rattle.std.proofs.Common.{rules, sym, ◌∙◌}
use Rattle.reader.proofs.Whole.{among_refused_before, among_refused, among_admitted}
use Rattle.reader.proofs.read_among.Goals as goal

pub returns-in_err-found : goal.returns-in_err-found
returns-in_err-found c = search (rules, among_refused_before)

pub returns-in_err-judge_tasks : goal.returns-in_err-judge_tasks
returns-in_err-judge_tasks c = let told = among_refused _ _ _ _ (sym c.read_bytes.ensures ∙ c.in_ok-found.was) _ (sym c.judge_tasks.ensures ∙ c.in_err-judge_tasks.was) in search rules

pub returns : goal.returns
returns c = among_admitted _ _ _ _ (sym c.read_bytes.ensures ∙ c.in_ok-found.was) _ (sym c.judge_tasks.ensures ∙ c.in_ok-judge_tasks.was)
