-- `one_deadline_each` meets its contract.
use Rattle.std.proofs.Common.{rules, tests, ap, ◌∙◌}
use Rattle.std.proofs.lemmas.Iterator.{YieldsList-from_slice}
use Rattle.std.proofs.lemmas.Iterator.Search.{all_from_yields_List}
use Rattle.std.specs.List.{list_all}
use Rattle.sheet.specs.Tasks.{task_in, records_of}
use Rattle.sheet.specs.Writing.{one_deadline}
use Rattle.writer.proofs.Numbers.{each_listed}
use Rattle.writer.proofs.one_deadline_each.Goals as goal

pub returns : goal.returns
returns c =
    all_from_yields_List (λ r. one_deadline (task_in r)) c.all.new.self _ _ c.all.ensures.ran (YieldsList-from_slice c.tasks_in_use.result.now cc) (λ x b q k. search (rules, tests))
    ∙ ap (list_all (λ r. one_deadline (task_in r))) c.tasks_in_use.ensures.are
    ∙ each_listed (records_of c.args.set)
