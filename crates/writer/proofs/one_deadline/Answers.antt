-- `one_deadline` meets its contract.
use Rattle.std.proofs.Common.{rules, tests, ap, ◌∙◌}
use Rattle.std.proofs.lemmas.Iterator.{YieldsList-from_slice}
use Rattle.std.proofs.lemmas.Iterator.Search.{all_from_yields_List}
use Rattle.std.specs.List.{list_all}
use Rattle.std.specs.Prelude.{nat_eq}
use Rattle.writer.proofs.Numbers.{one_is}
use Rattle.writer.proofs.one_deadline.Goals as goal

pub returns : goal.returns
returns c =
    all_from_yields_List (λ d. nat_eq d c.deadline_of-first.result) c.all.new.self _ _ c.all.ensures.ran (YieldsList-from_slice c.deadlines_in_use.result.now cc) (λ x b q k. search (rules, tests))
    ∙ ap (list_all (λ d. nat_eq d c.deadline_of-first.result)) c.deadlines_in_use.ensures.are
    ∙ one_is c.args.task _ c.deadline_of-first.ensures
