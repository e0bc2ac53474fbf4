-- `missed_frame` meets its contract.
use Rattle.std.specs.Result.{result_ok}
use Rattle.std.proofs.Common.{sym, ap, ◌∙◌, rules}
use Rattle.sheet.proofs.Records.{mapped_length}
use Rattle.order.specs.Ordered.{tasks_in_order}
use Rattle.order.specs.declared.Ordered.{Ordered}
use Rattle.analysis.specs.Misses.{miss_in}
use Rattle.analysis.proofs.Entries.{shapes_stand, miss_is, no_miss_is}
use Rattle.analysis.proofs.missed_frame.Goals as goal

pub returns-in_err-judged : goal.returns-in_err-judged
returns-in_err-judged c = c.from_residual.ensures ∙ no_miss_is _ (sym (ap result_ok c.admit.ensures) ∙ sym c.ok.ensures.value ∙ c.in_err-judged.was)

pub first_of-requires : goal.first_of-requires
first_of-requires c =
    rw c.in_order.ensures (shapes_stand c.args.set _ (search (rules, mapped_length)) (sym (ap result_ok c.admit.ensures) ∙ sym c.ok.ensures.value ∙ c.in_ok-judged.was))

pub returns : goal.returns
returns c =
    c.first_of.ensures
    ∙ ap (λ (o : Ordered). miss_in (tasks_in_order o)) c.in_order.ensures
    ∙ miss_is c.args.set _ (sym (ap result_ok c.admit.ensures) ∙ sym c.ok.ensures.value ∙ c.in_ok-judged.was)
