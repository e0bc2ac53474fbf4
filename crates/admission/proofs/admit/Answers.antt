-- `admit` meets its contract.
use Rattle.std.specs.Prelude.{Err, Result}
use Rattle.std.proofs.Common.{◌≡◌, sym, ap, ◌∙◌, rules}
use Rattle.admission.specs.Judged.{judged}
use Rattle.admission.proofs.Answers.{policy_refused, tasks_miscounted, count_refused, counts_admitted, judged_refused}
use Rattle.admission.proofs.admit.Goals as goal
use Rattle.sheet.specs.declared.Refusal.{Refusal}

pub returns-then-not-known_policy : goal.returns-then-not-known_policy
returns-then-not-known_policy c = judged_refused _ _ _ (policy_refused _ (sym c.known_policy.ensures ∙ c.if-not-known_policy.true))

pub returns-then-miscounted : goal.returns-then-miscounted
returns-then-miscounted c =
    judged_refused _ _ _ (tasks_miscounted _ (sym c.known_policy.ensures ∙ c.if-not-known_policy.false) (sym c.miscounted.ensures ∙ c.if-miscounted.true))

pub returns-in_err-frame_counts : goal.returns-in_err-frame_counts
returns-in_err-frame_counts c =
    let refused : c.from_residual.result ≡ Err c.in_err-frame_counts.field-0.0 = search rules in
    refused
    ∙ judged_refused _ _ _
    (count_refused _ (sym c.known_policy.ensures ∙ c.if-not-known_policy.false) (sym c.miscounted.ensures ∙ c.if-miscounted.false) _ c.frame_counts.ensures _ c.in_err-frame_counts.was)

pub returns : goal.returns
returns c =
    c.judge_tasks.ensures
    ∙ ap (λ (a : Result Unit Refusal). judged a c.args.set)
    (sym (counts_admitted _ (sym c.known_policy.ensures ∙ c.if-not-known_policy.false) (sym c.miscounted.ensures ∙ c.if-miscounted.false) _ c.frame_counts.ensures c.in_ok-frame_counts.was))
