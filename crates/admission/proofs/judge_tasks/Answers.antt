-- `judge_tasks` meets its contract.
use Rattle.std.specs.Prelude.{Err}
use Rattle.std.proofs.Common.{◌≡◌, List, map, length, refl, sym, ap, ◌∙◌, arith, rules}
use Rattle.sheet.specs.Tasks.{task_in}
use Rattle.sheet.specs.Admission.{decided, task_checks}
use Rattle.sheet.specs.declared.Task.{Task as Record}
use Rattle.admission.specs.Judged.{shapes_of}
use Rattle.admission.proofs.Answers.{tasks_all, tasks_pass, tasks_refuse, tasks_end, judged_refused, judged_admitted}
use Rattle.admission.proofs.Shapes.{shapes_none, shapes_more, shapes_all}
use Rattle.admission.proofs.judge_tasks.Goals as goal

pub loop-i-init : goal.loop-i-init
loop-i-init c = (refl, shapes_none _ _ (ap (λ n. record { start = n }) c.default-shapes.ensures))

pub overflow_cast-i : goal.overflow_cast-i
overflow_cast-i c = record { fits = omega (arith, c.tasks_in_use-task-items.ensures.few) }

pub loop-i-preserved : goal.loop-i-preserved
loop-i-preserved c =
    let pass = tasks_pass _ _ _ c.loop-i-test.true _ c.task_answer.ensures _ c.in_ok-shapes.was in
    (pass.0 ∙ c.loop-i.invariant.0, shapes_more _ _ _ _ _ c.loop-i-test.true c.tasks_in_use-task-items.ensures.few c.loop-i.invariant.1 pass.1)

pub returns-in_err-shapes : goal.returns-in_err-shapes
returns-in_err-shapes c =
    let refused : c.from_residual.result ≡ Err c.in_err-shapes.field-0.0 = search rules in
    refused
    ∙ judged_refused _ _ _
    (ap (λ (rs : List Record). decided (task_checks 0 (map task_in rs))) (sym c.tasks_in_use-task-items.ensures.are)
    ∙ sym (tasks_all _) ∙ sym c.loop-i.invariant.0 ∙ tasks_refuse _ _ _ c.loop-i-test.true _ c.task_answer.ensures _ c.in_err-shapes.was)

pub returns : goal.returns
returns c =
    let done : length c.tasks_in_use-task-items.result.now ≡ c.loop-i.i = omega arith in
    judged_admitted _ _ _
    (ap (λ (rs : List Record). decided (task_checks 0 (map task_in rs))) (sym c.tasks_in_use-task-items.ensures.are)
    ∙ sym (tasks_all _) ∙ sym c.loop-i.invariant.0 ∙ tasks_end _ _ c.loop-i-test.false)
    (c.loop-i.invariant.1 ∙ shapes_all _ _ done ∙ ap (λ (rs : List Record). shapes_of (map task_in rs)) c.tasks_in_use-task-items.ensures.are)
