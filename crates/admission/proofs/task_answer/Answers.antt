-- `task_answer` meets its contract: 9, 10 and 11 in this order.
use Rattle.std.proofs.Common.{sym, ap, ◌∙◌, le-leb}
use Rattle.std.proofs.lemmas.Bool.{lt-leb}
use Rattle.theory.specs.Tasks.{largest}
use Rattle.sheet.specs.Tasks.{task_in}
use Rattle.admission.proofs.Answers.{ill_formed, lock_above, no_start, with_start}
use Rattle.admission.proofs.task_answer.Goals as goal

pub returns-then-not-well_formed : goal.returns-then-not-well_formed
returns-then-not-well_formed c = ill_formed _ _ (sym c.well_formed-2.ensures ∙ c.if-not-well_formed.true)

pub returns-then-largest-task : goal.returns-then-largest-task
unfolding task_in
returns-then-largest-task c =
    lock_above _ _ (sym c.well_formed-2.ensures ∙ c.if-not-well_formed.false) _ (c.largest.ensures ∙ ap largest c.frames_in_use.ensures.are) (lt-leb _ _ c.if-largest-task.true)

pub returns-in-Ok : goal.returns-in-Ok
unfolding task_in
returns-in-Ok c =
    with_start _ _ (sym c.well_formed-2.ensures ∙ c.if-not-well_formed.false) _ (c.largest.ensures ∙ ap largest c.frames_in_use.ensures.are) (le-leb _ _ c.if-largest-task.false) _
    (sym c.start_frame.ensures ∙ c.in-Ok.is)

pub returns-in-Err : goal.returns-in-Err
unfolding task_in
returns-in-Err c =
    no_start _ _ (sym c.well_formed-2.ensures ∙ c.if-not-well_formed.false) _ (c.largest.ensures ∙ ap largest c.frames_in_use.ensures.are) (le-leb _ _ c.if-largest-task.false) _
    (sym c.start_frame.ensures ∙ c.in-Err.is)
