-- `well_formed` meets its contract.
use Rattle.std.proofs.Common.{◌≡◌, ℕ, false, ◌&&◌, List, sym, ap₂, inl, inr, ◌∙◌, rules}
use Rattle.sheet.specs.Tasks.{task_in}
use Rattle.sheet.specs.Admission.{in_range, well_formed}
use Rattle.sheet.proofs.Records.{as_many_slots}
use Rattle.admission.specs.Inside.Frames.{all_between}
use Rattle.admission.proofs.Fits.{not_a_time, long_lock, frames_decide}
use Rattle.admission.proofs.well_formed.Goals as goal

pub returns-then-task-le-GREATEST_TIME : goal.returns-then-task-le-GREATEST_TIME
unfolding task_in
returns-then-task-le-GREATEST_TIME c =
    let task = c.args.task in
    let inside = c.if-task-le-GREATEST_TIME.true in
    c.frames_between.ensures
    ∙ ap₂ (λ (fs ds : List ℕ). all_between task.period fs ds) c.frames_in_use.ensures.are c.deadlines_in_use.ensures.are
    ∙ frames_decide (task_in task) (as_many_slots task (search rules) (search rules)) (sym c.is_time.ensures ∙ inside.0) inside.1

pub returns-else-task-le-GREATEST_TIME : goal.returns-else-task-le-GREATEST_TIME
unfolding task_in
returns-else-task-le-GREATEST_TIME c =
    let task = task_in c.args.task in
    let turned_away : (in_range task && well_formed task) ≡ false = elim c.if-task-le-GREATEST_TIME.either [ inl above ↦ long_lock task above.1 | inr none ↦ not_a_time task (sym c.is_time.ensures ∙ none) ] in
    cc
