-- `as_before` meets its contract.
use Rattle.std.proofs.Common.{◌≡◌, ℕ, ◌-◌, ◌<◌, ◌&&◌, nat_eq, get_or, leb, ap₂, ◌∙◌, arith, rules}
use Rattle.theory.specs.Tasks.{frame_count, frame}
use Rattle.sheet.specs.Tasks.{task_in}
use Rattle.sheet.specs.declared.Task.{Task}
use Rattle.sheet.proofs.Records.{frame_is, frames_few}
use Rattle.analysis.proofs.ByPlace.{first_alone, later_time, other_time, same_deadline}
use Rattle.analysis.proofs.findings.as_before.Goals as goal
use Rattle.analysis.proofs.findings.as_before.Goals.{then-k-ne0, else-k-ne0}

pub offset_bounds-task-k : goal.offset_bounds-task-k
offset_bounds-task-k c = record { fits = omega (arith, c.requires, frames_few c.args.task (search rules)) }

pub bounds-task-k : goal.bounds-task-k
bounds-task-k c = omega (arith, c.requires, frames_few c.args.task (search rules))

pub offset_bounds-task-k-then-k-ne0 : goal.offset_bounds-task-k-then-k-ne0
offset_bounds-task-k-then-k-ne0 c = record { fits = omega (arith, c.requires, frames_few c.args.task (search rules)) }

pub bounds-task-k-then-k-ne0 : goal.bounds-task-k-then-k-ne0
bounds-task-k-then-k-ne0 c = omega (arith, c.requires, frames_few c.args.task (search rules))

-- what stands in the slots is what the definition compares
same_frame : (t : Task) (k : ℕ) → k < frame_count (task_in t) → nat_eq (get_or t.frames k 0) (get_or t.frames (k - 1) 0) ≡ nat_eq (frame (task_in t) k) (frame (task_in t) (k - 1))
same_frame t k h = let last : k - 1 < frame_count (task_in t) = omega arith in ap₂ (λ (a b : ℕ). nat_eq a b) (frame_is t k h) (frame_is t (k - 1) last)

pub returns-then-task-k : goal.returns-then-task-k
returns-then-task-k c =
    let timed : c.if-k-ne0.value ≡ (leb 1 c.args.k && nat_eq (frame (task_in c.args.task) c.args.k) (frame (task_in c.args.task) (c.args.k - 1))) = elim c.if-k-ne0.branch [
      | then-k-ne0 w ↦ w.value-is ∙ same_frame c.args.task c.args.k c.requires ∙ later_time _ _ w.if-k-ne0.true
      | else-k-ne0 w ↦ w.value-is ∙ first_alone _ _ w.if-k-ne0.false
    ] in
    ap₂ (λ (d e : ℕ). nat_eq d e) c.deadline_of.ensures c.deadline_of-then-task-k.ensures ∙ same_deadline _ _ timed c.if-task-k.true

pub returns-else-task-k : goal.returns-else-task-k
returns-else-task-k c =
    let timed : c.if-k-ne0.value ≡ (leb 1 c.args.k && nat_eq (frame (task_in c.args.task) c.args.k) (frame (task_in c.args.task) (c.args.k - 1))) = elim c.if-k-ne0.branch [
      | then-k-ne0 w ↦ w.value-is ∙ same_frame c.args.task c.args.k c.requires ∙ later_time _ _ w.if-k-ne0.true
      | else-k-ne0 w ↦ w.value-is ∙ first_alone _ _ w.if-k-ne0.false
    ] in
    other_time _ _ timed c.if-task-k.false
