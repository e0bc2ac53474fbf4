-- `sheet_size` counts the bits of a set's header and records.
use Rattle.std.proofs.Common.{rules, ◌≡◌, Bool, ap, length, get_or, arith, ◌∙◌}
use Rattle.sheet.specs.Constants.{most_tasks}
use Rattle.sheet.specs.Tasks.{task_in, no_record}
use Rattle.sheet.specs.Writing.{task_bits}
use Rattle.sheet.proofs.Records.{mapped_length}
use Rattle.writer.proofs.Admitted.{puttable}
use Rattle.writer.proofs.Sets.{bits_most}
use Rattle.writer.proofs.Turns.{counted_none, counted_within, counted_more, counted_size}
use Rattle.writer.proofs.sheet_size.Goals as goal

pub loop-task-init : goal.loop-task-init
loop-task-init c = counted_none _ _ _ _ c.header_widths.ensures c.width_of-bits.ensures

pub task_width-bits-requires : goal.task_width-bits-requires
task_width-bits-requires c = let long : length c.args.set.tasks ≡ most_tasks = search (rules, mapped_length) in
    (puttable _ c.requires long _ c.tasks_in_use-task-items.ensures.are _ _ c.loop-task-test.true).few

pub overflow_add-bits : goal.overflow_add-bits
overflow_add-bits c = let long : length c.args.set.tasks ≡ most_tasks = search (rules, mapped_length) in
    let width = c.task_width-bits.ensures ∙ ap (λ (b : Bool). length (task_bits b (task_in (get_or c.tasks_in_use-task-items.result.now c.loop-task.task-index no_record)))) c.own_deadlines-own.ensures in
    let most = rw (← c.tasks_in_use-task-items.ensures.are) at (bits_most c.args.version _ c.requires long) in
    record { fits = omega (arith, most, counted_within _ _ c.loop-task.invariant _ c.loop-task-test.true _ width) }

pub loop-task-preserved : goal.loop-task-preserved
loop-task-preserved c =
    counted_more _ _ c.loop-task.invariant _ c.loop-task-test.true _
    (c.task_width-bits.ensures ∙ ap (λ (b : Bool). length (task_bits b (task_in (get_or c.tasks_in_use-task-items.result.now c.loop-task.task-index no_record)))) c.own_deadlines-own.ensures)

pub returns : goal.returns
returns c = let are = c.tasks_in_use-task-items.ensures.are in
    c.sealed_size.ensures ∙ counted_size _ _ (rw are at c.loop-task.invariant) (rw are at c.loop-task-test.false)
