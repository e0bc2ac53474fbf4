-- `task_width` counts the bits of a record.
use Rattle.std.proofs.Common.{rules, arith, ◌*◌, ℕ, ap}
use Rattle.writer.proofs.Tasks.{Slots, Widths, width_small, width_is}
use Rattle.writer.proofs.task_width.Goals as goal

pub overflow_add-result : goal.overflow_add-result
overflow_add-result c = let a = c.args in
    let slots : Slots a.task = record { frames = search rules; deadlines = search rules } in
    let fields = ap (λ (n : ℕ). n * a.task.frame_count) c.frame_fields.ensures in
    let widths : Widths a.own a.task _ _ _ _ =
    record { fixed_fields = c.fixed_fields.ensures; fixed = c.fixed_widths-widths.ensures; frame_fields_of = fields; frames = c.frame_widths-frame_widths.ensures } in
    record { fits = omega (arith, width_small a.own a.task c.requires slots widths _ _ c.width_of-fixed.ensures c.width_of.ensures) }

pub returns : goal.returns
returns c = let a = c.args in
    let slots : Slots a.task = record { frames = search rules; deadlines = search rules } in
    let fields = ap (λ (n : ℕ). n * a.task.frame_count) c.frame_fields.ensures in
    let widths : Widths a.own a.task _ _ _ _ =
    record { fixed_fields = c.fixed_fields.ensures; fixed = c.fixed_widths-widths.ensures; frame_fields_of = fields; frames = c.frame_widths-frame_widths.ensures } in
    width_is a.own a.task c.requires slots widths _ _ c.width_of-fixed.ensures c.width_of.ensures
