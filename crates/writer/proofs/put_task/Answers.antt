-- `put_task` puts a record's two rows.
use Rattle.std.proofs.Common.{rules, ◌*◌, ℕ, ap}
use Rattle.records.proofs.Putting.{row_placed}
use Rattle.writer.proofs.Tasks.{Slots, Widths, Numbers, fixed_can, frames_can, rows_placed}
use Rattle.writer.proofs.put_task.Goals as goal

pub returns : goal.returns
returns c = let a = c.args in
    let slots : Slots a.task = record { frames = search rules; deadlines = search rules } in
    let fields = ap (λ (n : ℕ). n * a.task.frame_count) c.frame_fields.ensures in
    let widths : Widths a.own a.task _ _ _ _ =
    record { fixed_fields = c.fixed_fields-fields.ensures; fixed = c.fixed_widths-widths.ensures; frame_fields_of = fields; frames = c.frame_widths-frame_widths.ensures } in
    let numbers : Numbers a.own a.task _ _ = record { fixed = c.fixed_numbers-fixed.ensures; frames = c.frame_numbers-numbers.ensures } in
    let fixed = row_placed a.bytes.now _ _ _ (fixed_can a.own a.task c.requires.1 slots c.requires.0 c.requires.2 widths numbers a.bytes.now _ c.requires.3) c.append_row-next.ensures in
    let frames = row_placed _ _ _ _ (frames_can a.own a.task c.requires.1 slots c.requires.0 c.requires.2 widths numbers a.bytes.now _ c.requires.3 fixed) c.append_row.ensures in
    rows_placed a.own a.task c.requires.1 slots c.requires.0 c.requires.2 widths numbers a.bytes.now _ c.requires.3 fixed frames
