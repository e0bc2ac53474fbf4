-- `frame_row` meets its contract.
use Rattle.std.proofs.Common.{ap, ◌∙◌}
use Rattle.reader.specs.Inside.Parts.{row_at, frame_slots}
use Rattle.reader.proofs.Rows.{frames_first}
use Rattle.reader.proofs.frame_row.Goals as goal

pub returns : goal.returns
returns c = c.row_at.ensures
    ∙ ap (row_at frame_slots c.args.body.now c.args.at) (frames_first c.args.own _ _ _ c.requires c.frame_fields.ensures c.frame_widths-widths.ensures)
