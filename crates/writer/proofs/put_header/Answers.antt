-- `put_header` puts the header's row.
use Rattle.records.proofs.Putting.{row_placed}
use Rattle.writer.proofs.Whole.{header_can, header_placed}
use Rattle.writer.proofs.put_header.Goals as goal

pub returns : goal.returns
returns c = header_placed _ _ _ _ c.header_widths-widths.ensures
    (row_placed c.args.bytes.now _ _ _ (header_can _ _ _ _ _ c.header_widths-widths.ensures c.requires.0 c.requires.1 c.requires.2 c.requires.3) c.append_row.ensures)
