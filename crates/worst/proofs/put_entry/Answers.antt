-- `put_entry` puts an entry's row.
use Rattle.records.proofs.Putting.{row_placed}
use Rattle.worst.proofs.Putting.{entry_can, entry_placed}
use Rattle.worst.proofs.put_entry.Goals as goal

pub returns : goal.returns
returns c = entry_placed _ _ _ c.entry_widths-widths.ensures c.entry_numbers-numbers.ensures
    (row_placed c.args.bytes.now _ _ _ (entry_can _ _ _ c.entry_widths-widths.ensures c.entry_numbers-numbers.ensures _ _ c.requires.0 c.requires.1) c.append_row.ensures)
