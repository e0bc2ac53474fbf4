-- `put_script` puts head and entries one behind the other, and closes the record.
use Rattle.worst.proofs.Whole.{head_room, entries_room, whole}
use Rattle.worst.proofs.put_script.Goals as goal

pub put_head-at-requires : goal.put_head-at-requires
put_head-at-requires c = (c.requires.0, c.requires.1, head_room c.args.plan c.requires.0 c.args.bytes.now c.requires.2)

pub put_entries-end-requires : goal.put_entries-end-requires
put_entries-end-requires c = (c.requires.0, entries_room c.args.plan c.requires.0 c.args.bytes.now c.requires.2 c.put_head-at.ensures)

pub returns : goal.returns
returns c = whole c.args.plan c.requires.0 c.args.bytes.now c.requires.2 c.put_head-at.ensures c.put_entries-end.ensures c.close.ensures.1
