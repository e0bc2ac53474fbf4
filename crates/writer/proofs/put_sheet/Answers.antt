-- `put_sheet` puts header and records one behind the other, and closes the record.
use Rattle.std.proofs.Common.{rules, ◌≡◌, length}
use Rattle.sheet.specs.Constants.{most_tasks}
use Rattle.sheet.proofs.Records.{mapped_length}
use Rattle.writer.proofs.Admitted.{policy_in, tasks_in}
use Rattle.writer.proofs.Whole.{header_room, records_room, whole}
use Rattle.writer.proofs.put_sheet.Goals as goal

pub put_header-at-requires : goal.put_header-at-requires
put_header-at-requires c = let long : length c.args.set.tasks ≡ most_tasks = search (rules, mapped_length) in
    (c.requires.0, policy_in _ c.requires.1 long, tasks_in _ c.requires.1 long, header_room _ _ c.requires.1 long c.args.bytes.now c.requires.2)

pub put_tasks-end-requires : goal.put_tasks-end-requires
put_tasks-end-requires c = let long : length c.args.set.tasks ≡ most_tasks = search (rules, mapped_length) in
    (c.requires.1, rw c.own_deadlines.ensures (records_room c.args.version _ c.requires.1 long c.args.bytes.now c.requires.2 c.put_header-at.ensures))

pub returns : goal.returns
returns c = let long : length c.args.set.tasks ≡ most_tasks = search (rules, mapped_length) in
    let placed = rw c.own_deadlines.ensures at c.put_tasks-end.ensures in
    whole c.args.version _ c.requires.1 long c.args.bytes.now c.requires.2 c.put_header-at.ensures placed c.close.ensures.1
