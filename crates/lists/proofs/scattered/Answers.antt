-- `scattered` meets its contract: the records go, or do not fit.
use Rattle.std.proofs.Common.{◌≡◌, length, sym, rules}
use Rattle.sheet.specs.Constants.{most_tasks}
use Rattle.lists.proofs.Laws.{scattered_many, scattered_short, scattered_first}
use Rattle.lists.proofs.scattered.Goals as goal
use Rattle.lists.proofs.scattered.Goals.{else-count-le-TASK_ROOM-via-then-count-le-TASK_ROOM+else-count-list, else-count-le-TASK_ROOM-via-else-count-le-TASK_ROOM}

pub returns-then-count-list : goal.returns-then-count-list
returns-then-count-list c =
    let sixteen : length c.args.set.tasks ≡ most_tasks = search rules in
    rw c.copy_from_slice.ensures.after (sym (scattered_first c.args.set c.args.list.now sixteen c.if-count-le-TASK_ROOM.true c.if-count-list.true))

pub returns-else-count-le-TASK_ROOM : goal.returns-else-count-le-TASK_ROOM
returns-else-count-le-TASK_ROOM c =
    let sixteen : length c.args.set.tasks ≡ most_tasks = search rules in
    elim c.else-count-le-TASK_ROOM.branch [
      | else-count-le-TASK_ROOM-via-then-count-le-TASK_ROOM+else-count-list w ↦ sym (scattered_short c.args.set c.args.list.now sixteen w.if-count-le-TASK_ROOM.true w.if-count-list.false)
      | else-count-le-TASK_ROOM-via-else-count-le-TASK_ROOM w ↦ sym (scattered_many c.args.set c.args.list.now sixteen w.if-count-le-TASK_ROOM.false)
    ]
