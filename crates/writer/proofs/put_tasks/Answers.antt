-- `put_tasks` puts the records of a set one after another.
use Rattle.std.proofs.Common.{rules, ◌≡◌, length}
use Rattle.sheet.specs.Constants.{most_tasks}
use Rattle.sheet.proofs.Records.{mapped_length}
use Rattle.writer.proofs.Admitted.{puttable}
use Rattle.writer.proofs.Turns.{stand_none, stand_space, stand_more, stand_all}
use Rattle.writer.proofs.put_tasks.Goals as goal

pub loop-task-init : goal.loop-task-init
loop-task-init c = stand_none _ _ _ _

pub put_task-next-requires : goal.put_task-next-requires
put_task-next-requires c = let long : length c.args.set.tasks ≡ most_tasks = search (rules, mapped_length) in
    let are = c.tasks_in_use-task-items.ensures.are in
    let r = puttable _ c.requires.0 long _ are _ _ c.loop-task-test.true in
    (r.some, r.few, r.ranged, stand_space _ _ _ _ (rw are c.requires.1) c.loop-task.invariant _ c.loop-task-test.true)

pub loop-task-preserved : goal.loop-task-preserved
loop-task-preserved c = let are = c.tasks_in_use-task-items.ensures.are in
    stand_more _ _ _ _ (rw are c.requires.1) c.loop-task.invariant _ c.loop-task-test.true c.put_task-next.auto.bytes c.put_task-next.ensures

pub returns : goal.returns
returns c = rw c.tasks_in_use-task-items.ensures.are at (stand_all _ c.loop-task.invariant c.loop-task-test.false)
