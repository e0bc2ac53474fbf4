-- `work` meets its contract.
use Rattle.std.proofs.Common.{◌≡◌, ◌∙◌, length, arith, rules}
use Rattle.sheet.proofs.Records.{frame_there, frame_is}
use Rattle.worst.proofs.JobWork.{work_free, work_locked}
use Rattle.worst.proofs.Series.work.Goals as goal

pub bounds-task-self : goal.bounds-task-self
bounds-task-self c = let long : length c.args.task.frames ≡ 8 = search rules in omega (arith, frame_there c.args.task _ c.requires)

pub returns-then-self-eq0 : goal.returns-then-self-eq0
returns-then-self-eq0 c = frame_is c.args.task _ c.requires ∙ work_free _ _ _ c.if-self-eq0.true

pub returns-else-self-eq0 : goal.returns-else-self-eq0
returns-else-self-eq0 c = work_locked _ _ _ c.if-self-eq0.false
