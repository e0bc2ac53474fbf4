-- `frame_without` meets its contract: every frame before frame k has a response time.
use Rattle.std.proofs.Common.{◌<◌, arith, rules}
use Rattle.theory.specs.Tasks.{frame_count}
use Rattle.sheet.specs.Tasks.{task_in}
use Rattle.sheet.proofs.Records.{frames_few, frame_is}
use Rattle.analysis.proofs.ByPlace.{frame_counts}
use Rattle.analysis.proofs.MissedFrames.{none_looked, seen_of, one_has, found_without, all_have}
use Rattle.analysis.proofs.misses.frame_without.Goals as goal

pub loop-k-init : goal.loop-k-init
loop-k-init c tallies = none_looked _ _ _

pub offset_bounds-task-k : goal.offset_bounds-task-k
offset_bounds-task-k c = record { fits = omega (arith, c.frame_count-k-end.ensures, frames_few c.args.task (search rules)) }

pub bounds-task-k : goal.bounds-task-k
bounds-task-k c = omega (arith, c.frame_count-k-end.ensures, frames_few c.args.task (search rules))

-- frame k is one of the task's
pub respond-requires : goal.respond-requires
respond-requires c = (c.requires.0, frame_counts _ _ c.requires.1 (omega (arith, c.frame_count-k-end.ensures)))

pub overflow_cast-result : goal.overflow_cast-result
overflow_cast-result c = record { fits = omega (arith, c.frame_count-k-end.ensures, frames_few c.args.task (search rules)) }

pub returns-then-is_none : goal.returns-then-is_none
returns-then-is_none c tallies =
    let counted : c.loop-k.k < frame_count (task_in c.args.task) = omega (arith, c.frame_count-k-end.ensures) in
    found_without _ _ _ _ (c.loop-k.invariant tallies) counted (seen_of _ _ _ c.loop-k.k (frame_is _ _ counted) c.deadline_of-deadline.ensures (c.respond.ensures tallies) c.if-is_none.ensures)

pub loop-k-preserved : goal.loop-k-preserved
loop-k-preserved c tallies =
    let counted : c.loop-k.k < frame_count (task_in c.args.task) = omega (arith, c.frame_count-k-end.ensures) in
    one_has _ _ _ _ (c.loop-k.invariant tallies) (seen_of _ _ _ c.loop-k.k (frame_is _ _ counted) c.deadline_of-deadline.ensures (c.respond.ensures tallies) c.if-is_none.ensures)

pub returns : goal.returns
returns c tallies = all_have _ _ _ _ (c.loop-k.invariant tallies) (omega (arith, c.frame_count-k-end.ensures))
