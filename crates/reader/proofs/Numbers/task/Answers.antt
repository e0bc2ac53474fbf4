-- `task` meets its contract.
use Rattle.std.proofs.Common.{rules, arith, length, ◌≡◌, ◌<◌, ◌∙◌, zero-le}
use Rattle.sheet.specs.Constants.{most_frames}
use Rattle.sheet.proofs.Filled.{none_filled, filled_more}
use Rattle.reader.specs.Inside.Parts.{frame_slots}
use Rattle.reader.proofs.Rows.{frames_many, deadlines_many, time_at, deadline_at, task_made}
use Rattle.reader.proofs.Numbers.task.Goals as goal

pub loop-k-init : goal.loop-k-init
loop-k-init c = (zero-le, c.requires, none_filled _ _ _, none_filled _ _ _)

pub loop-k-preserved : goal.loop-k-preserved
loop-k-preserved c = let a = c.args.self.now in
    let n = c.args.count in
    let h : c.loop-k.k < n = c.loop-k-test.true in
    let few = c.loop-k.invariant.1 in
    let room : length a.frames ≡ frame_slots = search rules in (
      search rules,
      few,
      rw c.loop-k.invariant.2
          (filled_more most_frames 0 _ c.loop-k.k 0 _ (rw (frames_many a.own a.fixed a.frames n room few) h) (omega arith)
          (c.time.ensures ∙ time_at a.own a.fixed a.frames n c.loop-k.k room few h)),
      rw c.loop-k.invariant.3
          (filled_more most_frames 0 _ c.loop-k.k 0 _ (rw (deadlines_many a.own a.fixed a.frames n room few) h) (omega arith)
          (c.deadline.ensures ∙ deadline_at a.own a.fixed a.frames n c.loop-k.k room few h)),
    )

pub returns : goal.returns
returns c = let a = c.args.self.now in
    let room : length a.frames ≡ frame_slots = search rules in
    task_made a.own a.fixed a.frames c.args.count room c.loop-k.invariant.1 _ _ _ c.loop-k.k (omega (arith, c.loop-k.invariant.0)) c.loop-k.invariant.2 c.loop-k.invariant.3 c.lock_field.ensures
