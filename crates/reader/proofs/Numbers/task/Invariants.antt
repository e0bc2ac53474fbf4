-- `task` meets its contract.
use Rattle.std.proofs.Common.{◌≡◌, ◌*◌, ◌≤◌, take}
use Rattle.sheet.specs.Constants.{most_frames}
use Rattle.sheet.specs.Fields.{frame_fields}
use Rattle.sheet.specs.Layout.{task_from}
use Rattle.sheet.proofs.Filled.{filled}
use Rattle.reader.proofs.Numbers.task.Given as goal

abbrev pub invariant-loop-k : goal.invariant-loop-k
invariant-loop-k l = let t = task_from l.self.own l.self.fixed (take (frame_fields l.self.own * l.count) l.self.frames) in
    (l.k ≤ l.count) × (l.count ≤ most_frames) × (l.frames ≡ filled most_frames 0 t.frames l.k) × (l.deadlines ≡ filled most_frames 0 t.deadlines l.k)
