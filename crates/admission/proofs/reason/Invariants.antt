-- Lengths n on are left to try.
use Rattle.std.proofs.Common.{◌≡◌, ◌+◌, ◌-◌, ◌≤◌, length}
use Rattle.theory.specs.First.{first}
use Rattle.theory.specs.Reason.{exceeded}
use Rattle.theory.proofs.Reason.{exceeded_at}
use Rattle.admission.specs.Inside.Frames.{of_frames}
use Rattle.admission.proofs.reason.Given as goal

abbrev pub invariant-loop-n : goal.invariant-loop-n
invariant-loop-n l = (1 ≤ l.n) × (first l.n (length l.frames + 1 - l.n) (exceeded_at (of_frames l.frames) l.largest) ≡ exceeded (of_frames l.frames) l.largest)
