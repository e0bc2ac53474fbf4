-- Before the sums of one more frame are compared, both are sums of as many frames, and what is left to compare decides.
use Rattle.std.proofs.Common.{◌≡◌}
use Rattle.admission.specs.Inside.Frames.{of_frames, from_at_least}
use Rattle.admission.proofs.Sums.{Summed, left_to}
use Rattle.admission.proofs.at_least.Given as goal

abbrev pub invariant-loop : goal.invariant-loop
invariant-loop l = Summed l.frames l.s l.counter l.sum_s l.i
    × Summed l.frames l.k l.counter l.sum_k l.j
    × (left_to l.frames l.s l.k l.counter ≡ from_at_least (of_frames l.frames) l.s l.k)
