-- `soonest` meets its contract: of the tasks before task i, which is released first.
use Rattle.std.proofs.Common.{◌≡◌, ℕ, ◌≤◌, ◌<◌, length}
use Rattle.worst.specs.Inside.Steps.{opens_at}
use Rattle.worst.proofs.soonest.Given as goal

abbrev pub invariant-loop-i : goal.invariant-loop-i
invariant-loop-i l =
    record {
      in_count : l.first < length l.series;
      least : (j : ℕ) → j < l.i → opens_at l.series l.first ≤ opens_at l.series j;
      lowest : (j : ℕ) → j < l.first → opens_at l.series l.first < opens_at l.series j;
      none : l.i ≡ 0 → l.first ≡ 0;
    }
