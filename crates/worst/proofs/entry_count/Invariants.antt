-- `entry_count` meets its contract: the entries of the first tasks are counted.
use Rattle.std.proofs.Common.{◌≡◌}
use Rattle.worst.specs.Inside.Plans.{count_to}
use Rattle.worst.proofs.entry_count.Given as goal

abbrev pub invariant-loop-series : goal.invariant-loop-series
invariant-loop-series l = l.total ≡ count_to l.fn.plan l.series-index
