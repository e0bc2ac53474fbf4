-- `put_entries` meets its contract: the entries before the next one are written.
use Rattle.std.proofs.Common.{◌+◌, ◌-◌, length}
use Rattle.scripts.specs.Writing.{entries_bits}
use Rattle.worst.specs.Inside.Plans.{plan_entries}
use Rattle.worst.proofs.Written.{Ready}
use Rattle.worst.proofs.put_entries.Given as goal

abbrev pub invariant-loop-series : goal.invariant-loop-series
invariant-loop-series l = Ready l.fn.plan l.fn.bytes l.at l.bytes l.series l.end l.i

abbrev pub decreases-loop-series : goal.decreases-loop-series
decreases-loop-series l = l.at + length (entries_bits (plan_entries l.fn.plan)) - l.end
