-- `put_task_times` meets its contract: after k times, these stand first.
use Rattle.std.proofs.Common.{◌≡◌}
use Rattle.workbench.proofs.Four.{fours}
use Rattle.workbench.proofs.put_task_times.Given as goal

abbrev pub invariant-loop-k : goal.invariant-loop-k
invariant-loop-k l = l.bytes ≡ fours l.initial.bytes l.times l.k
