-- Each turn reads at least a byte, into what is left of the sheet's room.
use Rattle.std.proofs.Common.{◌-◌, ◌≤◌, length}
use Rattle.report.proofs.read_sheet.Given as goal

abbrev pub invariant-loop-done : goal.invariant-loop-done
invariant-loop-done l = l.done ≤ length l.sheet

abbrev pub decreases-loop-done : goal.decreases-loop-done
decreases-loop-done l = length l.sheet - l.done
