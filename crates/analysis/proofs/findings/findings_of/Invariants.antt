-- `findings_of` meets its contract: the findings of the places before place p stand.
use Rattle.analysis.proofs.Growing.{Found}
use Rattle.analysis.proofs.findings.findings_of.Given as goal

abbrev pub invariant-loop-p : goal.invariant-loop-p
invariant-loop-p l = Found l.fn.o l.findings l.p
