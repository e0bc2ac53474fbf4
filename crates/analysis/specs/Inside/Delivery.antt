-- How an analysis comes to lent numbers: its times where there is room for them.
use Rattle.std.specs.Prelude.{List, [], ℕ, Result}
use Rattle.lent.specs.Lent.{Call, answered, left_after}
use Rattle.sheet.specs.declared.Refusal.{Refusal}
use Rattle.sheet.specs.declared.Refusal.TheVariants.{Room}
use Rattle.analysis.specs.Findings.{times_by_number}
use Rattle.analysis.specs.declared.Decision.{Decision}
use Rattle.analysis.specs.declared.Analysis.{Analysis}

abbrev pub decision_in : Analysis → Decision
decision_in a = record { verdict = a.verdict; task_count = a.task_count }

unfoldable pub delivering : Analysis → Call Refusal ℕ Decision
delivering a = record { checks = []; writes = times_by_number a; says = decision_in a }

unfoldable pub delivered_decision : Analysis → List ℕ → Result Decision Refusal
delivered_decision a room = answered Room (delivering a) room

unfoldable pub delivered : Analysis → List ℕ → List ℕ
delivered a room = left_after Room (delivering a) room
