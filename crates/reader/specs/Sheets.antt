-- A sheet that is judged: what it carries, with the shape of each task, or the one refusal.
use Rattle.std.specs.Prelude.{List, ℕ, Result}
use Rattle.sheet.specs.Tasks.{set_with}
use Rattle.sheet.specs.Admission.{decided}
use Rattle.sheet.specs.Reading.{sheet_checks, policy_of, tasks_of}
use Rattle.sheet.specs.declared.Refusal.{Refusal}
use Rattle.admission.specs.Judged.{judged}
use Rattle.admission.specs.declared.Judged.{Judged}

-- a sheet by the answer to it
unfoldable pub sheet_judged : List ℕ → Result Judged Refusal
sheet_judged s = judged (decided (sheet_checks s)) (set_with (policy_of s) (tasks_of s))
