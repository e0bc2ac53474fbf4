-- What the functions below the public ones answer.
use Rattle.std.specs.Prelude.{[], ◌∷◌, ℕ, Err, Ok, Result}
use Rattle.theory.specs.Tasks.{Task}
use Rattle.sheet.specs.Admission.{decided, task_checks}
use Rattle.admission.specs.Judged.{shape_of}
use Rattle.sheet.specs.declared.Refusal.{Refusal}
use Rattle.admission.specs.declared.Shape.{Shape}

-- the shape of a task by the answer to it
abbrev pub by_answer : Result Unit Refusal → Task → Result Shape Refusal
by_answer (Ok _) t = Ok (shape_of t)
by_answer (Err why) t = Err why

-- the answer to task i alone
unfoldable pub task_answer : ℕ → Task → Result Shape Refusal
task_answer i t = by_answer (decided (task_checks i (t ∷ []))) t
