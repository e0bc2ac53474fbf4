-- What the shape of a task says.
use mathlib.Core.Path.{◌≡◌, ap}
use Rattle.theory.specs.Tasks.{Task, start_frame}
use Rattle.admission.specs.Judged.{shape_of}
use Rattle.admission.specs.declared.Shape.{Shape}

-- the start frame of a shape is the task's
pub shape_start : (s : Shape) (t : Task) → s ≡ shape_of t → s.start ≡ start_frame t
unfolding shape_of
shape_start s t e = ap (λ (x : Shape). x.start) e
