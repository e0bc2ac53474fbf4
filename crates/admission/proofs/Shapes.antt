-- The shapes of a set's tasks, found one by one.
use mathlib.Core.List.{List, [], map}
use mathlib.Core.Path.{◌≡◌, refl, sym, ap, ◌∙◌}
use Prim.Native.Nat.{ℕ, ◌+◌, ◌≤◌, ◌<◌}
use native.Mathlib.Omega.{arith}
use lib.ListN.{length, get_or, set, replicate, length-map, get_or-map, get_or-append}
use Rattle.theory.specs.First.{first}
use Rattle.theory.specs.Tasks.{Task, task_at, start_frame, frame_count}
use Rattle.sheet.specs.Constants.{most_tasks}
use Rattle.sheet.specs.Tasks.{task_in}
use Rattle.sheet.specs.declared.Task.{Task as Record}
use Rattle.sheet.proofs.Filled.{filled, none_filled, filled_more, all_filled}
use Rattle.admission.specs.Judged.{shape_of, no_shape, shapes_of}
use Rattle.admission.specs.declared.Shape.{Shape}

module _ (records : List Record) where
  -- those of the first i tasks stand
  unfoldable pub shapes_up_to : ℕ → List Shape
  shapes_up_to i = filled most_tasks no_shape (map shape_of (map task_in records)) i

  pub shapes_none : (blank : Shape) → blank ≡ no_shape → replicate most_tasks blank ≡ shapes_up_to 0
  unfolding shapes_up_to
  shapes_none blank e = rw e (none_filled most_tasks no_shape (map shape_of (map task_in records)))

  many : length (map shape_of (map task_in records)) ≡ length records
  many = length-map (map task_in records) shape_of ∙ length-map records task_in

  pub shapes_more : (shapes : List Shape) (i : ℕ) (d : Record) (shape : Shape) → i < length records → length records ≤ most_tasks → shapes ≡ shapes_up_to i
      → shape ≡ shape_of (task_in (get_or records i d)) → set shapes i shape ≡ shapes_up_to (i + 1)
  unfolding shapes_up_to
  shapes_more shapes i d shape h few e es =
      rw e (filled_more most_tasks no_shape (map shape_of (map task_in records)) i (shape_of (task_in d)) shape (rw many h) (omega arith)
      (es ∙ sym (get_or-map shape_of (map task_in records) i (task_in d) ∙ ap shape_of (get_or-map task_in records i d))))

  pub shapes_all : (i : ℕ) → length records ≡ i → shapes_up_to i ≡ shapes_of (map task_in records)
  unfolding shapes_up_to shapes_of
  shapes_all i e =
      rw (all_filled most_tasks no_shape (map shape_of (map task_in records)) i (many ∙ e), length-map (map task_in records) shape_of)

-- the shape at a task's number is the task's
pub shape_there : (tasks : List Task) (i : ℕ) → i < length tasks → get_or (shapes_of tasks) i no_shape ≡ shape_of (task_at tasks i)
unfolding shapes_of task_at shape_of start_frame frame_count first
shape_there tasks i h =
    get_or-append (map shape_of tasks) _ no_shape i (rw (length-map tasks shape_of) h)
    ∙ ap (λ (x : Shape). get_or (map shape_of tasks) i x) none
    ∙ get_or-map shape_of tasks i (record { period = 0; lock = 0; frames = []; deadlines = [] })
  where
    none : no_shape ≡ shape_of (record { period = 0; lock = 0; frames = []; deadlines = [] })
    none = refl
