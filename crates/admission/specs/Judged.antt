-- What is found of a set that is judged: of one that is admitted the shape of each task's frames.
use Rattle.std.specs.Prelude.{List, ◌++◌, map, ◌-◌, length, replicate, Err, Ok, Result}
use Rattle.theory.specs.Tasks.{Task, start_frame}
use Rattle.sheet.specs.Constants.{most_tasks}
use Rattle.sheet.specs.Tasks.{task_in, records_of}
use Rattle.sheet.specs.declared.Refusal.{Refusal}
use Rattle.sheet.specs.declared.TaskSet.{TaskSet}
use Rattle.admission.specs.declared.Shape.{Shape}
use Rattle.admission.specs.declared.Judged.{Judged}

-- the start frame of a task
unfoldable pub shape_of : Task → Shape
shape_of t = record { start = start_frame t }

-- where there is no task
abbrev pub no_shape : Shape
no_shape = record { start = 0 }

-- the shapes of tasks, in room for sixteen
unfoldable pub shapes_of : List Task → List Shape
shapes_of tasks = map shape_of tasks ++ replicate (most_tasks - length tasks) no_shape

-- a set by the answer to it
unfoldable pub judged : Result Unit Refusal → TaskSet → Result Judged Refusal
judged (Ok _) s = Ok (record { set = s; shapes = shapes_of (map task_in (records_of s)) })
judged (Err why) s = Err why
