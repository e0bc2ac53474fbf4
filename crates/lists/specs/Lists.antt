-- Lent lists of task records: a list gathered into a set by value, and a set scattered into a list.
use Rattle.std.specs.Prelude.{List, [], ◌∷◌, ℕ, suc, min, ltb, length, take, replicate}
use Rattle.lent.specs.Checks.{◌⇒◌}
use Rattle.lent.specs.Lent.{Call, laid, left_after}
use Rattle.sheet.specs.Constants.{most_tasks}
use Rattle.sheet.specs.Tasks.{blank_record, records_of}
use Rattle.sheet.specs.declared.Task.{Task}
use Rattle.sheet.specs.declared.TaskSet.{TaskSet}

-- a list as a set by value: its first sixteen records, and its length, or 17 for all that are longer
unfoldable pub gathered_of : ℕ → List Task → TaskSet
gathered_of policy list =
    record {
      policy = policy;
      task_count = min (length list) (suc most_tasks);
      tasks = laid (take most_tasks list) (replicate most_tasks blank_record);
    }

-- a set put into a list: its records in use; turned away where it counts more than a set can hold
unfoldable pub scattering : TaskSet → Call (Unit {0}) Task (Unit {0})
scattering s = record { checks = (ltb most_tasks s.task_count ⇒ tt) ∷ []; writes = records_of s; says = tt }

-- the list afterwards
unfoldable pub scattered_of : TaskSet → List Task → List Task
scattered_of s list = left_after tt (scattering s) list
