-- Tasks and the records that hold them (SCOPE.md, "A task and a set").
use Rattle.std.specs.Prelude.{ℕ, suc, ◌-◌, cond, List, [], ◌++◌, map, length, take, replicate, nat_lt}
use Rattle.theory.specs.Tasks.{Task}
use Rattle.sheet.specs.Constants.{most_tasks, most_frames}
use Rattle.sheet.specs.declared.Task.{Task as Record}
use Rattle.sheet.specs.declared.TaskSet.{TaskSet}

-- the task that a record holds: slots of frames and of deadlines past its count are not read
unfoldable pub task_in : Record → Task
task_in r =
    record {
      period = r.period;
      lock = r.lock;
      frames = take r.frame_count r.frames;
      deadlines = take r.frame_count r.deadlines;
    }

-- eight slots for the numbers of a task's frames: those past its count are 0
unfoldable pub in_slots : List ℕ → List ℕ
in_slots ns = ns ++ replicate (most_frames - length ns) 0

-- the record of a task
unfoldable pub record_of : Task → Record
record_of t =
    record {
      period = t.period;
      lock = t.lock;
      frame_count = length t.frames;
      frames = in_slots t.frames;
      deadlines = in_slots t.deadlines;
    }

-- a record of zeros
unfoldable pub blank_record : Record
blank_record = record { period = 0; lock = 0; frame_count = 0; frames = replicate most_frames 0; deadlines = replicate most_frames 0 }

-- what stands past the end of an array of records: nothing reads it
abbrev pub no_record : Record
no_record = record { period = 0; lock = 0; frame_count = 0; frames = []; deadlines = [] }

-- the number that follows k in a round of n numbers: of k below n the remainder of suc k by n, as `next_frame` of the theory says
unfoldable pub next_round : ℕ → ℕ → ℕ
next_round k n = cond (nat_lt (suc k) n) (suc k) 0

-- the records of a set by value that are in use
unfoldable pub records_of : TaskSet → List Record
records_of s = take s.task_count s.tasks

-- a policy and tasks as a set by value
unfoldable pub set_with : ℕ → List Task → TaskSet
set_with policy tasks =
    record {
      policy = policy;
      task_count = length tasks;
      tasks = map record_of tasks ++ replicate (most_tasks - length tasks) blank_record;
    }

-- a set by value with no task
unfoldable pub blank_set : TaskSet
blank_set = set_with 0 []
