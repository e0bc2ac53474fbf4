-- What the analysis finds of each task, by place in the priority order; from this the times by task number and the report's lines are taken.
use Rattle.std.specs.Prelude.{Bool, List, [], ◌∷◌, ◌++◌, map, ℕ, zero, suc, ◌-◌, length, get_or, take, replicate, None, is_none}
use Rattle.theory.specs.Tasks.{Task, task_at, frame_count, shortest_deadline}
use Rattle.theory.specs.Analysis.{lower, blocking}
use Rattle.sheet.specs.Constants.{most_tasks}
use Rattle.analysis.specs.Times.{number_at, place_of, slots_found, written_slots}
use Rattle.analysis.specs.declared.Finding.{Finding}
use Rattle.analysis.specs.declared.Analysis.{Analysis}

-- of the task at place p of a set, with the task numbers in priority order
unfoldable pub finding_at : List ℕ → List Task → ℕ → Finding
finding_at order set p =
    let t = task_at set p in
    record {
      number = number_at order p;
      period = t.period;
      deadline = shortest_deadline t;
      frame_count = frame_count t;
      blocked = blocking (lower set p);
      times = slots_found set p;
    }

-- of a place without a task
abbrev pub no_finding : Finding
no_finding = record { number = 0; period = 0; deadline = 0; frame_count = 0; blocked = 0; times = None }

-- its task does not pass
abbrev pub fails : Finding → Bool
fails f = is_none f.times

-- of n places, from place p on
unfoldable pub findings_from : List ℕ → List Task → ℕ → ℕ → List Finding
findings_from order set p zero = []
findings_from order set p (suc n) = finding_at order set p ∷ findings_from order set (suc p) n

-- of all places, in room for sixteen
unfoldable pub findings_of : List ℕ → List Task → List Finding
findings_of order set = findings_from order set 0 (length set) ++ replicate (most_tasks - length set) no_finding

-- ---- by task number

-- the finding of a place
abbrev pub finding_in : Analysis → ℕ → Finding
finding_in a p = get_or a.findings p no_finding

-- its eight slots as they are written
abbrev pub slots_in : Analysis → ℕ → List ℕ
slots_in a p = written_slots (finding_in a p).times

-- the task numbers in priority order
unfoldable pub numbers_found : Analysis → List ℕ
numbers_found a = map (λ f. f.number) (take a.task_count a.findings)

-- rows one after another: those of the n numbers from i on
unfoldable pub in_turn : {A : Type 0} → (ℕ → List A) → ℕ → ℕ → List A
in_turn row i zero = []
in_turn row i (suc n) = row i ++ in_turn row (suc i) n

-- the times of all tasks in task-number order
unfoldable pub times_by_number : Analysis → List ℕ
times_by_number a = in_turn (λ i. slots_in a (place_of (numbers_found a) i)) 0 a.task_count
