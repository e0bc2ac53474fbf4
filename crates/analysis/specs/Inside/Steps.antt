-- What the steps from a judged set to its findings ask and hand on.
use Rattle.std.specs.Prelude.{Bool, not, ◌&&◌, List, [], ◌∷◌, map, ◌≡◌, ℕ, zero, suc, ◌-◌, ◌≤◌, ◌<◌, leb, eqb, length, get_or, Ok, Option, unwrap_or}
use Rattle.theory.specs.First.{first, every, found}
use Rattle.theory.specs.Tasks.{Task, task_at, frame_count, frame, deadline_of, shortest_deadline, AdmittedTask}
use Rattle.theory.specs.Analysis.{Higher, from_start}
use Rattle.sheet.specs.Constants.{most_tasks}
use Rattle.sheet.specs.Tasks.{task_in, records_of}
use Rattle.sheet.specs.Admission.{admission}
use Rattle.admission.specs.Judged.{shape_of, no_shape, shapes_of}
use Rattle.admission.specs.declared.Judged.{Judged}
use Rattle.admission.specs.declared.Shape.{Shape}
use Rattle.order.specs.Ordered.{tasks_in_order, numbers_of}
use Rattle.order.specs.declared.Ordered.{Ordered}
use Rattle.analysis.specs.Inside.Response.{frame_response}
use Rattle.analysis.specs.Inside.Demand.{Counted, no_tally}
use Rattle.analysis.specs.Times.{number_at, slots_by}
use Rattle.analysis.specs.declared.Finding.{Finding}
use Rattle.analysis.specs.declared.demand.Tally.{Tally}

-- a set that was judged: it is admitted, and with it are the shapes of its tasks
pub record RightlyJudged (j : Judged) : Type 0 where
  pub admits : admission j.set ≡ Ok tt
  pub shapes_are : j.shapes ≡ shapes_of (map task_in (records_of j.set))

-- an ordered set and its shapes by number: there is room for its tasks, each is admitted, and at its number stands its shape
pub record ShapesStand (o : Ordered) (shapes : List Shape) : Type 0 where
  pub few : length (tasks_in_order o) ≤ most_tasks
  pub admitted : (p : ℕ) → p < length (tasks_in_order o) → AdmittedTask (task_at (tasks_in_order o) p)
  pub numbered : (p : ℕ) → p < length (tasks_in_order o) → number_at (numbers_of o) p < most_tasks
  pub shape_is : (p : ℕ) → p < length (tasks_in_order o) → get_or shapes (number_at (numbers_of o) p) no_shape ≡ shape_of (task_at (tasks_in_order o) p)

-- tallies by place: at each of a set's places stands that of its task, counted from its start frame
pub record TalliesStand (set : List Task) (tallies : List Tally) : Type 0 where
  pub few : length set ≤ most_tasks
  pub room : length tallies ≡ most_tasks
  pub each : (p : ℕ) → p < length set → Counted (from_start (task_at set p)) (get_or tallies p no_tally)

-- whether frame k of a task has the time and the deadline of the frame before it
unfoldable pub as_before : Task → ℕ → Bool
as_before t k = leb 1 k && eqb (frame t k) (frame t (k - 1)) && eqb (deadline_of t k) (deadline_of t (k - 1))

-- the written times of n frames from frame k on, by the tasks above the task and its blocking
unfoldable pub times_to : List Higher → ℕ → Task → ℕ → ℕ → List ℕ
times_to above blocked t k zero = []
times_to above blocked t k (suc n) = unwrap_or (frame_response above blocked t k) 0 ∷ times_to above blocked t (suc k) n

-- a task passes, by these, if every frame has a response time
unfoldable pub passes_to : List Higher → ℕ → Task → Bool
passes_to above blocked t = every 0 (frame_count t) (λ k. found (frame_response above blocked t k))

-- its eight slots where it passes
unfoldable pub slots_to : List Higher → ℕ → Task → Option (List ℕ)
slots_to above blocked t = slots_by (passes_to above blocked t) (times_to above blocked t 0 (frame_count t))

-- what is found of it by these
unfoldable pub finding_to : List Higher → ℕ → ℕ → Task → Finding
finding_to above number blocked t =
    record {
      number = number;
      period = t.period;
      deadline = shortest_deadline t;
      frame_count = frame_count t;
      blocked = blocked;
      times = slots_to above blocked t;
    }

-- its first frame without a response time
unfoldable pub without_to : List Higher → ℕ → Task → Option ℕ
without_to above blocked t = first 0 (frame_count t) (λ k. not (found (frame_response above blocked t k)))
