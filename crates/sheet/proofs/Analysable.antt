-- An admitted set, and the set of an admitted sheet, is a set that the analysis is about: admitted in the sense of the theory.
use Rattle.std.specs.Prelude.{Ok}
use Rattle.std.proofs.Common.{◌≡◌, ℕ, zero, suc, ◌%◌, ◌<◌, ◌≤◌, Bool, true, leb, List, map, length, mod-lt, arith, leb-true}
use mathlib.Core.Bool.{and-eq-true_iff}
use Rattle.theory.specs.Tasks.{Task, task_at, frame_count, frame, largest, qualifies, AdmittedTask}
use Rattle.theory.specs.Tasks.{Admitted as IsAdmitted}
use Rattle.theory.proofs.Laws.{monotonic_test}
use Rattle.sheet.specs.Constants.{most_tasks, greatest_time}
use Rattle.sheet.specs.Tasks.{task_in, records_of}
use Rattle.sheet.specs.Admission.{all, is_time, lock_fits, monotonic, decided, admission}
use Rattle.sheet.specs.Reading.{sheet_checks, tasks_of}
use Rattle.sheet.specs.declared.TaskSet.{TaskSet}
use Rattle.sheet.proofs.InFields.{Each, no_task, task_more, each_map, Formed, each_formed, range_of, some_searched, all_at, as_many_formed, frame_below, deadline_below}
use Rattle.sheet.proofs.Carried.{Carried, by_admission, by_reading}

time_positive : (n : ℕ) → is_time n ≡ true → 1 ≤ n
unfolding is_time
time_positive n e = leb-true 1 n ((and-eq-true_iff (leb 1 n) (leb n greatest_time)).0 e).0

module _ (t : Task) (f : Formed t) where
  has_frame : 1 ≤ frame_count t
  unfolding monotonic
  has_frame = some_searched (frame_count t) (qualifies t) f.starts

  many : length t.deadlines ≡ frame_count t
  unfolding frame_count
  many = as_many_formed t f.well

  -- a test that all frames pass, of frame k
  frame_passes : (test : ℕ → Bool) → all test t.frames ≡ true → (k : ℕ) → test (frame t k) ≡ true
  unfolding frame frame_count
  frame_passes test e k = all_at test t.frames e (k % frame_count t) (mod-lt k has_frame)

  task_admitted : AdmittedTask t
  unfolding lock_fits monotonic
  task_admitted =
      record {
        well_formed =
            record {
              has_frame = has_frame;
              each_deadline = many;
              frame_positive = λ k h. time_positive (frame t k) (frame_passes is_time ((range_of t).0 f.ranged).frame_times k);
              frame_in_deadline = frame_below t f.well;
              deadline_in_period = deadline_below t f.well;
            };
        lock_rule = leb-true t.lock (largest t.frames) f.locked;
        monotonic = (monotonic_test t).0 f.starts;
      }

-- what is true of each task of a list is true of the one at a place
pub each_at : {P : Task → Type 0} {ts : List Task} → Each P ts → (p : ℕ) → p < length ts → P (task_at ts p)
unfolding task_at
each_at no_task p h = let z : ⊥ = omega arith in absurd z
each_at (task_more x xs) zero h = x
each_at (task_more x xs) (suc p) h = each_at xs p (omega arith)

carried_admitted : {policy : ℕ} {ts : List Task} → Carried policy ts → IsAdmitted ts
carried_admitted {ts} c = record { some_task = c.some_task; each_task = each_at (each_map task_admitted (each_formed 0 ts c.formed)) }

-- The tasks of an admitted set are admitted in the sense of the theory.
pub admitted_set_is_admitted : (s : TaskSet) → length s.tasks ≡ most_tasks → admission s ≡ Ok tt → IsAdmitted (map task_in (records_of s))
admitted_set_is_admitted s room e = carried_admitted (by_admission s room e)

-- So are those of an admitted sheet.
pub admitted_sheet_is_admitted : (s : List ℕ) → decided (sheet_checks s) ≡ Ok tt → IsAdmitted (tasks_of s)
admitted_sheet_is_admitted s a = carried_admitted (by_reading s a)
