-- What the writer needs of an admitted set: the policy, the task count, and of each record in use the frame count and the ranges.
use Rattle.std.specs.Prelude.{Ok}
use mathlib.Core.Bool.{true, ◌&&◌, and-eq-true_iff}
use mathlib.Core.List.{List, [], ◌∷◌, map}
use mathlib.Core.Path.{◌≡◌}
use Prim.Native.Nat.{ℕ, zero, suc, ◌≤◌, ◌<◌}
use native.Mathlib.Omega.{arith}
use borrow.Author.Tests.{not-false}
use lib.ListN.{length, get_or}
use Rattle.sheet.specs.Constants.{most_tasks, most_frames, deadline_monotonic}
use Rattle.sheet.specs.Tasks.{task_in, records_of}
use Rattle.sheet.specs.Admission.{decided, in_range, well_formed, frame_count_check, frame_count_checks, task_checks, list_checks, admission}
use Rattle.sheet.specs.declared.Task.{Task as Record}
use Rattle.sheet.specs.declared.TaskSet.{TaskSet}
use Rattle.sheet.proofs.Checks.{passed, both_passed}
use Rattle.sheet.proofs.Carried.{by_admission, count_in_use}
use Rattle.sheet.proofs.Counts.{count_passed, known_small}

-- what the fields of a record in use need
pub record Puttable (r : Record) : Type 0 where
  pub some : 1 ≤ r.frame_count
  pub few : r.frame_count ≤ most_frames
  pub ranged : in_range (task_in r) ≡ true

counts_in : (k : ℕ) (rs : List Record) → decided (frame_count_checks k rs) ≡ Ok tt → (i : ℕ) (d : Record) → i < length rs
    → (1 ≤ (get_or rs i d).frame_count) × ((get_or rs i d).frame_count ≤ most_frames)
unfolding frame_count_checks frame_count_check
counts_in k [] e i d h = let z : ⊥ = omega arith in absurd z
counts_in k (r ∷ rs) e zero d h = count_passed r.frame_count most_frames (passed _ _ e).0
counts_in k (r ∷ rs) e (suc i) d h = counts_in (suc k) rs (passed _ _ e).1 i d (omega arith)

ranges_in : (k : ℕ) (rs : List Record) → decided (task_checks k (map task_in rs)) ≡ Ok tt → (i : ℕ) (d : Record) → i < length rs → in_range (task_in (get_or rs i d)) ≡ true
unfolding task_checks
ranges_in k [] e i d h = let z : ⊥ = omega arith in absurd z
ranges_in k (r ∷ rs) e zero d h =
    ((and-eq-true_iff (in_range (task_in r)) (well_formed (task_in r))).0 (not-false (in_range (task_in r) && well_formed (task_in r)) (passed _ _ e).0)).0
ranges_in k (r ∷ rs) e (suc i) d h = ranges_in (suc k) rs (passed _ _ (passed _ _ (passed _ _ e).1).1).1 i d (omega arith)

-- an admitted set, whose array has its sixteen slots
module _ (s : TaskSet) (e : admission s ≡ Ok tt) (long : length s.tasks ≡ most_tasks) where
  pub policy_in : s.policy ≤ deadline_monotonic
  policy_in = known_small s.policy (by_admission s long e).policy_known

  pub tasks_in : s.task_count ≤ most_tasks
  tasks_in = rw (← count_in_use s long e) (by_admission s long e).few_tasks

  counts_admitted : decided (frame_count_checks 0 (records_of s)) ≡ Ok tt
  unfolding admission list_checks
  counts_admitted = (both_passed (frame_count_checks 0 (records_of s)) _ (passed _ _ (passed _ _ e).1).1).0

  pub puttable : (rs : List Record) → rs ≡ records_of s → (i : ℕ) (d : Record) → i < length rs → Puttable (get_or rs i d)
  puttable rs are i d h = rw (← are) at (those i d (rw (← are) h))
    where
      those : (i : ℕ) (d : Record) → i < length (records_of s) → Puttable (get_or (records_of s) i d)
      those i d h =
          record {
            some = (counts_in 0 (records_of s) counts_admitted i d h).0;
            few = (counts_in 0 (records_of s) counts_admitted i d h).1;
            ranged = ranges_in 0 (records_of s) (by_admission s long e).formed i d h;
          }
