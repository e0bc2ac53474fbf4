-- Refusal 11 says why: the task that it names has no start, and its numbers are the reason.
use Rattle.std.specs.Prelude.{Err, None, Ok, Result, Some}
use mathlib.Core.Bool.{Bool, true, false, cond}
use mathlib.Core.List.{List, map}
use mathlib.Core.Path.{◌≡◌, ap}
use Prim.Native.Nat.{ℕ}
use lib.Dec.{ltb}
use Rattle.theory.specs.Tasks.{Task, task_at}
use Rattle.theory.proofs.Laws.{reason_is}
use Rattle.lent.proofs.Checks.{each_first}
use Rattle.sheet.specs.Tasks.{task_in}
use Rattle.sheet.specs.Admission.{decided, reason_of, list_checks}
use Rattle.sheet.specs.Reading.{tasks_of, reading}
use Rattle.sheet.specs.Writing.{writing_checks}
use Rattle.sheet.specs.declared.Task.{Task as Record}
use Rattle.sheet.specs.declared.Reason.{Reason}
use Rattle.sheet.specs.declared.Refusal.{Refusal}
use Rattle.sheet.specs.declared.Refusal.TheVariants.{Length, CheckWord, Version, Policy, BitSet, TaskCount, FrameCount, Records, IllFormed, Lock, NotMonotonic, Room, Deadlines}
use Rattle.sheet.proofs.Checks.{one_applies}
use Rattle.sheet.proofs.Carried.{reading_refuses}
use Rattle.sheet.proofs.Refused.{Covers, list_each, sheet_each, writing_each}
use Rattle.converter.specs.Converting.{converting_checks}
use Rattle.converter.proofs.Outcomes.{converting_each}
use Rattle.analysis.specs.declared.Decision.{Decision}
use Rattle.signed.specs.Claims.{outcome_told, NoStart, refusal_to}

-- what a refusal says of tasks: 11 says why, the others say nothing of it
unfoldable Says : List Task → Refusal → Type 0
Says tasks Length = Unit {0}
Says tasks CheckWord = Unit {0}
Says tasks Version = Unit {0}
Says tasks Policy = Unit {0}
Says tasks BitSet = Unit {0}
Says tasks TaskCount = Unit {0}
Says tasks (FrameCount i) = Unit {0}
Says tasks Records = Unit {0}
Says tasks (IllFormed i) = Unit {0}
Says tasks (Lock i) = Unit {0}
Says tasks (NotMonotonic i why) = NoStart tasks i why
Says tasks Room = Unit {0}
Says tasks Deadlines = Unit {0}

says : (tasks : List Task) → Covers (Says tasks) tasks
unfolding Says reason_of
says tasks =
    record {
      of_length = tt;
      of_check_word = tt;
      of_version = tt;
      of_policy = tt;
      of_bit_set = tt;
      of_task_count = tt;
      of_records = tt;
      of_frame_count = λ i h. tt;
      of_form = λ i h. tt;
      of_lock = λ i h. tt;
      of_monotony = λ i h few none_starts. record { in_set = h; none_qualifies = none_starts; reason = λ has. reason_is (task_at tasks i) has none_starts };
    }

pub list_why : (policy n : ℕ) (rs : List Record) (i : ℕ) (why : Reason) → decided (list_checks policy n rs) ≡ Err (NotMonotonic i why) → NoStart (map task_in rs) i why
unfolding Says
list_why policy n rs i why e = each_first (Says (map task_in rs)) _ (list_each policy n rs (says (map task_in rs))) (NotMonotonic i why) (one_applies _ _ e)

pub writing_why : (version policy n : ℕ) (rs : List Record) (i : ℕ) (why : Reason)
    → decided (writing_checks version policy n rs) ≡ Err (NotMonotonic i why) → NoStart (map task_in rs) i why
unfolding Says
writing_why version policy n rs i why e =
    each_first (Says (map task_in rs)) _ (writing_each version policy n rs tt (says (map task_in rs))) (NotMonotonic i why) (one_applies _ _ e)

pub converting_why : (version : ℕ) (s : List ℕ) (i : ℕ) (why : Reason) → decided (converting_checks version s) ≡ Err (NotMonotonic i why) → NoStart (tasks_of s) i why
unfolding Says
converting_why version s i why e = each_first (Says (tasks_of s)) _ (converting_each version s tt (says (tasks_of s))) (NotMonotonic i why) (one_applies _ _ e)

pub sheet_why : (s : List ℕ) (i : ℕ) (why : Reason) → reading s ≡ Err (NotMonotonic i why) → NoStart (tasks_of s) i why
unfolding Says
sheet_why s i why e = each_first (Says (tasks_of s)) _ (sheet_each s (says (tasks_of s))) (NotMonotonic i why) (one_applies _ _ (reading_refuses s _ e))

-- ---- 11 is a refusal of the input, and not of the room

pub of_input : {T : Type 0} (a : Result T Refusal) (needs has i : ℕ) (why : Reason) → refusal_to a needs has ≡ Some (NotMonotonic i why) → a ≡ Err (NotMonotonic i why)
unfolding refusal_to
of_input (Err r) needs has i why e = ap Err (cc)
of_input (Ok x) needs has i why e = go (ltb has needs) e
  where
    go : (b : Bool) → cond b (Some Room) None ≡ Some (NotMonotonic i why) → Ok x ≡ Err (NotMonotonic i why)
    go true q = cc
    go false q = cc

-- an outcome that refuses is the whole answer
pub refused_whole : (answer : Result Decision Refusal) (why : Refusal) → outcome_told answer ≡ Err why → answer ≡ Err why
unfolding outcome_told
refused_whole (Ok decision) why e = cc
refused_whole (Err r) why e = let same : r ≡ why = cc in ap Err same
