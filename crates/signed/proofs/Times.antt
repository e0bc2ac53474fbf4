-- Demand 3 of an admitted set whose times stand in lent memory.
use Rattle.std.specs.Prelude.{None, Option, Some, Ok}
use mathlib.Core.Bool.{Bool, true, false}
use mathlib.Core.List.{List}
use mathlib.Core.Logic.{◌⊎◌, inl, inr}
use mathlib.Core.Path.{◌≡◌, refl, sym, ◌∙◌, subst}
use Prim.Native.Nat.{ℕ, ◌+◌, ◌*◌, ◌≤◌, ◌<◌}
use native.Mathlib.Nat.{lt_of_lt_of_le}
use native.Mathlib.Omega.{arith}
use lib.ListN.{length, get_or}
use Rattle.theory.specs.Tasks.{Task, task_at, frame_count, Admitted}
use Rattle.theory.specs.Analysis.{passes, blocker}
use Rattle.order.specs.Order.{priority_order, ordered_set}
use Rattle.analysis.specs.Times.{number_at, blocker_number, outcome_of, times_of}
use Rattle.analysis.specs.Runs.{place}
use Rattle.analysis.specs.declared.Verdict.{Verdict}
use Rattle.analysis.specs.declared.Verdict.TheVariants.{Holds, Missed}
use Rattle.analysis.proofs.Promises.{holds_then_no_miss, holds_then_passes, missed_then_some_miss, missed_names, failing_then_some_miss, blocker_in, time_is_least, time_never_exceeded, time_reached, no_frame_no_time, no_pass_no_time}
use Rattle.signed.specs.Claims.{said, Kept, time_in, NoMiss, SomeMiss, WorstTime, Timed, Untimed, Named, TimesUpTo, Surplus, Signed}

module _ (policy : ℕ) (tasks : List Task) (admitted : Admitted tasks) (eight : (i : ℕ) → frame_count (task_at tasks i) ≤ 8) where
  abbrev set : List Task
  set = ordered_set policy tasks

  -- the worst times of a task that passes
  pub worst_time : (i : ℕ) → i < length tasks → passes set (place policy tasks i) ≡ true → (k : ℕ) → k < frame_count (task_at tasks i)
      → WorstTime policy tasks i k (get_or (times_of policy tasks) (8 * i + k) 0)
  worst_time i hi pass k hk =
      record {
        least = time_is_least policy tasks admitted eight i hi pass k hk;
        never_longer = time_never_exceeded policy tasks admitted eight i hi pass k hk;
        reached = time_reached policy tasks admitted eight i hi pass k hk;
      }

  pub some_miss : (i : ℕ) → i < length tasks → passes set (place policy tasks i) ≡ false → SomeMiss policy tasks i
  unfolding SomeMiss
  some_miss = failing_then_some_miss policy tasks admitted

  -- the times as they stand in memory
  module _ (time : ℕ → ℕ) (stands : (j : ℕ) → j < 8 * length tasks → time j ≡ get_or (times_of policy tasks) j 0) where
    pub timed : (i : ℕ) → i < length tasks → passes set (place policy tasks i) ≡ true → Timed policy tasks time i
    timed i hi pass =
        record {
          worst = λ k hk.
              let small = lt_of_lt_of_le hk (eight i) in
              subst (λ (t : ℕ). WorstTime policy tasks i k t) (sym (stands (8 * i + k) (omega arith))) (worst_time i hi pass k hk);
          no_frame = λ k h l. stands (8 * i + k) (omega arith) ∙ no_frame_no_time policy tasks admitted eight i hi pass k h l;
        }

    pub untimed : (i : ℕ) → i < length tasks → passes set (place policy tasks i) ≡ false → Untimed policy tasks time i
    untimed i hi fails =
        record {
          zeros = λ k l. stands (8 * i + k) (omega arith) ∙ no_pass_no_time policy tasks admitted eight i hi fails k l;
          misses = some_miss i hi fails;
        }

    pub each : (i : ℕ) → i < length tasks → Timed policy tasks time i ⊎ Untimed policy tasks time i
    each i hi = go (passes set (place policy tasks i)) refl
      where
        go : (b : Bool) → passes set (place policy tasks i) ≡ b → Timed policy tasks time i ⊎ Untimed policy tasks time i
        go true e = inl (timed i hi e)
        go false e = inr (untimed i hi e)

    -- a blocker is named by its number
    blocker_within : (o : Option ℕ) (p : ℕ) → blocker set p ≡ o → (q : ℕ) → blocker_number (priority_order policy tasks) o ≡ Some q → q < length tasks
    unfolding blocker_number
    blocker_within None p e q s = cc
    blocker_within (Some r) p e q s =
        let same : number_at (priority_order policy tasks) r ≡ q = cc in
        rw (← same) (blocker_in policy tasks admitted p r e)

    named : (p : ℕ) (b : Option ℕ) → outcome_of policy tasks ≡ Missed p b → Named policy tasks p b
    unfolding SomeMiss
    named p b e =
        let (in_set, run, r, k, legal, miss) = missed_then_some_miss policy tasks admitted p b e in
        let (fails, earlier, blocked) = missed_names policy tasks admitted p b e in
        record {
          in_set = in_set;
          misses = (run, r, k, legal, miss);
          blocked_by = blocked;
          blocker_in_set = λ q s. blocker_within (blocker set (place policy tasks p)) (place policy tasks p) refl q (sym blocked ∙ s);
        }

    up_to : (p : ℕ) (b : Option ℕ) → outcome_of policy tasks ≡ Missed p b → TimesUpTo policy tasks time p
    up_to p b e =
        let (fails, earlier, blocked) = missed_names policy tasks admitted p b e in
        record { each_task = each; above = λ i hi above. timed i hi (earlier (place policy tasks i) above) }

    -- what the outcome says is so
    pub signed : (kept : Kept) (before after : List ℕ) → time ≡ time_in kept after → Surplus kept (length tasks) before after
        → Signed policy tasks kept before after (said (Ok (outcome_of policy tasks)))
    unfolding Signed said NoMiss
    signed kept before after same surplus = go (outcome_of policy tasks) refl
      where
        go : (v : Verdict) → outcome_of policy tasks ≡ v → Signed policy tasks kept before after (said (Ok v))
        go Holds e = (holds_then_no_miss policy tasks admitted e, λ i hi. rw (← same) (timed i hi (holds_then_passes policy tasks admitted e i hi)), surplus, admitted)
        go (Missed p b) e = (named p b e, rw (← same) (up_to p b e), surplus, admitted)
