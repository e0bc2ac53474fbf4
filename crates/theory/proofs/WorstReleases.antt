-- What the worst run of a frame releases: by role, at each tick, and in total.
use Rattle.std.specs.Prelude.{None, Some}
use mathlib.Core.List.{List}
use Rattle.theory.proofs.Options.{none_ne_some}
use mathlib.Core.Path.{◌≡◌, refl, sym, ◌∙◌, ap}
use Prim.Native.Nat.{ℕ, zero, suc, ◌+◌, ◌*◌, ◌%◌, ◌≤◌, ◌<◌}
use native.Mathlib.Decide.{dec_le, ℕ_discrete}
use native.Mathlib.Nat.{add-zero, zero-add, div-add-mod'}
use native.Mathlib.Omega.{arith}
use borrow.Author.Tests.{lt-ltb, le-ltb, eq-eqb, ne_eqb}
use lib.ListN.{length}
use Rattle.theory.specs.Tasks.{Task, task_at, frame, work, start_frame}
use Rattle.theory.specs.Analysis.{lower, blocking, blocker, releases, demand, demand_of}
use Rattle.theory.specs.WorstRun.{above, own, blocks, absent, below_own, role, once, every_period, worst_release, worst_run}
use Rattle.theory.proofs.Search.{Answer, answer, nothing, it_is}
use Rattle.theory.proofs.Work.{work_zero, work_suc}
use Rattle.theory.proofs.Demand.{releases_zero, releases_suc, releases_at, releases_between}
use Rattle.theory.proofs.Places.{sum_below, sum_suc, sum_eq, work_in, higher_work_sum}
use Rattle.theory.proofs.Blocking.{blocker_is}
use Rattle.theory.proofs.Lanes.{given, given_none, given_some}
use Rattle.theory.proofs.Arrivals.{arrived, arrived_zero, arrived_suc}
use Rattle.theory.proofs.Busy.{arrived_above}

-- ---- releases once, and at every period

pub once_at : (at w : ℕ) → once at w at ≡ Some w
unfolding once
once_at at w = rw (eq-eqb at at refl, once)

pub once_else : (at w now : ℕ) → (now ≡ at → ⊥) → once at w now ≡ None
unfolding once
once_else at w now ne = rw (ne_eqb now at ne, once)

pub period_zero : (t : Task) → every_period t 0 ≡ None
unfolding every_period
period_zero t = refl

-- what a tick is to a task that is released at every period: a release of its next job, or none; n jobs were released before
pub data Periodic (t : Task) (m n : ℕ) : Type 0 where
  releases_now : every_period t (suc m) ≡ Some (frame t (start_frame t + n)) → m ≡ n * t.period → releases (suc m) t.period ≡ suc n → Periodic t m n
  releases_none : every_period t (suc m) ≡ None → releases (suc m) t.period ≡ n → Periodic t m n

pub periodic : (t : Task) → 1 ≤ t.period → (m : ℕ) → Periodic t m (releases m t.period)
unfolding every_period
periodic t positive m = go (ℕ_discrete (m % t.period) 0)
  where
    go : Dec (m % t.period ≡ 0) → Periodic t m (releases m t.period)
    go (yes e) =
        rw (releases_at positive m e)
        (releases_now (rw (eq-eqb (m % t.period) 0 e, every_period)) (omega (arith, div-add-mod' m t.period)) (releases_suc positive m))
    go (no ne) = releases_none (rw (ne_eqb (m % t.period) 0 ne, every_period)) (releases_suc positive m ∙ sym (releases_between positive m ne))

-- ---- roles

-- what the task at place q is to the task at place p
pub data RoleOf (set : List Task) (p q : ℕ) : Type 0 where
  is_above : q < p → role set p q ≡ above → RoleOf set p q
  is_own : q ≡ p → role set p q ≡ own → RoleOf set p q
  is_blocker : p < q → blocker set p ≡ Some q → role set p q ≡ blocks → RoleOf set p q
  is_absent : p < q → (blocker set p ≡ Some q → ⊥) → role set p q ≡ absent → RoleOf set p q

module _ (set : List Task) (p : ℕ) where
  pub role_above : (q : ℕ) → q < p → role set p q ≡ above
  unfolding role
  role_above q h = rw (lt-ltb q p h, role)

  pub role_own : role set p p ≡ own
  unfolding role
  role_own = rw (le-ltb p p (omega arith), eq-eqb p p refl, role)

  role_below : (q : ℕ) → p < q → role set p q ≡ below_own (blocker set p) q
  unfolding role
  role_below q h = rw (le-ltb q p (omega arith), ne_eqb q p (λ e. omega arith), role)

  pub role_blocks : {b : ℕ} → blocker set p ≡ Some b → role set p b ≡ blocks
  unfolding below_own
  role_blocks {b} e = role_below b (blocker_is set p e).below ∙ rw (e, below_own, eq-eqb b b refl)

  pub role_of : (q : ℕ) → RoleOf set p q
  unfolding below_own
  role_of q = go (dec_le (suc q) p) (ℕ_discrete q p)
    where
      below : p < q → Answer (blocker set p) → RoleOf set p q
      below h (nothing e) = is_absent h (λ x. none_ne_some q (sym e ∙ x)) (role_below q h ∙ rw e)
      below h (it_is b e) = named (ℕ_discrete q b)
        where
          named : Dec (q ≡ b) → RoleOf set p q
          named (yes same) = is_blocker h (e ∙ ap Some (sym same)) (role_below q h ∙ rw (e, below_own, eq-eqb q b same))
          named (no ne) = is_absent h (λ x. ne (cc)) (role_below q h ∙ rw (e, below_own, ne_eqb q b ne))

      go : Dec (q < p) → Dec (q ≡ p) → RoleOf set p q
      go (yes h) d = is_above h (role_above q h)
      go (no h) (yes e) = is_own e (rw e role_own)
      go (no h) (no ne) = below (omega arith) (answer (blocker set p))

-- ---- the worst run's releases

module _ (set : List Task) (p k : ℕ) where
  pub release_above : (q t : ℕ) → q < p → ((worst_run set p k).input t).release_of q ≡ every_period (task_at set q) t
  unfolding worst_run worst_release
  release_above q t h = rw (role_above set p q h)

  pub release_own : (t : ℕ) → ((worst_run set p k).input t).release_of p ≡ once 1 (frame (task_at set p) k) t
  unfolding worst_run worst_release
  release_own t = rw (role_own set p)

  pub release_blocker : (b t : ℕ) → role set p b ≡ blocks → ((worst_run set p k).input t).release_of b ≡ once 0 (task_at set b).lock t
  unfolding worst_run worst_release
  release_blocker b t e = rw e

  pub release_absent : (q t : ℕ) → role set p q ≡ absent → ((worst_run set p k).input t).release_of q ≡ None
  unfolding worst_run worst_release
  release_absent q t e = rw e

  -- nothing at or above place p is released before tick 1
  pub none_at_zero : (q : ℕ) → q ≤ p → ((worst_run set p k).input 0).release_of q ≡ None
  none_at_zero q h = go (ℕ_discrete q p)
    where
      go : Dec (q ≡ p) → ((worst_run set p k).input 0).release_of q ≡ None
      go (yes e) = rw e (release_own 0 ∙ once_else 1 _ 0 (λ z. omega arith))
      go (no ne) = release_above q 0 (omega arith) ∙ period_zero (task_at set q)

  -- ---- in total

  pub arrived_at_one : (q : ℕ) → q ≤ p → arrived (worst_run set p k) q 1 ≡ 0
  arrived_at_one q h = arrived_suc (worst_run set p k) q 0 ∙ rw (arrived_zero (worst_run set p k) q, none_at_zero q h, given_none)

  -- a higher task has released the work of ⌈x/T⌉ jobs in the x ticks from tick 1
  arrived_higher : (q x : ℕ) → q < p → 1 ≤ (task_at set q).period → arrived (worst_run set p k) q (suc x) ≡ work_in set x q
  unfolding work_in
  arrived_higher q zero h positive = arrived_at_one q (omega arith) ∙ rw (releases_zero positive, work_zero (task_at set q) (start_frame (task_at set q)))
  arrived_higher q (suc x) h positive =
      arrived_suc (worst_run set p k) q (suc x)
      ∙ rw (release_above q (suc x) h, arrived_higher q x h positive) (go (periodic (task_at set q) positive x))
    where
      go : Periodic (task_at set q) x (releases x (task_at set q).period)
          → work (task_at set q) (start_frame (task_at set q)) (releases x (task_at set q).period) + given (every_period (task_at set q) (suc x))
          ≡ work (task_at set q) (start_frame (task_at set q)) (releases (suc x) (task_at set q).period)
      go (releases_now e place more) = rw (e, more, given_some (frame (task_at set q) (start_frame (task_at set q) + releases x (task_at set q).period))) (sym (work_suc (task_at set q) (start_frame (task_at set q)) (releases x (task_at set q).period)))
      go (releases_none e more) = rw (e, more, given_none) (add-zero _)

  -- the task itself has released its frame
  arrived_own : (x : ℕ) → arrived (worst_run set p k) p (suc (suc x)) ≡ frame (task_at set p) k
  arrived_own zero =
      arrived_suc (worst_run set p k) p 1
      ∙ rw (arrived_at_one p (omega arith), release_own 1, once_at 1 (frame (task_at set p) k), given_some (frame (task_at set p) k)) (zero-add _)
  arrived_own (suc x) =
      arrived_suc (worst_run set p k) p (suc (suc x))
      ∙ rw (arrived_own x, release_own (suc (suc x)), once_else 1 (frame (task_at set p) k) (suc (suc x)) (λ z. omega arith), given_none) (add-zero _)

  -- with the blocking, what is released in x ticks from tick 1 is the demand at x
  pub arrived_demand : (x : ℕ) → p ≤ length set → ((q : ℕ) → q < p → 1 ≤ (task_at set q).period)
      → blocking (lower set p) + arrived_above (worst_run set p k) p (suc (suc x)) ≡ demand_of set p k (suc x)
  unfolding arrived_above demand_of demand
  arrived_demand x h positive =
      let higher_tasks : sum_below p (λ q. arrived (worst_run set p k) q (suc (suc x))) ≡ sum_below p (work_in set (suc x)) = sum_eq p (λ q l. arrived_higher q (suc x) l (positive q l)) in
      omega (arith, higher_tasks, higher_work_sum set p (suc x) h, sum_suc p (λ q. arrived (worst_run set p k) q (suc (suc x))), arrived_own x)
