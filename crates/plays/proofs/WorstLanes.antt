-- Lanes of the worst run: the blocker's one job runs without a break, and an absent task has none.
use Rattle.std.specs.Prelude.{None, Some}
use mathlib.Core.List.{List, [], ◌∷◌}
use Rattle.theory.proofs.Options.{none_ne_some}
use mathlib.Core.Path.{◌≡◌, refl, sym, ◌∙◌, ap}
use Prim.Native.Nat.{ℕ, zero, suc, pred, ◌-◌, ◌≤◌, ◌<◌}
use native.Mathlib.Nat.{sub-suc, sub-zero}
use native.Mathlib.Omega.{arith}
use lib.ListN.{length}
use Rattle.theory.specs.Tasks.{Task, task_at, frame_count, Admitted}
use Rattle.theory.specs.Analysis.{blocker}
use Rattle.theory.specs.Runs.{job, State, Run, release_lane, release, oldest_left, pick, serve, stretch_now, tick, start_state, state_at, seen_at}
use Rattle.theory.specs.WorstRun.{absent, role, worst_run}
use Rattle.theory.proofs.Lanes.{oldest_one, serve_job, serve_empty}
use Rattle.theory.proofs.Steps.{oldest, Picked, in_stretch, highest, idle, picked, tick_served, tick_others, tick_owner, tick_to_come, tick_idle, unreleased, lane_after, state_step}
use Rattle.theory.proofs.WorstReleases.{once_else, role_blocks, release_blocker, release_absent}
use Rattle.theory.proofs.WorstTicks.{stretch_none, stretch_of_job, now_starts}
use Rattle.theory.proofs.WorstFirstTick.{blocker_lane, none_under_way, FirstTick, blocked, unblocked, first_tick, blocker_stretch}
use Rattle.theory.proofs.WorstLegal.{later_step}

-- a stretch under way goes on
now_under_way : (m : ℕ) → stretch_now (suc m) 0 ≡ suc m
unfolding stretch_now
now_under_way m = refl

-- the task at place b has one job, of frame f and released at tick 0, with as much work left as its stretch has to come
pub record RunsOn (b f left : ℕ) (s : State) : Type 0 where
  pub one_left : (s.lanes b).jobs ≡ job 0 f left ∷ []
  pub rest_to_come : s.to_come ≡ left
  pub is_owner : 1 ≤ left → s.owner ≡ b

module _ (b f : ℕ) (s : State) where
  left_oldest : {left : ℕ} → (s.lanes b).jobs ≡ job 0 f left ∷ [] → oldest s b ≡ left
  left_oldest {left} e = ap oldest_left e ∙ oldest_one 0 f left

  -- a tick in its stretch, or the tick that starts it
  runs_served : (left new : ℕ) → (s.lanes b).jobs ≡ job 0 f left ∷ [] → stretch_now s.to_come new ≡ left → RunsOn b f (pred left) (tick (Some b) new s)
  runs_served left new e long =
      record {
        one_left = tick_served b new s ∙ ap serve e ∙ serve_job 0 f left;
        rest_to_come = tick_to_come b new s ∙ rw (left_oldest e, long) (stretch_of_job left);
        is_owner = λ _. tick_owner b new s;
      }

  -- a tick at which no stretch starts
  runs_on : (set : List Task) (left : ℕ) → RunsOn b f left s → Picked set s → RunsOn b f (pred left) (tick (pick set s) 0 s)
  runs_on set zero r (in_stretch m e q) = let z : ⊥ = omega (arith, r.rest_to_come) in absurd z
  runs_on set zero r (highest u e q l pend earlier) =
      rw q
      (record {
        one_left = ap (λ l. l.jobs) (tick_others u 0 s b (λ same. omega (arith, left_oldest r.one_left, ap (oldest s) same))) ∙ r.one_left;
        rest_to_come = tick_to_come u 0 s ∙ rw (e, now_starts 0) (stretch_none (pred (oldest s u)));
        is_owner = λ h. absurd (omega arith);
      })
  runs_on set zero r (idle e q none_pending) = rw (tick_idle 0 s q) r
  runs_on set (suc left) r (in_stretch m e q) =
      rw (q ∙ ap Some (r.is_owner (omega arith))) (runs_served (suc left) 0 r.one_left (rw r.rest_to_come (now_under_way left)))
  runs_on set (suc left) r (highest u e q l pend earlier) = let z : ⊥ = omega (arith, r.rest_to_come) in absurd z
  runs_on set (suc left) r (idle e q none_pending) = let z : ⊥ = omega (arith, r.rest_to_come) in absurd z

-- ---- in the worst run

module _ (set : List Task) (p k : ℕ) where
  abbrev worst : Run
  worst = worst_run set p k

  -- before tick 0 no lane has a job
  pub nothing_before : (q : ℕ) → ((state_at set (worst_run set p k) 0).lanes q).jobs ≡ []
  unfolding state_at start_state
  nothing_before q = refl

  -- an absent task has no job
  pub absent_lane : (t q : ℕ) → role set p q ≡ absent → ((state_at set (worst_run set p k) t).lanes q).jobs ≡ []
  unfolding release_lane
  absent_lane zero q e = nothing_before q
  absent_lane (suc t) q e =
      let (b, after) = lane_after set worst t q (release_absent set p k q t e) in
      ap (λ l. l.jobs) after ∙ serve_empty b _ (absent_lane t q e)

module _ (set : List Task) (admitted : Admitted set) (p : ℕ) (in_set : p < length set) (k : ℕ) (k_in : k < frame_count (task_at set p)) where
  abbrev run : Run
  run = worst_run set p k

  -- ---- the blocker

  module _ (b : ℕ) (is_b : blocker set p ≡ Some b) where
    blocker_later : (t : ℕ) → (run.input (suc t)).release_of b ≡ None
    blocker_later t = release_blocker set p k b (suc t) (role_blocks set p is_b) ∙ once_else 0 (task_at set b).lock (suc t) (λ z. omega arith)

    seen_runs : (t : ℕ) {left : ℕ} → RunsOn b (run.first_frame b) left (state_at set run (suc t)) → RunsOn b (run.first_frame b) left (seen_at set run (suc t))
    unfolding seen_at release
    seen_runs t r =
        record {
          one_left = ap (λ l. l.jobs) (unreleased set run (suc t) b (blocker_later t)) ∙ r.one_left;
          rest_to_come = r.rest_to_come;
          is_owner = r.is_owner;
        }

    -- From tick 0 on the blocker's one job, of work Q, runs without a break in its one stretch.
    pub blocker_runs : (t : ℕ) → RunsOn b ((worst_run set p k).first_frame b) ((task_at set b).lock - suc t) (state_at set (worst_run set p k) (suc t))
    blocker_runs zero = rw (state_step set run 0, sub-suc (task_at set b).lock 0, sub-zero (task_at set b).lock) (go (first_tick set p k))
      where
        go : FirstTick set p k → RunsOn b (run.first_frame b) (pred (task_at set b).lock) (tick (pick set (seen_at set run 0)) (run.input 0).stretch (seen_at set run 0))
        go (blocked c is_c at) =
            let same : c ≡ b = cc in
            rw (at ∙ ap Some same, blocker_stretch set p k is_b)
            (runs_served b _ (seen_at set run 0) (task_at set b).lock (task_at set b).lock (blocker_lane set p k is_b)
            (rw (none_under_way set p k) (now_starts (task_at set b).lock)))
        go (unblocked no_b at) = absurd (none_ne_some b (sym no_b ∙ is_b))
    blocker_runs (suc t) =
        rw (later_step set admitted p in_set k k_in t, sub-suc (task_at set b).lock (suc t))
        (runs_on b _ (seen_at set run (suc t)) set ((task_at set b).lock - suc t) (seen_runs t (blocker_runs t)) (picked set (seen_at set run (suc t))))

    -- from tick 1 on it is pending only in its stretch
    pub blocker_pends : (t : ℕ) → oldest (seen_at set (worst_run set p k) (suc t)) b ≡ (seen_at set (worst_run set p k) (suc t)).to_come
    blocker_pends t =
        let r = seen_runs t (blocker_runs t) in
        left_oldest b _ (seen_at set run (suc t)) r.one_left ∙ sym r.rest_to_come
