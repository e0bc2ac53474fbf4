-- Tick 0 of the worst run: the blocker, if any, alone runs one tick of its stretch, so that the blocking is to come at tick 1.
use Rattle.std.specs.Prelude.{None, Option, Some}
use mathlib.Core.List.{List, [], ◌∷◌}
use mathlib.Core.Path.{◌≡◌, refl, sym, ◌∙◌, ap}
use Prim.Native.Nat.{ℕ, suc, pred, ◌≤◌, ◌<◌}
use native.Mathlib.Nat.{le_of_eq}
use native.Mathlib.Omega.{arith}
use lib.ListN.{length}
use Rattle.theory.specs.Tasks.{Task, task_at}
use Rattle.theory.specs.Analysis.{lower, blocking, blocker}
use Rattle.theory.specs.Runs.{job, State, Run, release_lane, release, oldest_left, pick, serve, tick, start_state, state_at, seen_at, longest_stretch}
use Rattle.theory.specs.WorstRun.{worst_stretch, worst_run}
use Rattle.theory.proofs.Search.{Answer, answer, nothing, it_is}
use Rattle.theory.proofs.Places.{sum_none, sum_eq}
use Rattle.theory.proofs.Blocking.{IsBlocker, blocker_is, no_blocker, blocker_blocks}
use Rattle.theory.proofs.Lanes.{total, oldest_one, serve_job}
use Rattle.theory.proofs.Steps.{oldest, Picked, in_stretch, highest, idle, picked, tick_served, tick_owner, tick_to_come, tick_idle, state_step, pending_work, tick_adds_nothing}
use Rattle.theory.proofs.WorstReleases.{once_at, RoleOf, is_above, is_own, is_blocker, is_absent, role_blocks, role_of, release_blocker, release_absent, none_at_zero}
use Rattle.theory.proofs.WorstTicks.{Foreign, load, stretch_of_job, now_starts}

module _ (set : List Task) (p k : ℕ) where
  abbrev worst : Run
  worst = worst_run set p k

  abbrev seen : State
  seen = seen_at set worst 0

  -- a lane without a release at tick 0 is empty
  pub empty : (q : ℕ) → ((worst_run set p k).input 0).release_of q ≡ None → ((seen_at set (worst_run set p k) 0).lanes q).jobs ≡ []
  unfolding seen_at release release_lane state_at start_state
  empty q e = rw e

  empty_idle : (q : ℕ) → (worst.input 0).release_of q ≡ None → oldest seen q ≡ 0
  unfolding oldest_left
  empty_idle q e = rw (empty q e)

  -- the blocker's lane has one job, with work Q
  pub blocker_lane : {b : ℕ} → blocker set p ≡ Some b
      → ((seen_at set (worst_run set p k) 0).lanes b).jobs ≡ job 0 ((worst_run set p k).first_frame b) (task_at set b).lock ∷ []
  unfolding seen_at release release_lane state_at start_state
  blocker_lane {b} e = rw (release_blocker set p k b 0 (role_blocks set p e), once_at 0 (task_at set b).lock)

  blocker_oldest : {b : ℕ} → blocker set p ≡ Some b → oldest seen b ≡ (task_at set b).lock
  blocker_oldest {b} e = ap oldest_left (blocker_lane e) ∙ oldest_one 0 _ (task_at set b).lock

  -- no stretch is under way
  pub none_under_way : (seen_at set (worst_run set p k) 0).to_come ≡ 0
  unfolding seen_at release state_at start_state
  none_under_way = refl

  -- who has tick 0
  pub data FirstTick : Type 0 where
    blocked : (b : ℕ) → blocker set p ≡ Some b → pick set (seen_at set (worst_run set p k) 0) ≡ Some b → FirstTick
    unblocked : blocker set p ≡ None → pick set (seen_at set (worst_run set p k) 0) ≡ None → FirstTick

  -- the blocker has it, and nobody where there is none
  pub first_tick : FirstTick
  first_tick = go (picked set seen)
    where
      only : (q : ℕ) → pick set seen ≡ Some q → 1 ≤ oldest seen q → RoleOf set p q → FirstTick
      only q e pend (is_above l r) = let z : ⊥ = omega (arith, empty_idle q (none_at_zero set p k q (omega arith))) in absurd z
      only q e pend (is_own same r) = let z : ⊥ = omega (arith, empty_idle q (none_at_zero set p k q (omega arith))) in absurd z
      only q e pend (is_blocker l b r) = blocked q b e
      only q e pend (is_absent l b r) = let z : ⊥ = omega (arith, empty_idle q (release_absent set p k q 0 r)) in absurd z

      none_pending : pick set seen ≡ None → ((u : ℕ) → u < length set → oldest seen u ≡ 0) → Answer (blocker set p) → FirstTick
      none_pending e idle_lanes (nothing no_b) = unblocked no_b e
      none_pending e idle_lanes (it_is b is_b) =
          let i : IsBlocker set p b = blocker_is set p is_b in
          let z : ⊥ = omega (arith, i.locks, idle_lanes b i.in_set, blocker_oldest is_b) in
          absurd z

      go : Picked set seen → FirstTick
      go (in_stretch m e q) = let z : ⊥ = omega (arith, none_under_way) in absurd z
      go (highest q e at l pend earlier) = only q at pend (role_of set p q)
      go (idle e at idle_lanes) = none_pending at idle_lanes (answer (blocker set p))

  stretch_zero : {o : Option ℕ} → blocker set p ≡ o → (worst.input 0).stretch ≡ worst_stretch set o 0
  unfolding worst_run
  stretch_zero e = rw e

  -- with a blocker the stretch that starts at tick 0 has its Q
  pub blocker_stretch : {b : ℕ} → blocker set p ≡ Some b → ((worst_run set p k).input 0).stretch ≡ (task_at set b).lock
  unfolding worst_stretch
  blocker_stretch e = stretch_zero e

  -- without one none starts
  pub unblocked_stretch : blocker set p ≡ None → ((worst_run set p k).input 0).stretch ≡ 0
  unfolding worst_stretch
  unblocked_stretch e = stretch_zero e

  -- the blocker's stretch is at most its Q, and no other starts
  pub first_stretch_fits : ((worst_run set p k).input 0).stretch ≤ longest_stretch set (seen_at set (worst_run set p k) 0).to_come (pick set (seen_at set (worst_run set p k) 0))
  unfolding longest_stretch
  first_stretch_fits = go first_tick
    where
      go : FirstTick → (worst.input 0).stretch ≤ longest_stretch set seen.to_come (pick set seen)
      go (blocked b e at) = rw (blocker_stretch e, at, none_under_way) (omega arith)
      go (unblocked e at) = rw (unblocked_stretch e) (omega arith)

  -- ---- the state after it

  -- nothing at or above place p is pending
  quiet_after : pending_work p (state_at set worst 1) ≡ 0
  unfolding pending_work total
  quiet_after =
      let no_more : pending_work p (state_at set worst 1) ≤ pending_work p seen = rw (state_step set worst 0) (tick_adds_nothing p (worst.input 0).stretch (pick set seen) seen) in
      let none_before : pending_work p seen ≡ 0 = sum_eq (suc p) (λ q l. ap total (empty q (none_at_zero set p k q (omega arith)))) ∙ sum_none (suc p) in
      omega arith

  -- of the stretch the blocking is to come, and its job has as much work left
  record Blocked (s : State) : Type 0 where
    to_come_is : s.to_come ≡ blocking (lower set p)
    foreign : Foreign p s

  after_blocker : (b : ℕ) → blocker set p ≡ Some b → Blocked (tick (Some b) (task_at set b).lock seen)
  after_blocker b e =
      record {
        to_come_is = to_come;
        foreign =
            record {
              below = λ _. rw (tick_owner b Q seen) i.below;
              filled = rw (tick_owner b Q seen, to_come, tick_served b Q seen) (le_of_eq (sym left));
            };
      }
    where
      Q : ℕ
      Q = (task_at set b).lock

      i : IsBlocker set p b
      i = blocker_is set p e

      to_come : (tick (Some b) Q seen).to_come ≡ blocking (lower set p)
      to_come = tick_to_come b Q seen ∙ rw (blocker_oldest e, none_under_way, now_starts Q) (stretch_of_job Q ∙ ap pred (blocker_blocks set p e))

      left : oldest_left (serve (seen.lanes b).jobs) ≡ blocking (lower set p)
      left = ap oldest_left (ap serve (blocker_lane e) ∙ serve_job 0 _ Q) ∙ oldest_one 0 _ (pred Q) ∙ ap pred (blocker_blocks set p e)

  after_idle : blocker set p ≡ None → Blocked seen
  after_idle e =
      record {
        to_come_is = none_under_way ∙ sym (no_blocker set p e);
        foreign = record { below = λ h. let z : ⊥ = omega (arith, none_under_way) in absurd z; filled = omega (arith, none_under_way) };
      }

  blocked_at_one : Blocked (state_at set worst 1)
  blocked_at_one = rw (state_step set worst 0) (go first_tick)
    where
      go : FirstTick → Blocked (tick (pick set seen) (worst.input 0).stretch seen)
      go (blocked b e at) = rw (at, blocker_stretch e) (after_blocker b e)
      go (unblocked e at) = rw (tick_idle (worst.input 0).stretch seen at) (after_idle e)

  pub foreign_at_one : Foreign p (state_at set (worst_run set p k) 1)
  foreign_at_one = blocked_at_one.foreign

  -- at tick 1 the stretch has the blocking to come, and nothing else at or above place p is pending
  pub load_at_one : load p (state_at set (worst_run set p k) 1) ≡ blocking (lower set p)
  unfolding load
  load_at_one = omega (arith, quiet_after, blocked_at_one.to_come_is)
