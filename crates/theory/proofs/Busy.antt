-- Busy windows: from a time at which nothing at or above place p is pending, such a time comes again once the work released fits.
use mathlib.Core.List.{List}
use mathlib.Core.Logic.{◌⊎◌, inl, inr}
use mathlib.Core.Path.{◌≡◌, ◌∙◌, ap}
use Prim.Native.Nat.{ℕ, zero, suc, ◌+◌, ◌-◌, ◌≤◌, ◌<◌}
use native.Mathlib.Decide.{ℕ_discrete, le_ind}
use native.Mathlib.Nat.{le_refl, le_trans}
use native.Mathlib.Omega.{arith}
use lib.ListN.{length}
use Rattle.theory.specs.Tasks.{Task, task_at}
use Rattle.theory.specs.Analysis.{lower, blocking}
use Rattle.theory.specs.Runs.{Run, pick, start_state, state_at, seen_at, Legal}
use Rattle.theory.proofs.Places.{sum_below, sum_none, sum_eq, sum_add, sum_at}
use Rattle.theory.proofs.Lanes.{total, given, release_total}
use Rattle.theory.proofs.Steps.{held, held_seen, picked, pending_work, stray, state_step, seen_lane, stray_seen, stray_blocks, tick_adds_nothing, tick_takes_one}
use Rattle.theory.proofs.Arrivals.{arrived, arrived_suc}

-- nothing at or above place p is pending at time t
abbrev pub Quiet : List Task → Run → ℕ → ℕ → Type 0
Quiet set run p t = pending_work p (state_at set run t) ≡ 0

-- the work released at or above place p before time t
unfoldable pub arrived_above : Run → ℕ → ℕ → ℕ
arrived_above run p t = sum_below (suc p) (λ q. arrived run q t)

module _ (set : List Task) (run : Run) (p : ℕ) where
  pub quiet_at_start : Quiet set run p 0
  unfolding pending_work state_at start_state total
  quiet_at_start = sum_none (suc p)

  -- at a quiet time no lane at or above place p has work
  pub quiet_lane : (t q : ℕ) → q ≤ p → Quiet set run p t → total ((state_at set run t).lanes q).jobs ≡ 0
  unfolding pending_work
  quiet_lane t q h e =
      let in_sum : q < suc p = omega arith in
      omega (arith, sum_at (λ q. total ((state_at set run t).lanes q).jobs) in_sum)

  -- releases add their work
  pub seen_work : (t : ℕ) → pending_work p (seen_at set run t) + arrived_above run p t ≡ pending_work p (state_at set run t) + arrived_above run p (suc t)
  unfolding pending_work arrived_above
  seen_work t = omega (arith, lanes, sum_add (suc p) before new, arrivals, sum_add (suc p) (λ q. arrived run q t) new)
    where
      before : ℕ → ℕ
      before q = total ((state_at set run t).lanes q).jobs

      new : ℕ → ℕ
      new q = given ((run.input t).release_of q)

      lanes : sum_below (suc p) (λ q. total ((seen_at set run t).lanes q).jobs) ≡ sum_below (suc p) (λ q. before q + new q)
      lanes =
          sum_eq (suc p)
          (λ q _. ap (λ l. total l.jobs) (seen_lane set run t q) ∙ release_total (task_at set q) t ((run.input t).release_of q) ((state_at set run t).lanes q))

      arrivals : sum_below (suc p) (λ q. arrived run q (suc t)) ≡ sum_below (suc p) (λ q. arrived run q t + new q)
      arrivals = sum_eq (suc p) (λ q _. arrived_suc run q t)

  -- the last quiet time up to time t
  pub last_quiet : (t : ℕ) → (a : ℕ) × (a ≤ t) × Quiet set run p a × ((u : ℕ) → a < u → u ≤ t → Quiet set run p u → ⊥)
  last_quiet zero = (0, le_refl 0, quiet_at_start, λ u l h _. omega arith)
  last_quiet (suc t) = go (ℕ_discrete (pending_work p (state_at set run (suc t))) 0) (last_quiet t)
    where
      go : Dec (Quiet set run p (suc t)) → (a : ℕ) × (a ≤ t) × Quiet set run p a × ((u : ℕ) → a < u → u ≤ t → Quiet set run p u → ⊥)
          → (a : ℕ) × (a ≤ suc t) × Quiet set run p a × ((u : ℕ) → a < u → u ≤ suc t → Quiet set run p u → ⊥)
      go (yes e) before = (suc t, le_refl _, e, λ u l h _. omega arith)
      go (no ne) (a, h, e, none_later) = (a, omega arith, e, λ u l k q. later u l k q (ℕ_discrete u (suc t)))
        where
          later : (u : ℕ) → a < u → u ≤ suc t → Quiet set run p u → Dec (u ≡ suc t) → ⊥
          later u l k q (yes same) = ne (rw same at q)
          later u l k q (no other) = none_later u l (omega arith) q

  -- a tick before a time that is not quiet takes one unit
  busy_tick : Legal set run → p < length set → (t : ℕ) → t < run.ticks → 1 ≤ pending_work p (state_at set run (suc t))
      → suc (pending_work p (state_at set run (suc t)) + stray p (state_at set run (suc t))) + arrived_above run p t
      ≤ pending_work p (state_at set run t) + stray p (state_at set run t) + arrived_above run p (suc t)
  busy_tick legal in_set t h busy = omega (arith, taken, seen_work t, stray_seen set run p t)
    where
      seen_busy : 1 ≤ pending_work p (seen_at set run t)
      seen_busy = le_trans busy (rw (state_step set run t) (tick_adds_nothing p (run.input t).stretch (pick set (seen_at set run t)) (seen_at set run t)))

      taken : suc (pending_work p (state_at set run (suc t)) + stray p (state_at set run (suc t))) ≤ pending_work p (seen_at set run t) + stray p (seen_at set run t)
      taken =
          rw (state_step set run t)
          (tick_takes_one set p (run.input t).stretch (seen_at set run t) in_set (held_seen set run t (held set run legal t (omega arith))) seen_busy (picked set (seen_at set run t)))

  module _ (legal : Legal set run) (in_set : p < length set) (a : ℕ) (quiet : Quiet set run p a) where
    -- in the window from a up to t all ticks went to work at or above place p or to a lower task's stretch that was under way at a
    Full : ℕ → Type 0
    Full t =
        pending_work p (state_at set run t) + stray p (state_at set run t) + (t + arrived_above run p a)
        ≤ blocking (lower set p) + (a + arrived_above run p t)

    Again : ℕ → Type 0
    Again t = (u : ℕ) × (a < u) × (u ≤ t) × Quiet set run p u

    window_step : (t : ℕ) → a ≤ t → t < run.ticks → Again t ⊎ Full t → Again (suc t) ⊎ Full (suc t)
    unfolding Again Full
    window_step t h k (inl (u, l, m, q)) = inl (u, l, omega arith, q)
    window_step t h k (inr full) = go (ℕ_discrete (pending_work p (state_at set run (suc t))) 0)
      where
        go : Dec (Quiet set run p (suc t)) → Again (suc t) ⊎ Full (suc t)
        go (yes e) = inl (suc t, omega arith, le_refl _, e)
        go (no ne) = inr (omega (arith, busy_tick legal in_set t k (omega arith)))

    -- from a on, either a quiet time comes again, or the window is full
    window : (t : ℕ) → a ≤ t → t ≤ run.ticks → Again t ⊎ Full t
    unfolding Again Full
    window t h =
        le_ind (λ t. t ≤ run.ticks → Again t ⊎ Full t)
        (λ k. inr (omega (arith, stray_blocks set run legal p a k)))
        (λ t l before k. window_step t l k (before (omega arith))) t h

    -- once the blocking and the work released fit into the window, a quiet time has come
    pub quiet_again : (t : ℕ) → a < t → t ≤ run.ticks → blocking (lower set p) + arrived_above run p t ≤ (t - a) + arrived_above run p a
        → (u : ℕ) × (a < u) × (u ≤ t) × Quiet set run p u
    unfolding Again Full
    quiet_again t h k fits = go (window t (omega arith) k)
      where
        go : Again t ⊎ Full t → (u : ℕ) × (a < u) × (u ≤ t) × Quiet set run p u
        go (inl x) = x
        go (inr full) = (t, h, le_refl t, omega arith)
