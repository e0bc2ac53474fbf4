-- A tick at which no stretch starts, while every stretch under way is a lower task's with the work to fill it: exactly one unit is taken.
use Rattle.std.specs.Prelude.{Some}
use mathlib.Core.List.{List}
use mathlib.Core.Path.{◌≡◌, refl, sym, ◌∙◌, ap}
use Prim.Native.Nat.{ℕ, zero, suc, pred, ◌+◌, ◌≤◌, ◌<◌}
use native.Mathlib.Decide.{dec_le, ℕ_discrete}
use native.Mathlib.Nat.{le_trans}
use native.Mathlib.Omega.{arith}
use lib.ListN.{length}
use Rattle.theory.specs.Tasks.{Task}
use Rattle.theory.specs.Runs.{State, Run, release, pick, stretch_now, stretch_after, tick, state_at, seen_at}
use Rattle.theory.proofs.Places.{sum_none, sum_eq}
use Rattle.theory.proofs.Lanes.{total, oldest_none, total_pending, serve_oldest}
use Rattle.theory.proofs.Steps.{oldest, Picked, in_stretch, highest, idle, tick_served, tick_others, tick_owner, tick_to_come, tick_idle, seen_oldest, pending_work, served_above, served_below}
use Rattle.theory.proofs.Busy.{arrived_above, seen_work}

-- a stretch under way is a lower task's, and its job has the work to fill it
pub record Foreign (p : ℕ) (s : State) : Type 0 where
  pub below : 1 ≤ s.to_come → p < s.owner
  pub filled : s.to_come ≤ oldest s s.owner

-- the work pending at or above place p, and what is to come of the stretch
unfoldable pub load : ℕ → State → ℕ
load p s = pending_work p s + s.to_come

-- ---- stretches

-- a stretch with the work to fill it does not end early
stretch_filled : (left n : ℕ) → suc n ≤ left → stretch_after (pred left) (suc n) ≡ n
unfolding stretch_after
stretch_filled zero n h = let z : ⊥ = omega arith in absurd z
stretch_filled (suc zero) n h = omega arith
stretch_filled (suc (suc left)) n h = refl

-- without a stretch none is to come
pub stretch_none : (left : ℕ) → stretch_after left 0 ≡ 0
unfolding stretch_after
stretch_none zero = refl
stretch_none (suc left) = refl

-- a stretch as long as its job stays so
pub stretch_of_job : (m : ℕ) → stretch_after (pred m) m ≡ pred m
unfolding stretch_after
stretch_of_job zero = refl
stretch_of_job (suc zero) = refl
stretch_of_job (suc (suc m)) = refl

-- with none under way the one that starts is under way
pub now_starts : (new : ℕ) → stretch_now 0 new ≡ new
unfolding stretch_now
now_starts new = refl

module _ (s : State) where
  -- a stretch under way that is filled is one tick shorter
  to_come_less : (n : ℕ) → s.to_come ≡ suc n → s.to_come ≤ oldest s s.owner → (tick (Some s.owner) 0 s).to_come ≡ n
  unfolding stretch_now
  to_come_less n e filled = tick_to_come s.owner 0 s ∙ rw e (stretch_filled (oldest s s.owner) n (omega arith))

  -- with none under way none is after the tick
  to_come_none : (q : ℕ) → s.to_come ≡ 0 → (tick (Some q) 0 s).to_come ≡ 0
  unfolding stretch_now
  to_come_none q e = tick_to_come q 0 s ∙ rw e (stretch_none (pred (oldest s q)))

-- ---- one tick

module _ (set : List Task) (p : ℕ) (s : State) (f : Foreign p s) where
  -- after such a tick that is still so
  pub foreign_tick : Picked set s → Foreign p (tick (pick set s) 0 s)
  foreign_tick (in_stretch n e q) =
      rw q
      (record {
        below = λ _. rw (tick_owner s.owner 0 s) (f.below (omega arith));
        filled =
            rw (tick_owner s.owner 0 s, to_come_less s n e f.filled, tick_served s.owner 0 s)
            (le_trans (omega (arith, f.filled)) (serve_oldest (s.lanes s.owner).jobs));
      })
  foreign_tick (highest u e q l pend earlier) =
      let none_after : (tick (Some u) 0 s).to_come ≡ 0 = to_come_none s u e in
      rw q (record { below = λ h. let z : ⊥ = omega arith in absurd z; filled = omega arith })
  foreign_tick (idle e q none_pending) = rw (tick_idle 0 s q) f

  module _ (in_set : p < length set) (own_pending : 1 ≤ total (s.lanes p).jobs) where
    pending_here : 1 ≤ oldest s p
    pending_here = total_pending (s.lanes p).jobs own_pending

    not_idle : ((u : ℕ) → u < length set → oldest s u ≡ 0) → ⊥
    not_idle none_pending = omega (arith, none_pending p in_set, pending_here)

    -- a tick that goes to another task leaves the work pending
    not_done : (u : ℕ) → (p ≡ u → ⊥) → total ((tick (Some u) 0 s).lanes p).jobs ≡ 0 → ⊥
    not_done u ne done =
        let same : total ((tick (Some u) 0 s).lanes p).jobs ≡ total (s.lanes p).jobs = ap (λ l. total l.jobs) (tick_others u 0 s p ne) in
        omega arith

    -- while the task at place p has work pending, the tick takes one unit of the stretch or of the work at or above place p
    pub takes_one : Picked set s → load p s ≡ suc (load p (tick (pick set s) 0 s))
    unfolding load
    takes_one (in_stretch n e q) =
        rw q (omega (arith, served_below p s.owner 0 s (f.below (omega arith)), to_come_less s n e f.filled))
    takes_one (highest u e q l pend earlier) =
        let not_below : ¬ (p < u) = λ h. omega (arith, earlier p h, pending_here) in
        rw q (omega (arith, served_above p u 0 s (omega arith) pend, to_come_none s u e))
    takes_one (idle e q none_pending) = absurd (not_idle none_pending)

    -- its last unit is taken when nothing above is pending and no stretch is under way
    pub nothing_left : Picked set s → total ((tick (pick set s) 0 s).lanes p).jobs ≡ 0 → load p (tick (pick set s) 0 s) ≡ 0
    unfolding load pending_work
    nothing_left (in_stretch n e q) done = absurd (not_done s.owner (λ own. omega (arith, f.below (omega arith))) (rw q at done))
    nothing_left (highest u e q l pend earlier) done = rw q (go (ℕ_discrete p u) (rw q at done))
      where
        go : Dec (p ≡ u) → total ((tick (Some u) 0 s).lanes p).jobs ≡ 0 → load p (tick (Some u) 0 s) ≡ 0
        go (no ne) gone = absurd (not_done u ne gone)
        go (yes own) gone =
            let nothing : pending_work p (tick (Some u) 0 s) ≡ 0 = sum_eq (suc p) (λ v h. each v h (ℕ_discrete v u)) ∙ sum_none (suc p) in
            omega (arith, to_come_none s u e)
          where
            each : (v : ℕ) → v < suc p → Dec (v ≡ u) → total ((tick (Some u) 0 s).lanes v).jobs ≡ 0
            each v h (yes same) = ap (λ x. total ((tick (Some u) 0 s).lanes x).jobs) (same ∙ sym own) ∙ gone
            each v h (no ne) = rw (tick_others u 0 s v ne) (oldest_none (s.lanes v).jobs (earlier v (omega arith)))
    nothing_left (idle e q none_pending) done = absurd (not_idle none_pending)

-- ---- releases

module _ (set : List Task) (run : Run) (p t : ℕ) where
  pub foreign_seen : Foreign p (state_at set run t) → Foreign p (seen_at set run t)
  unfolding seen_at release
  foreign_seen f = record { below = f.below; filled = go (dec_le 1 (oldest (state_at set run t) (state_at set run t).owner)) }
    where
      go : Dec (1 ≤ oldest (state_at set run t) (state_at set run t).owner) → (state_at set run t).to_come ≤ oldest (seen_at set run t) (state_at set run t).owner
      go (yes h) = rw (seen_oldest set run t (state_at set run t).owner h) f.filled
      go (no h) = omega (arith, f.filled)

  -- releases add their work
  pub load_seen : load p (seen_at set run t) + arrived_above run p t ≡ load p (state_at set run t) + arrived_above run p (suc t)
  unfolding load seen_at release
  load_seen = omega (arith, seen_work set run p t)
