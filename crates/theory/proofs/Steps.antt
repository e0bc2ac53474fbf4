-- One tick of a run: who has it, that a stretch under way has less than Q to come, and how the work at or above a place falls.
use Rattle.std.specs.Prelude.{None, Option, Some}
use mathlib.Core.Bool.{Bool, true, false}
use mathlib.Core.List.{List}
use mathlib.Core.Path.{◌≡◌, refl, ◌∙◌, ap}
use Prim.Native.Nat.{ℕ, zero, suc, pred, ◌+◌, ◌≤◌, ◌<◌}
use native.Mathlib.Decide.{dec_le}
use native.Mathlib.Nat.{le_refl, le_trans, not-suc-le-zero}
use native.Mathlib.Omega.{arith}
use borrow.Author.Tests.{le-leb, lt-leb, eq-eqb, ne_eqb}
use lib.Dec.{leb, eqb}
use lib.ListN.{length}
use Rattle.theory.specs.First.{first}
use Rattle.theory.specs.Tasks.{Task, task_at}
use Rattle.theory.specs.Analysis.{lower, blocking}
use Rattle.theory.specs.Runs.{Lane, State, Run, release_lane, release, oldest_left, pending, pick, serve, serve_lane, stretch_now, stretch_after, tick, start_state, step, state_at, seen_at, longest_stretch, Legal}
use Rattle.theory.proofs.Search.{IsFirst, first_some, first_none, Answer, answer, nothing, it_is}
use Rattle.theory.proofs.Places.{sum_below, sum_le, sum_eq, sum_some, sum_one_less}
use Rattle.theory.proofs.Lanes.{total, total_pending, serve_total, serve_oldest, pending_yes, pending_no, release_oldest, serve_lane_total, serve_lane_next, serve_lane_free}
use Rattle.theory.proofs.Blocking.{lower_lock_blocking}

-- the work left of the job that would have the tick in a lane
abbrev pub oldest : State → ℕ → ℕ
oldest s p = oldest_left (s.lanes p).jobs

-- who has the tick: the job of the stretch under way, else the highest pending, else nobody
pub data Picked (set : List Task) (s : State) : Type 0 where
  in_stretch : (m : ℕ) → s.to_come ≡ suc m → pick set s ≡ Some s.owner → Picked set s
  highest : (q : ℕ) → s.to_come ≡ 0 → pick set s ≡ Some q → q < length set → 1 ≤ oldest s q → ((u : ℕ) → u < q → oldest s u ≡ 0) → Picked set s
  idle : s.to_come ≡ 0 → pick set s ≡ None → ((u : ℕ) → u < length set → oldest s u ≡ 0) → Picked set s

module _ (set : List Task) (s : State) where
  pick_stretch : (m : ℕ) → s.to_come ≡ suc m → pick set s ≡ Some s.owner
  unfolding pick
  pick_stretch m e = rw (e, pick)

  pick_free : s.to_come ≡ 0 → pick set s ≡ first 0 (length set) (λ p. pending (s.lanes p))
  unfolding pick
  pick_free e = rw (e, pick)

  pub picked : Picked set s
  picked = go s.to_come refl
    where
      free : s.to_come ≡ 0 → Answer (first 0 (length set) (λ p. pending (s.lanes p))) → Picked set s
      free e (nothing q) =
          idle e (pick_free e ∙ q) (λ u h. pending_no _ (first_none 0 (length set) (λ p. pending (s.lanes p)) q u (omega arith) (omega arith)))
      free e (it_is p q) =
          let f : IsFirst 0 (length set) (λ p. pending (s.lanes p)) p = first_some 0 (length set) (λ p. pending (s.lanes p)) q in
          highest p e (pick_free e ∙ q) (omega (arith, f.before)) (pending_yes _ f.passes) (λ u h. pending_no _ (f.earlier u (omega arith) h))

      go : (n : ℕ) → s.to_come ≡ n → Picked set s
      go zero e = free e (answer (first 0 (length set) (λ p. pending (s.lanes p))))
      go (suc m) e = in_stretch m e (pick_stretch m e)

-- ---- what a tick does

module _ (p new : ℕ) (s : State) where
  pub tick_served : ((tick (Some p) new s).lanes p).jobs ≡ serve (s.lanes p).jobs
  unfolding tick serve_lane
  tick_served = rw (eq-eqb p p refl)

  pub tick_others : (q : ℕ) → (q ≡ p → ⊥) → (tick (Some p) new s).lanes q ≡ s.lanes q
  unfolding tick serve_lane
  tick_others q ne = rw (ne_eqb q p ne)

  pub tick_owner : (tick (Some p) new s).owner ≡ p
  unfolding tick
  tick_owner = refl

  pub tick_to_come : (tick (Some p) new s).to_come ≡ stretch_after (pred (oldest s p)) (stretch_now s.to_come new)
  unfolding tick
  tick_to_come = refl

-- a stretch goes on only with its job, and is one tick shorter
pub stretch_goes_on : (left n : ℕ) → 1 ≤ stretch_after left n → (1 ≤ left) × (suc (stretch_after left n) ≤ n)
unfolding stretch_after
stretch_goes_on zero n h = let z : ⊥ = omega arith in absurd z
stretch_goes_on (suc left) n h = let k : 1 ≤ pred n = h in let shorter : suc (pred n) ≤ n = omega arith in (omega arith, shorter)

pub stretch_after_le : (left n : ℕ) → stretch_after left n ≤ pred n
unfolding stretch_after
stretch_after_le zero n = omega arith
stretch_after_le (suc left) n = le_refl _

stretch_now_under_way : {n m : ℕ} (new : ℕ) → n ≡ suc m → stretch_now n new ≡ suc m
unfolding stretch_now
stretch_now_under_way new e = rw e

stretch_now_starts : {n : ℕ} (new : ℕ) → n ≡ 0 → stretch_now n new ≡ new
unfolding stretch_now
stretch_now_starts new e = rw e

-- each lane after a tick is the lane with the release seen, served or not
pub lane_step : (set : List Task) (run : Run) (t q : ℕ) → (b : Bool) × ((state_at set run (suc t)).lanes q ≡ serve_lane b ((seen_at set run t).lanes q))
unfolding state_at seen_at step tick serve_lane
lane_step set run t q = go (pick set (seen_at set run t))
  where
    go : (o : Option ℕ) → (b : Bool) × ((tick o (run.input t).stretch (seen_at set run t)).lanes q ≡ serve_lane b ((seen_at set run t).lanes q))
    go None = (false, refl)
    go (Some p) = (eqb q p, refl)

pub seen_lane : (set : List Task) (run : Run) (t q : ℕ) → (seen_at set run t).lanes q ≡ release_lane (task_at set q) t ((run.input t).release_of q) ((state_at set run t).lanes q)
unfolding seen_at release
seen_lane set run t q = refl

module _ (set : List Task) (run : Run) (t q : ℕ) where
  abbrev seen_here : Option ℕ → Lane
  seen_here o = release_lane (task_at set q) t o ((state_at set run t).lanes q)

  -- without a release the lane is the one before
  pub unreleased : (run.input t).release_of q ≡ None → (seen_at set run t).lanes q ≡ (state_at set run t).lanes q
  unfolding release_lane
  unreleased e = seen_lane set run t q ∙ ap seen_here e

  -- a lane after a tick, from the lane before it
  pub lane_after : {o : Option ℕ} → (run.input t).release_of q ≡ o
      → (b : Bool) × ((state_at set run (suc t)).lanes q ≡ serve_lane b (release_lane (task_at set q) t o ((state_at set run t).lanes q)))
  lane_after e = let (b, step) = lane_step set run t q in (b, step ∙ ap (serve_lane b) (seen_lane set run t q ∙ ap seen_here e))

  -- the frame of the next job and the first tick at which it may be released change with a release alone
  pub next_after : {o : Option ℕ} → (run.input t).release_of q ≡ o
      → ((state_at set run (suc t)).lanes q).next ≡ (release_lane (task_at set q) t o ((state_at set run t).lanes q)).next
  next_after e = let (b, after) = lane_after e in ap (λ l. l.next) after ∙ serve_lane_next b _

  pub free_after : {o : Option ℕ} → (run.input t).release_of q ≡ o
      → ((state_at set run (suc t)).lanes q).free_from ≡ (release_lane (task_at set q) t o ((state_at set run t).lanes q)).free_from
  free_after e = let (b, after) = lane_after e in ap (λ l. l.free_from) after ∙ serve_lane_free b _

  -- a release leaves the job that may have the tick
  pub seen_oldest : 1 ≤ oldest (state_at set run t) q → oldest (seen_at set run t) q ≡ oldest (state_at set run t) q
  seen_oldest h = ap (λ l. oldest_left l.jobs) (seen_lane set run t q) ∙ release_oldest (task_at set q) t ((run.input t).release_of q) ((state_at set run t).lanes q) h

pub state_step : (set : List Task) (run : Run) (t : ℕ) → state_at set run (suc t) ≡ tick (pick set (seen_at set run t)) (run.input t).stretch (seen_at set run t)
unfolding state_at seen_at step
state_step set run t = refl

-- ---- a stretch under way: its job is pending, and it has less than Q to come, since it began at least one tick earlier

pub record Held (set : List Task) (s : State) : Type 0 where
  pub in_set : 1 ≤ s.to_come → s.owner < length set
  pub job_pending : 1 ≤ s.to_come → 1 ≤ oldest s s.owner
  pub below_lock : 1 ≤ s.to_come → s.to_come < (task_at set s.owner).lock

pub held_seen : (set : List Task) (run : Run) (t : ℕ) → Held set (state_at set run t) → Held set (seen_at set run t)
unfolding seen_at release
held_seen set run t h =
    record {
      in_set = h.in_set;
      job_pending = λ l. rw (seen_oldest set run t (state_at set run t).owner (h.job_pending l)) (h.job_pending l);
      below_lock = h.below_lock;
    }

held_served : (set : List Task) (s : State) (p new : ℕ) → p < length set → stretch_now s.to_come new ≤ (task_at set p).lock → Held set (tick (Some p) new s)
held_served set s p new l fits =
    record {
      in_set = λ _. rw (tick_owner p new s) l;
      job_pending = λ h. rw (tick_owner p new s, tick_served p new s) (le_trans (goes_on h).0 (serve_oldest (s.lanes p).jobs));
      below_lock = λ h. rw (tick_owner p new s, tick_to_come p new s) (le_trans (goes_on h).1 fits);
    }
  where
    goes_on : 1 ≤ (tick (Some p) new s).to_come
        → (1 ≤ pred (oldest s p)) × (suc (stretch_after (pred (oldest s p)) (stretch_now s.to_come new)) ≤ stretch_now s.to_come new)
    goes_on h = stretch_goes_on (pred (oldest s p)) (stretch_now s.to_come new) (rw (tick_to_come p new s) at h)

longest_free : (set : List Task) {n : ℕ} {o : Option ℕ} {p : ℕ} → n ≡ 0 → o ≡ Some p → longest_stretch set n o ≡ (task_at set p).lock
unfolding longest_stretch
longest_free set e q = rw (e, q)

pub tick_idle : {o : Option ℕ} (new : ℕ) (s : State) → o ≡ None → tick o new s ≡ s
unfolding tick
tick_idle new s q = rw q

held_tick : (set : List Task) (s : State) (new : ℕ) → Held set s → new ≤ longest_stretch set s.to_come (pick set s) → Picked set s → Held set (tick (pick set s) new s)
held_tick set s new h fits (in_stretch m e q) =
    rw q (held_served set s s.owner new (h.in_set (omega arith)) (rw (stretch_now_under_way new e) (omega (arith, h.below_lock (omega arith)))))
held_tick set s new h fits (highest p e q l pend first) =
    rw q (held_served set s p new l (rw (stretch_now_starts new e, ← longest_free set e q) fits))
held_tick set s new h fits (idle e q none_pending) = rw (tick_idle new s q) h

module _ (set : List Task) (run : Run) (legal : Legal set run) where
  pub held : (t : ℕ) → t ≤ run.ticks → Held set (state_at set run t)
  unfolding state_at start_state
  held zero h = record { in_set = λ l. absurd (not-suc-le-zero l); job_pending = λ l. absurd (not-suc-le-zero l); below_lock = λ l. absurd (not-suc-le-zero l) }
  held (suc t) h =
      rw (state_step set run t)
      (held_tick set (seen_at set run t) (run.input t).stretch (held_seen set run t (held t (omega arith))) (legal.each_tick t h).stretch_fits (picked set (seen_at set run t)))

  -- a stretch of a lower task has at most the blocking to come
  pub stretch_blocks : (t p : ℕ) → t ≤ run.ticks → p < (state_at set run t).owner → (state_at set run t).to_come ≤ blocking (lower set p)
  stretch_blocks t p h below = go (dec_le 1 (state_at set run t).to_come)
    where
      go : Dec (1 ≤ (state_at set run t).to_come) → (state_at set run t).to_come ≤ blocking (lower set p)
      go (no l) = omega arith
      go (yes l) = omega (arith, (held t h).below_lock l, lower_lock_blocking set p (state_at set run t).owner below)

-- ---- the work at or above place p, and a lower task's stretch

-- the work pending at or above place p
unfoldable pub pending_work : ℕ → State → ℕ
pending_work p s = sum_below (suc p) (λ q. total (s.lanes q).jobs)

-- what is to come of a stretch whose owner is below place p
unfoldable pub stray_of : Bool → ℕ → ℕ
stray_of true n = 0
stray_of false n = n

unfoldable pub stray : ℕ → State → ℕ
stray p s = stray_of (leb s.owner p) s.to_come

stray_above : (p : ℕ) (s : State) → s.owner ≤ p → stray p s ≡ 0
unfolding stray stray_of
stray_above p s h = rw (le-leb _ _ h)

stray_below : (p : ℕ) (s : State) → p < s.owner → stray p s ≡ s.to_come
unfolding stray stray_of
stray_below p s h = rw (lt-leb _ _ h)

-- a release changes no stretch
pub stray_seen : (set : List Task) (run : Run) (p t : ℕ) → stray p (seen_at set run t) ≡ stray p (state_at set run t)
unfolding stray seen_at release
stray_seen set run p t = refl

-- in a legal run it is at most the blocking
pub stray_blocks : (set : List Task) (run : Run) → Legal set run → (p t : ℕ) → t ≤ run.ticks → stray p (state_at set run t) ≤ blocking (lower set p)
stray_blocks set run legal p t h = go (dec_le (state_at set run t).owner p)
  where
    go : Dec ((state_at set run t).owner ≤ p) → stray p (state_at set run t) ≤ blocking (lower set p)
    go (yes l) = omega (arith, stray_above p (state_at set run t) l)
    go (no l) = omega (arith, stray_below p (state_at set run t) (omega arith), stretch_blocks set run legal t p h (omega arith))

-- a tick given at or above place p takes one unit
pub served_above : (p q new : ℕ) (s : State) → q ≤ p → 1 ≤ oldest s q → pending_work p s ≡ suc (pending_work p (tick (Some q) new s))
unfolding pending_work
served_above p q new s h l =
    sum_one_less {n = suc p} {q = q} (omega arith) (rw (tick_served q new s) (serve_total (s.lanes q).jobs l))
    (λ u _ ne. rw (tick_others q new s u ne))

-- one given below takes none
pub served_below : (p q new : ℕ) (s : State) → p < q → pending_work p s ≡ pending_work p (tick (Some q) new s)
unfolding pending_work
served_below p q new s h = sum_eq (suc p) (λ u l. rw (tick_others q new s u (λ e. omega arith)))

-- no tick adds work
pub tick_adds_nothing : (p new : ℕ) (o : Option ℕ) (s : State) → pending_work p (tick o new s) ≤ pending_work p s
unfolding pending_work tick
tick_adds_nothing p new None s = le_refl _
tick_adds_nothing p new (Some q) s = sum_le (suc p) (λ u l. serve_lane_total (eqb u q) (s.lanes u))

takes_above : (p q new : ℕ) (s : State) → q ≤ p → 1 ≤ oldest s q
    → suc (pending_work p (tick (Some q) new s) + stray p (tick (Some q) new s)) ≤ pending_work p s + stray p s
takes_above p q new s h l =
    let above : (tick (Some q) new s).owner ≤ p = rw (tick_owner q new s) h in
    omega (arith, served_above p q new s h l, stray_above p (tick (Some q) new s) above)

takes_below : (p m new : ℕ) (s : State) → p < s.owner → s.to_come ≡ suc m
    → suc (pending_work p (tick (Some s.owner) new s) + stray p (tick (Some s.owner) new s)) ≤ pending_work p s + stray p s
takes_below p m new s h e =
    let below : p < (tick (Some s.owner) new s).owner = rw (tick_owner s.owner new s) h in
    let shorter : (tick (Some s.owner) new s).to_come ≤ pred (stretch_now s.to_come new) = rw (tick_to_come s.owner new s) (stretch_after_le _ _) in
    omega (arith, served_below p s.owner new s h, stray_below p s h, stray_below p (tick (Some s.owner) new s) below, stretch_now_under_way new e)

-- where work is pending at or above place p, some lane there has a job that may have the tick
busy_at : (p : ℕ) (s : State) → 1 ≤ pending_work p s → (u : ℕ) × (u ≤ p) × (1 ≤ oldest s u)
unfolding pending_work
busy_at p s h = let (u, l, k) = sum_some (suc p) (λ q. total (s.lanes q).jobs) h in (u, omega arith, total_pending (s.lanes u).jobs k)

-- while work is pending at or above place p, each tick takes one unit of it or of a lower task's stretch, and no lower stretch begins
pub tick_takes_one : (set : List Task) (p new : ℕ) (s : State) → p < length set → Held set s → 1 ≤ pending_work p s → Picked set s
    → suc (pending_work p (tick (pick set s) new s) + stray p (tick (pick set s) new s)) ≤ pending_work p s + stray p s
tick_takes_one set p new s in_set h busy (in_stretch m e q) = rw q (go (dec_le s.owner p))
  where
    go : Dec (s.owner ≤ p) → suc (pending_work p (tick (Some s.owner) new s) + stray p (tick (Some s.owner) new s)) ≤ pending_work p s + stray p s
    go (yes l) = takes_above p s.owner new s l (h.job_pending (omega arith))
    go (no l) = takes_below p m new s (omega arith) e
tick_takes_one set p new s in_set h busy (highest q e k l pend earlier) =
    let (u, v, w) = busy_at p s busy in
    rw k (takes_above p q new s (go u v w (dec_le q u)) pend)
  where
    go : (u : ℕ) → u ≤ p → 1 ≤ oldest s u → Dec (q ≤ u) → q ≤ p
    go u v w (yes x) = omega arith
    go u v w (no x) = let z : ⊥ = omega (arith, earlier u (omega arith)) in absurd z
tick_takes_one set p new s in_set h busy (idle e q none_pending) =
    let (u, v, w) = busy_at p s busy in
    let z : ⊥ = omega (arith, none_pending u (omega arith)) in
    absurd z
