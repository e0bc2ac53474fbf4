-- In the worst run of a frame its job is complete exactly when the demand is first met.
use Rattle.std.specs.Prelude.{None, Some}
use mathlib.Core.List.{List, [], ◌∷◌, Memᴰ}
use mathlib.Core.Path.{◌≡◌, refl, sym, ◌∙◌, ap, subst}
use Prim.Native.Nat.{ℕ, zero, suc, ◌+◌, ◌≤◌, ◌<◌}
use native.Mathlib.Decide.{ℕ_discrete}
use native.Mathlib.Nat.{le_refl}
use native.Mathlib.Numerals.{one-add}
use native.Mathlib.Omega.{arith}
use lib.ListN.{length}
use Rattle.theory.specs.Tasks.{Task, task_at, frame_count, frame, deadline_of, WellFormed, Admitted}
use Rattle.theory.specs.Analysis.{lower, blocking, IsResponse, demand_of, response_of}
use Rattle.theory.specs.Runs.{job, State, Run, release_lane, pick, tick, state_at, seen_at, Left, TakesLonger, Takes, Misses}
use Rattle.theory.specs.WorstRun.{worst_first, worst_run}
use Rattle.theory.proofs.Work.{deadline_positive}
use Rattle.theory.proofs.Places.{sum_eq, sum_none, sum_at}
use Rattle.theory.proofs.Lanes.{total, total_one, serve_empty, serve_one}
use Rattle.theory.proofs.Steps.{picked, lane_step, seen_lane, state_step, pending_work}
use Rattle.theory.proofs.Busy.{arrived_above}
use Rattle.theory.proofs.Soundness.{periods_above}
use Rattle.theory.proofs.Verdict.{response_of_is, no_response_of_is}
use Rattle.theory.proofs.WorstReleases.{once_at, once_else, role_own, release_own, none_at_zero, arrived_at_one, arrived_demand}
use Rattle.theory.proofs.WorstTicks.{Foreign, load, foreign_tick, foreign_seen, takes_one, nothing_left, load_seen}
use Rattle.theory.proofs.WorstFirstTick.{empty, foreign_at_one, load_at_one}
use Rattle.theory.proofs.WorstLegal.{no_later_stretch, next_at_one}

module _ (set : List Task) (admitted : Admitted set) (p : ℕ) (in_set : p < length set) (k : ℕ) (k_in : k < frame_count (task_at set p)) where
  abbrev worst : Run
  worst = worst_run set p k

  -- the state x ticks after tick 1 began, before and after the releases of that tick
  abbrev before : ℕ → State
  before x = state_at set worst (suc x)

  abbrev seen : ℕ → State
  seen x = seen_at set worst (suc x)

  -- the work of the job that is left x ticks after its release
  abbrev left : ℕ → ℕ
  left x = total ((seen x).lanes p).jobs

  one_step : (x : ℕ) → before (suc x) ≡ tick (pick set (seen x)) 0 (seen x)
  one_step x = state_step set worst (suc x) ∙ ap (λ new. tick (pick set (seen x)) new (seen x)) (no_later_stretch set admitted p in_set k k_in x)

  -- every stretch from tick 1 on is the blocker's
  foreign : (x : ℕ) → Foreign p (before x)
  foreign zero = foreign_at_one set p k
  foreign (suc x) = rw (one_step x) (foreign_tick set p (seen x) (foreign_seen set worst p (suc x) (foreign x)) (picked set (seen x)))

  -- ---- the job's own lane

  -- at tick 1 it is empty
  pub own_empty : ((state_at set (worst_run set p k) 1).lanes p).jobs ≡ []
  own_empty =
      let (b, e) = lane_step set worst 0 p in
      ap (λ l. l.jobs) e ∙ serve_empty b ((seen_at set worst 0).lanes p) (empty set p k p (none_at_zero set p k p (le_refl p)))

  own_next : ((before 0).lanes p).next ≡ k
  unfolding worst_first
  own_next = next_at_one set admitted p in_set k k_in p (le_refl p) ∙ rw (role_own set p)

  own_first : ((seen 0).lanes p).jobs ≡ job 1 k (frame (task_at set p) k) ∷ []
  unfolding release_lane
  own_first =
      ap (λ l. l.jobs) (seen_lane set worst 1 p)
      ∙ rw (release_own set p k 1, once_at 1 (frame (task_at set p) k), own_next, own_empty)

  -- the job is released once
  pub own_later : (x : ℕ) → (seen_at set (worst_run set p k) (suc (suc x))).lanes p ≡ (state_at set (worst_run set p k) (suc (suc x))).lanes p
  unfolding release_lane
  own_later x =
      seen_lane set worst (suc (suc x)) p
      ∙ rw (release_own set p k (suc (suc x)), once_else 1 (frame (task_at set p) k) (suc (suc x)) (λ z. omega arith))

  -- and the only one of its lane
  pub own_jobs : (x : ℕ) → (w : ℕ) × (((seen_at set (worst_run set p k) (suc x)).lanes p).jobs ≡ job 1 k w ∷ [])
  own_jobs zero = (frame (task_at set p) k, own_first)
  own_jobs (suc x) =
      let (w, e) = own_jobs x in
      let (b, step) = lane_step set worst (suc x) p in
      let (v, served) = serve_one b ((seen x).lanes p) e in
      (v, ap (λ l. l.jobs) (own_later x ∙ step) ∙ served)

  left_is : (x : ℕ) → Memᴰ (job 1 k (left x)) ((seen x).lanes p).jobs
  left_is x = let (w, e) = own_jobs x in rw (total_one e, e) (Memᴰ.head refl)

  left_at_release : left 0 ≡ frame (task_at set p) k
  left_at_release = total_one own_first

  -- ---- the load: as long as the job is pending each tick takes one unit

  nothing_before : arrived_above worst p 1 ≡ 0
  unfolding arrived_above
  nothing_before = sum_eq (suc p) (λ q l. arrived_at_one set p k q (omega arith)) ∙ sum_none (suc p)

  load_step : (x : ℕ) → 1 ≤ left x → load p (seen x) ≡ suc (load p (before (suc x)))
  load_step x h = rw (one_step x) (takes_one set p (seen x) (foreign_seen set worst p (suc x) (foreign x)) in_set h (picked set (seen x)))

  balance : (x : ℕ) → ((u : ℕ) → u < x → 1 ≤ left u) → load p (before x) + x ≡ blocking (lower set p) + arrived_above worst p (suc x)
  balance zero pend = omega (arith, load_at_one set p k, nothing_before)
  balance (suc x) pend =
      omega (arith, balance x (λ u l. pend u (omega arith)), load_seen set worst p (suc x), load_step x (pend x (omega arith)))

  -- what is left of the demand after x ticks is the load
  load_left : (x : ℕ) → ((u : ℕ) → u < suc x → 1 ≤ left u) → load p (before (suc x)) + suc x ≡ demand_of set p k (suc x)
  load_left x pend = balance (suc x) pend ∙ arrived_demand set p k x (omega arith) (periods_above set admitted p in_set)

  -- the job is complete exactly if there is no load
  left_later : (x : ℕ) → left (suc x) ≡ total ((before (suc x)).lanes p).jobs
  left_later x = ap (λ l. total l.jobs) (own_later x)

  done_if_no_load : (x : ℕ) → load p (before (suc x)) ≡ 0 → left (suc x) ≡ 0
  unfolding load pending_work
  done_if_no_load x e =
      let own_lane : p < suc p = omega arith in
      omega (arith, left_later x, sum_at (λ q. total ((before (suc x)).lanes q).jobs) own_lane)

  no_load_if_done : (x : ℕ) → 1 ≤ left x → left (suc x) ≡ 0 → load p (before (suc x)) ≡ 0
  no_load_if_done x h e =
      let complete : total ((before (suc x)).lanes p).jobs ≡ 0 = sym (left_later x) ∙ e in
      rw (one_step x)
      (nothing_left set p (seen x) (foreign_seen set worst p (suc x) (foreign x)) in_set h (picked set (seen x)) (rw (one_step x) at complete))

  -- ---- the job is complete when the demand is met, and not before

  well_formed : WellFormed (task_at set p)
  well_formed = (admitted.each_task p in_set).well_formed

  -- as long as the demand has been more than the time, the job is pending
  pending_before : (x : ℕ) → ((u : ℕ) → 1 ≤ u → u ≤ x → u < demand_of set p k u) → (u : ℕ) → u ≤ x → 1 ≤ left u
  pending_before zero more u h =
      let first : u ≡ 0 = omega arith in
      rw first (omega (arith, left_at_release, well_formed.frame_positive k k_in))
  pending_before (suc x) more u h = go (ℕ_discrete u (suc x)) (pending_before x (λ u l m. more u l (omega arith)))
    where
      last : ((u : ℕ) → u ≤ x → 1 ≤ left u) → Dec (left (suc x) ≡ 0) → 1 ≤ left (suc x)
      last earlier (no ne) = omega arith
      last earlier (yes e) =
          let z : ⊥ = omega (
            arith,
            no_load_if_done x (earlier x (le_refl x)) e,
            load_left x (λ u l. earlier u (omega arith)),
            more (suc x) (omega arith) (le_refl _),
          )
          in
          absurd z

      go : Dec (u ≡ suc x) → ((u : ℕ) → u ≤ x → 1 ≤ left u) → 1 ≤ left u
      go (yes e) earlier = rw e (last earlier (ℕ_discrete (left (suc x)) 0))
      go (no ne) earlier = earlier u (omega arith)

  -- where it is first met, the job is complete
  done_at : (x : ℕ) → ((u : ℕ) → 1 ≤ u → u < suc x → u < demand_of set p k u) → demand_of set p k (suc x) ≤ suc x → left (suc x) ≡ 0
  done_at x more enough =
      done_if_no_load x
      (omega (arith, load_left x (λ u l. pending_before x (λ v l m. more v l (omega arith)) u (omega arith))))

  -- ---- in the words of the runs

  worst_ticks : worst.ticks ≡ suc (deadline_of (task_at set p) k)
  unfolding worst_run
  worst_ticks = refl

  job_left : (x : ℕ) → x ≤ deadline_of (task_at set p) k → Left set worst p 1 k (1 + x) (left x)
  job_left x h =
      rw (one-add x)
      (record {
        released = omega (arith, worst_ticks, deadline_positive well_formed k k_in);
        reached = omega (arith, worst_ticks);
        stands = left_is x;
      })

  longer : (x : ℕ) → x ≤ deadline_of (task_at set p) k → ((u : ℕ) → 1 ≤ u → u ≤ x → u < demand_of set p k u) → TakesLonger set worst p 1 k x
  unfolding TakesLonger
  longer x h more = (left x, pending_before x more x (le_refl x), job_left x h)

  -- the frame's job takes exactly the response time
  pub worst_exact : {R : ℕ} → response_of set p k ≡ Some R → Takes set (worst_run set p k) p 1 k R
  unfolding Takes
  worst_exact {R} e = go R ((response_of_is set p k).0 e)
    where
      go : (R : ℕ) → IsResponse (demand_of set p k) (deadline_of (task_at set p) k) R → Takes set worst p 1 k R
      go zero r = let z : ⊥ = omega (arith, r.positive) in absurd z
      go (suc x) r = (
        subst (Left set worst p 1 k (1 + suc x)) (done_at x r.least r.enough) (job_left (suc x) r.within),
        λ y l. longer y (omega (arith, r.within)) (λ u h m. r.least u h (omega arith)),
      )

  -- without a response time it misses
  pub worst_misses : response_of set p k ≡ None → Misses set (worst_run set p k) p 1 k
  unfolding Misses
  worst_misses e = longer (deadline_of (task_at set p) k) (le_refl _) ((no_response_of_is set p k).0 e)
