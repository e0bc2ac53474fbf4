-- The play of the worst script of a frame without a response time ends with the miss of that frame's job, and no task misses before or beside it.
use Rattle.std.specs.Prelude.{None, Option, Some, unwrap_or}
use mathlib.Core.Bool.{true, false}
use mathlib.Core.List.Memᴰ
use mathlib.Core.List.{List, [], ◌∷◌, Memᴰ}
use mathlib.Core.Logic.{◌⊎◌, inl, inr}
use mathlib.Core.Path.{◌≡◌, refl, sym, ◌∙◌, ap, subst}
use Prim.Native.Nat.{ℕ, zero, suc, ◌+◌, ◌*◌, ◌-◌, ◌≤◌, ◌<◌}
use native.Mathlib.Nat.{le_refl}
use native.Mathlib.Numerals.{one-add}
use native.Mathlib.Omega.{arith}
use lib.ListN.{length}
use Rattle.theory.specs.First.{first}
use Rattle.theory.specs.Tasks.{Task, task_at, frame_count, frame, largest_frame, deadline_of, AdmittedTask, Admitted}
use Rattle.theory.specs.Analysis.{response_of, passes, FirstWithout, blocker, missed, verdict}
use Rattle.theory.specs.Runs.{Job, job, Run, state_at, seen_at, Left, Misses, TakesLonger}
use Rattle.theory.specs.WorstRun.{worst_first, worst_run}
use Rattle.theory.proofs.Search.{bool_cases, first_is, first_is_none}
use Rattle.theory.proofs.Work.{largest_is, deadline_positive}
use Rattle.theory.proofs.Lanes.{total, mem_total, serve_lane_total}
use Rattle.theory.proofs.Steps.{lane_step}
use Rattle.theory.proofs.Soundness.{unfinished_in_time}
use Rattle.theory.proofs.Verdict.{verdict_missed}
use Rattle.theory.proofs.WorstReleases.{once_at, RoleOf, is_above, is_own, is_blocker, is_absent, role_of, role_blocks, release_own}
use Rattle.theory.proofs.WorstLegal.{worst_legal}
use Rattle.theory.proofs.WorstExact.{own_empty, own_later, own_jobs, worst_misses}
use Rattle.sheet.specs.Constants.{greatest_time}
use Rattle.order.specs.Claims.{Permutes}
use Rattle.analysis.specs.Times.{number_at, place_of}
use Rattle.analysis.proofs.Numbering.{number_in, number_back, place_back}
use Rattle.plays.specs.Script.{Script}
use Rattle.plays.specs.ScriptRun.{by_place, released_at}
use Rattle.plays.specs.Play.{misses_now, task_misses, misser, all_done, over, end_of_play}
use Rattle.plays.specs.WorstScript.{worst_script}
use Rattle.plays.proofs.ScriptLanes.{task_of_number}
use Rattle.plays.proofs.OnePending.{misses_job, job_misses}
use Rattle.plays.proofs.AllDone.{released_by, undone_is}
use Rattle.plays.proofs.PlayEnds.{over_by_miss, still_on}
use Rattle.plays.proofs.WorstPlayed.{place_of_number, place_in_set, released_same, worst_same, worst_seen_same}
use Rattle.plays.proofs.WorstLanes.{nothing_before, absent_lane, blocker_runs}

-- a job with work left is due at moment t
abbrev pub DueAt : Task → ℕ → List Job → Type 0
DueAt task t js = (r f w : ℕ) × Memᴰ (job r f (suc w)) js × (r + deadline_of task f ≡ t)

none_due : (task : Task) (t : ℕ) {js : List Job} → js ≡ [] → DueAt task t js → ⊥
none_due task t e (r, f, w, m, due) = Memᴰ.not-nil (subst (λ l. Memᴰ (job r f (suc w)) l) e m)

one_due : (task : Task) (t : ℕ) {js : List Job} {r f w : ℕ} → js ≡ job r f w ∷ [] → DueAt task t js → (r + deadline_of task f ≡ t) × (1 ≤ w)
one_due task t {js} {r} {f} {w} e (r', f', w', m, due) =
    let same : job r' f' (suc w') ≡ job r f w = Memᴰ.eq_of_singleton (subst (λ l. Memᴰ (job r' f' (suc w')) l) e m) in
    let left : suc w' ≡ w = cc in
    let at : r' + deadline_of task f' ≡ r + deadline_of task f = cc in
    (sym at ∙ due, omega arith)

-- ---- in the worst run

module _ (set : List Task) (admitted : Admitted set) (p : ℕ) (in_set : p < length set) (k : ℕ) (k_in : k < frame_count (task_at set p)) where
  abbrev worst : Run
  worst = worst_run set p k

  abbrev D : ℕ
  D = deadline_of (task_at set p) k

  abbrev jobs : ℕ → ℕ → List Job
  jobs t q = ((state_at set worst t).lanes q).jobs

  -- the deadline is at least a tick
  some_deadline : 1 ≤ deadline_of (task_at set p) k
  some_deadline = deadline_positive (admitted.each_task p in_set).well_formed k k_in

  -- a higher task that passes has no job due with work left
  higher_not_due : (t q : ℕ) → t ≤ suc D → q < length set → passes set q ≡ true → DueAt (task_at set q) t (jobs t q) → ⊥
  unfolding worst_run
  higher_not_due t q h l pass (r, f, w, m, due) =
      omega (arith, unfinished_in_time set admitted q l pass worst (worst_legal set admitted p in_set k k_in) r f w t h m)

  blocker_first_frame : {b : ℕ} → blocker set p ≡ Some b → worst.first_frame b ≡ largest_frame (task_at set b)
  unfolding worst_run worst_first
  blocker_first_frame {b} is_b = rw (role_blocks set p is_b)

  lock_in_deadline : (b : ℕ) → b < length set → (task_at set b).lock ≤ deadline_of (task_at set b) (largest_frame (task_at set b))
  lock_in_deadline b l =
      let task : AdmittedTask (task_at set b) = admitted.each_task b l in
      let i = largest_is (task_at set b) task.well_formed.has_frame in
      omega (arith, task.lock_rule, i.largest_time, task.well_formed.frame_in_deadline (largest_frame (task_at set b)) i.largest_in)

  -- nor has the blocker: its job is complete after Q ticks, and its deadline is no less than its largest frame
  blocker_not_due : (t b : ℕ) → b < length set → blocker set p ≡ Some b → DueAt (task_at set b) t (jobs t b) → ⊥
  blocker_not_due zero b l is_b due = none_due (task_at set b) 0 (nothing_before set p k b) due
  blocker_not_due (suc t) b l is_b due =
      let (at, left) = one_due (task_at set b) (suc t) (blocker_runs set admitted p in_set k k_in b is_b t).one_left due in
      let at_largest : 0 + deadline_of (task_at set b) (largest_frame (task_at set b)) ≡ suc t = rw (← blocker_first_frame is_b) at in
      omega (arith, lock_in_deadline b l)

  -- the frame's job, released at tick 1, is due at moment 1 + D
  own_due_at : (t : ℕ) → DueAt (task_at set p) t (jobs t p) → t ≡ suc D
  own_due_at zero due = absurd (none_due (task_at set p) 0 (nothing_before set p k p) due)
  own_due_at (suc zero) due = absurd (none_due (task_at set p) 1 (own_empty set admitted p in_set k k_in) due)
  own_due_at (suc (suc t)) due =
      let (w, e) = own_jobs set admitted p in_set k k_in (suc t) in
      let (at, _) = one_due (task_at set p) (suc (suc t)) (ap (λ l. l.jobs) (sym (own_later set admitted p in_set k k_in t)) ∙ e) due in
      omega arith

  -- So where the higher tasks pass, no job is due with work left up to moment 1 + D, but the frame's then.
  pub only_own_due : ((q : ℕ) → q < p → passes set q ≡ true) → (t q : ℕ) → t ≤ suc (deadline_of (task_at set p) k) → q < length set
      → DueAt (task_at set q) t ((state_at set (worst_run set p k) t).lanes q).jobs → (q ≡ p) × (t ≡ suc (deadline_of (task_at set p) k))
  only_own_due pass t q h l due = go (role_of set p q)
    where
      go : RoleOf set p q → (q ≡ p) × (t ≡ suc D)
      go (is_above above r) = absurd (higher_not_due t q h l (pass q above) due)
      go (is_own same r) = (same, own_due_at t (subst (λ u. DueAt (task_at set u) t (jobs t u)) same due))
      go (is_blocker below is_b r) = absurd (blocker_not_due t q l is_b due)
      go (is_absent below is_b r) = absurd (none_due (task_at set q) t (absent_lane set p k t q r) due)

  -- ---- without a response time

  module _ (without : response_of set p k ≡ None) where
    own_left : (t : ℕ) → suc t ≡ D → (w : ℕ) × Memᴰ (job 1 k (suc w)) (jobs (suc (suc t)) p)
    unfolding Misses TakesLonger
    own_left t e = go (worst_misses set admitted p in_set k k_in without)
      where
        now : 1 + D ≡ suc (suc t)
        now = omega arith

        go : (left : ℕ) × (1 ≤ left) × Left set worst p 1 k (1 + D) left → (w : ℕ) × Memᴰ (job 1 k (suc w)) (jobs (suc (suc t)) p)
        go (zero, some_left, l) = absurd (omega arith)
        go (suc w, some_left, l) =
            (w, subst (λ x. Memᴰ (job 1 k (suc w)) x.jobs) (ap (λ u. (seen_at set worst u).lanes p) now ∙ own_later set admitted p in_set k k_in t) l.stands)

    -- The frame's job is due with work left at moment 1 + D.
    pub own_due : DueAt (task_at set p) (suc (deadline_of (task_at set p) k)) ((state_at set (worst_run set p k) (suc (deadline_of (task_at set p) k))).lanes p).jobs
    own_due = go (deadline_of (task_at set p) k) refl
      where
        go : (d : ℕ) → d ≡ D → DueAt (task_at set p) (suc d) (jobs (suc d) p)
        go zero e = let z : ⊥ = omega (arith, some_deadline) in absurd z
        go (suc t) e = let (w, m) = own_left t e in (1, k, w, m, one-add D ∙ ap suc (sym e))

    -- work left after a tick was left before it
    busy_before : (t : ℕ) → 1 ≤ total (jobs (suc (suc t)) p) → 1 ≤ total ((seen_at set worst (suc t)).lanes p).jobs
    busy_before t h =
        let (b, step) = lane_step set worst (suc t) p in
        omega (arith, ap (λ l. total l.jobs) step, serve_lane_total b ((seen_at set worst (suc t)).lanes p))

    busy_from : (d t : ℕ) → suc (t + d) ≡ D → 1 ≤ total ((seen_at set worst (suc t)).lanes p).jobs
    busy_from zero t e = let (w, m) = own_left t (omega arith) in busy_before t (omega (arith, mem_total m))
    busy_from (suc d) t e = busy_before t (omega (arith, busy_from d (suc t) (omega arith), ap (λ l. total l.jobs) (own_later set admitted p in_set k k_in t)))

    -- It is pending from its release on.
    own_busy : (t : ℕ) → 1 ≤ t → t ≤ deadline_of (task_at set p) k → 1 ≤ total ((seen_at set (worst_run set p k) t).lanes p).jobs
    own_busy zero h l = absurd (omega arith)
    own_busy (suc t) h l = busy_from (D - suc t) t (omega arith)

-- ---- in the play of the worst script

module _ (order : List ℕ) (tasks : List Task) (permutes : Permutes (length tasks) order) (admitted : Admitted (by_place order tasks)) (p : ℕ) (in_set : p < length tasks) (k : ℕ) (k_in : k < frame_count (task_at (by_place order tasks) p)) where
  abbrev set : List Task
  set = by_place order tasks

  abbrev sc : Script
  sc = worst_script order tasks p k

  abbrev last : ℕ
  last = deadline_of (task_at set p) k

  there : p < length set
  there = place_in_set order tasks permutes admitted p in_set k k_in

  module _ (b : Option ℕ) (misses : verdict (by_place order tasks) ≡ missed p b) (first_without : FirstWithout (by_place order tasks) p k) (short : deadline_of (task_at (by_place order tasks) p) k ≤ greatest_time) where
    higher_pass : (q : ℕ) → q < p → passes set q ≡ true
    higher_pass = ((verdict_missed set).0 misses).earlier_pass

    -- task i misses in the play as the task at its place does in the worst run
    misses_is : (t i : ℕ) → t ≤ suc last → i < length tasks
        → task_misses order tasks sc t i ≡ misses_now (task_at set (place_of order i)) t ((state_at set (worst_run set p k) t).lanes (place_of order i)).jobs
    unfolding task_misses
    misses_is t i h l =
        rw ((worst_same order tasks permutes admitted p in_set k k_in t h).same_lanes (place_of order i) (place_of_number order tasks permutes i l), task_of_number order tasks permutes i l)

    only_own_misses : (t i : ℕ) → t ≤ suc last → i < length tasks → task_misses order tasks sc t i ≡ true → (i ≡ number_at order p) × (t ≡ suc last)
    only_own_misses t i h l e =
        let (same, now) = only_own_due set admitted p there k k_in higher_pass t (place_of order i) h (place_of_number order tasks permutes i l) (misses_job _ t _ (sym (misses_is t i h l) ∙ e)) in
        (sym (number_back (length tasks) order permutes i l) ∙ ap (number_at order) same, now)

    others_miss_not : (t i : ℕ) → t ≤ suc last → i < length tasks → ((i ≡ number_at order p) → (t ≡ suc last) → ⊥) → task_misses order tasks sc t i ≡ false
    others_miss_not t i h l ne = go (bool_cases (task_misses order tasks sc t i))
      where
        go : (task_misses order tasks sc t i ≡ true) ⊎ (task_misses order tasks sc t i ≡ false) → task_misses order tasks sc t i ≡ false
        go (inl y) = let (same, now) = only_own_misses t i h l y in absurd (ne same now)
        go (inr n) = n

    own_number : number_at order p < length tasks
    own_number = number_in (length tasks) order permutes p in_set

    own_misses : task_misses order tasks sc (suc last) (number_at order p) ≡ true
    own_misses =
        misses_is (suc last) (number_at order p) (le_refl _) own_number
        ∙ rw (place_back (length tasks) order permutes p in_set)
        (let (r, f, w, m, due) = own_due set admitted p there k k_in first_without.without in job_misses (task_at set p) (suc last) _ m due)

    -- before the frame's job is due no task misses
    no_misser : (t : ℕ) → t < suc last → misser order tasks sc t ≡ None
    unfolding misser
    no_misser t h = first_is_none 0 (length tasks) (task_misses order tasks sc t) (λ i _ l. others_miss_not t i (omega arith) (omega arith) (λ _ now. omega arith))

    -- then its task does, and no other
    own_misser : misser order tasks sc (suc last) ≡ Some (number_at order p)
    unfolding misser
    own_misser =
        first_is 0 (length tasks) (task_misses order tasks sc (suc last))
        (record {
          from = omega arith;
          before = omega (arith, own_number);
          passes = own_misses;
          earlier = λ i _ l. others_miss_not (suc last) i (le_refl _) (omega (arith, own_number)) (λ same _. omega arith);
        })

    -- until then its job is to be released, or pending
    undone : (t : ℕ) → t < suc last → all_done order tasks sc t ≡ false
    undone zero h =
        let now : released_at order sc 1 p ≡ Some (frame (task_at set p) k) =
        released_same order tasks permutes admitted p in_set k k_in 1 p (omega (arith, some_deadline set admitted p there k k_in)) there
        ∙ release_own set p k 1
        ∙ once_at 1 (frame (task_at set p) k)
        in
        let (e, m, at) = released_by order sc 1 p now in
        (undone_is order tasks sc 0).1 (inl (e, m, omega arith))
    undone (suc t) h =
        (undone_is order tasks sc (suc t)).1
        (inr (
          p,
          omega (arith, permutes.same_length),
          rw ((worst_seen_same order tasks permutes admitted p in_set k k_in (suc t) h).same_lanes p there)
              (own_busy set admitted p there k k_in first_without.without (suc t) (omega arith) (omega arith)),
        ))

    -- The play of the worst script of the first frame without a response time, of the first task that does not pass, ends at moment 1 + D, when
    -- that frame's job, released at tick 1, has reached its deadline D; and it is its task that misses then.
    pub worst_play : (end_of_play order tasks (worst_script order tasks p k) ≡ suc (deadline_of (task_at (by_place order tasks) p) k))
        × (misser order tasks (worst_script order tasks p k) (suc (deadline_of (task_at (by_place order tasks) p) k)) ≡ Some (number_at order p))
    unfolding end_of_play
    worst_play = (ap (λ o. unwrap_or o 0) ends, own_misser)
      where
        ends : first 0 (suc (2 * greatest_time)) (over order tasks sc) ≡ Some (suc last)
        ends =
            first_is 0 (suc (2 * greatest_time)) (over order tasks sc)
            (record {
              from = omega arith;
              before = omega arith;
              passes = over_by_miss order tasks sc (suc last) own_misser;
              earlier = λ t _ h. still_on order tasks sc t (no_misser t h) (undone t h);
            })
