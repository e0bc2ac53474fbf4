-- The lanes of a script's run: the tasks by place, what a release and a tick do to a lane, and what holds of each job with work left.
use Rattle.std.specs.Prelude.{None, Option, Some}
use mathlib.Core.Bool.{Bool}
use mathlib.Core.List.Memᴰ
use mathlib.Core.List.{List, [], map, Memᴰ}
use mathlib.Core.Logic.{◌⊎◌, inl, inr}
use mathlib.Core.Path.{◌≡◌, refl, sym, subst, ap, ◌∙◌}
use Prim.Native.Nat.{ℕ, zero, suc, ◌+◌, ◌≤◌, ◌<◌}
use native.Mathlib.Nat.{le_refl}
use native.Mathlib.Omega.{arith}
use lib.ListN.{length, length-map, get_or-map}
use Rattle.theory.specs.Tasks.{Task, task_at, frame_count, deadline_of, Admitted}
use Rattle.theory.specs.Runs.{job, Lane, release_lane, release, serve_lane, Legal}
use Rattle.theory.proofs.Work.{deadline_positive as some_deadline}
use Rattle.theory.proofs.Lanes.{release_mem, serve_lane_free, Unfinished, unfinished_serve}
use Rattle.theory.proofs.Steps.{lane_step}
use Rattle.theory.proofs.Arrivals.{next_in}
use Rattle.order.specs.Claims.{Permutes}
use Rattle.std.proofs.lemmas.List.{get_or_default}
use Rattle.analysis.specs.Times.{number_at, place_of}
use Rattle.analysis.proofs.Numbering.{place_in, number_in, number_back}
use Rattle.plays.specs.Script.{Script}
use Rattle.plays.specs.ScriptRun.{by_place, choice, released_at, script_state, script_run}
use Rattle.plays.specs.Play.{script_seen}
use Rattle.plays.proofs.States.{run_state, run_seen}

-- ---- the tasks by place

module _ (order : List ℕ) (tasks : List Task) where
  -- there are as many as places
  pub by_place_length : length (by_place order tasks) ≡ length order
  by_place_length = length-map order (task_at tasks)

  -- the task at a place is the one whose number stands there
  pub by_place_at : (p : ℕ) → p < length order → task_at (by_place order tasks) p ≡ task_at tasks (number_at order p)
  unfolding task_at number_at
  by_place_at p h =
      get_or_default (map (task_at tasks) order) p _ (task_at tasks 0) (omega (arith, length-map order (task_at tasks)))
      ∙ get_or-map (task_at tasks) order p 0

  module _ (permutes : Permutes (length tasks) order) where
    -- the place of a number is one of the order
    pub place_found : (i : ℕ) → i < length tasks → place_of order i < length order
    place_found i h = omega (arith, place_in (length tasks) order permutes i h, permutes.same_length)

    -- the number at a place is a task's
    pub number_found : (p : ℕ) → p < length order → number_at order p < length tasks
    number_found p h = number_in (length tasks) order permutes p (omega (arith, permutes.same_length))

    -- the task at the place of a number is the one of that number
    pub task_of_number : (i : ℕ) → i < length tasks → task_at (by_place order tasks) (place_of order i) ≡ task_at tasks i
    task_of_number i h = by_place_at (place_of order i) (place_found i h) ∙ ap (task_at tasks) (number_back (length tasks) order permutes i h)

    -- an admitted set is admitted by place
    pub by_place_admitted : Admitted tasks → Admitted (by_place order tasks)
    by_place_admitted a =
        record {
          some_task = omega (arith, by_place_length, permutes.same_length, a.some_task);
          each_task = λ p h.
              let l : p < length order = rw by_place_length at h in
              rw (by_place_at p l) (a.each_task _ (number_found p l));
        }

-- ---- a lane from tick to tick

-- a job of the task at place p, known before time t, in a lane from which the next may be released at `free`
pub record Known (order : List ℕ) (tasks : List Task) (sc : Script) (p t free r k : ℕ) : Type 0 where
  pub earlier : r < t
  pub frame_in : k < frame_count (task_at (by_place order tasks) p)
  pub spaced : r + (task_at (by_place order tasks) p).period ≤ free
  pub entered : (w : ℕ) × (released_at order sc r p ≡ Some w)

module _ (order : List ℕ) (tasks : List Task) (sc : Script) where
  -- a lane with the releases of a tick seen is the lane before with its release
  pub seen_by_release : (t p : ℕ)
      → (script_seen order tasks sc t).lanes p ≡ release_lane (task_at (by_place order tasks) p) t (released_at order sc t p) ((script_state order tasks sc t).lanes p)
  unfolding script_seen release choice
  seen_by_release t p = refl

  -- a lane after a tick is the lane with the releases seen, served or not
  pub state_by_serve : (t p : ℕ) → (b : Bool) × ((script_state order tasks sc (suc t)).lanes p ≡ serve_lane b ((script_seen order tasks sc t).lanes p))
  state_by_serve t p =
      let (b, e) = lane_step (by_place order tasks) (script_run order tasks sc 0) t p in (
        b,
        ap (λ s. s.lanes p) (sym (run_state order tasks sc 0 (suc t)))
            ∙ e
            ∙ ap (λ s. serve_lane b (s.lanes p)) (run_seen order tasks sc 0 t),
      )

  -- a run begins without jobs
  pub no_first_jobs : (p : ℕ) → ((script_state order tasks sc 0).lanes p).jobs ≡ []
  unfolding script_state
  no_first_jobs p = refl

  -- a job in a lane with the release of tick t seen was there before, or is released at t
  pub seen_job : (t p : ℕ) {r k w : ℕ} → Memᴰ (job r k w) ((script_seen order tasks sc t).lanes p).jobs
      → Memᴰ (job r k w) ((script_state order tasks sc t).lanes p).jobs
      ⊎ ((r ≡ t) × (k ≡ ((script_state order tasks sc t).lanes p).next) × (released_at order sc t p ≡ Some w))
  seen_job t p {r} {k} {w} m =
      release_mem (task_at (by_place order tasks) p) t (released_at order sc t p) ((script_state order tasks sc t).lanes p)
      (subst (λ l. Memᴰ (job r k w) l.jobs) (seen_by_release t p) m)

  -- a release leaves the jobs that are there
  pub job_stays : (t p : ℕ) {r k w : ℕ} → Memᴰ (job r k w) ((script_state order tasks sc t).lanes p).jobs → Memᴰ (job r k w) ((script_seen order tasks sc t).lanes p).jobs
  unfolding release_lane
  job_stays t p {r} {k} {w} m = rw (seen_by_release t p) (go (released_at order sc t p))
    where
      go : (o : Option ℕ) → Memᴰ (job r k w) (release_lane (task_at (by_place order tasks) p) t o ((script_state order tasks sc t).lanes p)).jobs
      go None = m
      go (Some v) = Memᴰ.append_left _ m

  module _ (admitted : Admitted (by_place order tasks)) (legal : (n : ℕ) → Legal (by_place order tasks) (script_run order tasks sc n)) (p : ℕ) (in_order : p < length order) where
    in_set : p < length (by_place order tasks)
    in_set = omega (arith, by_place_length order tasks)

    -- a deadline is at least a tick
    pub deadline_positive : (k : ℕ) → k < frame_count (task_at (by_place order tasks) p) → 1 ≤ deadline_of (task_at (by_place order tasks) p) k
    deadline_positive = some_deadline (admitted.each_task p in_set).well_formed

    -- a deadline is at most the period
    pub deadline_short : (k : ℕ) → k < frame_count (task_at (by_place order tasks) p) → deadline_of (task_at (by_place order tasks) p) k ≤ (task_at (by_place order tasks) p).period
    deadline_short k h = (admitted.each_task p in_set).well_formed.deadline_in_period k h

    -- the next job's frame is a frame
    pub script_next_in : (t : ℕ) → ((script_state order tasks sc t).lanes p).next < frame_count (task_at (by_place order tasks) p)
    unfolding script_run
    script_next_in t =
        rw (← run_state order tasks sc t t)
        (next_in (by_place order tasks) (script_run order tasks sc t) (legal t) p in_set t (le_refl t))

    -- a release is not before its time
    pub released_apart : (t : ℕ) {w : ℕ} → released_at order sc t p ≡ Some w → ((script_state order tasks sc t).lanes p).free_from ≤ t
    unfolding script_run choice
    released_apart t {w} e =
        rw (← run_state order tasks sc (suc t) t) (((legal (suc t)).each_tick t (le_refl (suc t))).apart p w in_set e)

    seen_known : (t : ℕ) → Unfinished (Known order tasks sc p t ((script_state order tasks sc t).lanes p).free_from) ((script_state order tasks sc t).lanes p).jobs
        → (o : Option ℕ) → released_at order sc t p ≡ o
        → Unfinished (Known order tasks sc p (suc t) (release_lane (task_at (by_place order tasks) p) t o ((script_state order tasks sc t).lanes p)).free_from)
        (release_lane (task_at (by_place order tasks) p) t o ((script_state order tasks sc t).lanes p)).jobs
    unfolding release_lane
    seen_known t before None e r k w m =
        let old = before r k w m in
        record { earlier = omega (arith, old.earlier); frame_in = old.frame_in; spaced = old.spaced; entered = old.entered }
    seen_known t before (Some v) e r k w m =
        go (release_mem (task_at (by_place order tasks) p) t (Some v) ((script_state order tasks sc t).lanes p) m)
      where
        go : Memᴰ (job r k (suc w)) ((script_state order tasks sc t).lanes p).jobs
            ⊎ ((r ≡ t) × (k ≡ ((script_state order tasks sc t).lanes p).next) × (Some v ≡ Some (suc w)))
            → Known order tasks sc p (suc t) (t + (task_at (by_place order tasks) p).period) r k
        go (inl m) =
            let old = before r k w m in
            record {
              earlier = omega (arith, old.earlier);
              frame_in = old.frame_in;
              spaced = omega (arith, old.spaced, released_apart t e);
              entered = old.entered;
            }
        go (inr (now, next, _)) =
            record { earlier = omega arith; frame_in = rw next (script_next_in t); spaced = omega arith; entered = (v, rw now e) }

    abbrev KnownIn : ℕ → Lane → Type 0
    KnownIn t l = Unfinished (Known order tasks sc p t l.free_from) l.jobs

    seen_from_known : (t : ℕ) → KnownIn t ((script_state order tasks sc t).lanes p) → KnownIn (suc t) ((script_seen order tasks sc t).lanes p)
    seen_from_known t before = rw (seen_by_release t p) (seen_known t before (released_at order sc t p) refl)

    -- each job with work left is known
    pub known : (t : ℕ) → Unfinished (Known order tasks sc p t ((script_state order tasks sc t).lanes p).free_from) ((script_state order tasks sc t).lanes p).jobs
    known zero = rw (no_first_jobs p) (λ r k w m. absurd (Memᴰ.not-nil m))
    known (suc t) =
        let (b, e) = state_by_serve t p in
        rw (e, serve_lane_free b ((script_seen order tasks sc t).lanes p))
        (unfinished_serve _ b ((script_seen order tasks sc t).lanes p) (seen_from_known t (known t)))

    -- the same with the releases of the tick seen
    pub known_seen : (t : ℕ) → Unfinished (Known order tasks sc p (suc t) ((script_seen order tasks sc t).lanes p).free_from) ((script_seen order tasks sc t).lanes p).jobs
    known_seen t = seen_from_known t (known t)
