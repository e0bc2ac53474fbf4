-- Before the first miss at most one job of a task is pending, and it is the last one released.
use Rattle.std.specs.Prelude.{None, Option, Some}
use mathlib.Core.Bool.{Bool, true, false, ◌&&◌, ◌||◌, or-true, or-false, true≢false, false≢true}
use mathlib.Core.List.Memᴰ
use mathlib.Core.List.{List, [], ◌∷◌, ◌++◌, append-nil, Memᴰ}
use mathlib.Core.Logic.{◌⊎◌, inl, inr}
use mathlib.Core.Path.{◌≡◌, refl, sym, subst, ap, ◌∙◌}
use Prim.Native.Nat.{ℕ, zero, suc, ◌+◌, ◌≤◌, ◌<◌}
use native.Mathlib.Nat.{le_refl}
use native.Mathlib.Omega.{arith}
use borrow.Author.Tests.{lt-ltb, eqb-true, eq-eqb}
use lib.Dec.{eqb}
use lib.ListN.{length}
use Rattle.theory.specs.Tasks.{Task, task_at, deadline_of, Admitted}
use Rattle.theory.specs.Runs.{Job, job, Lane, release_lane, oldest_left, serve, serve_lane, Legal}
use Rattle.theory.proofs.Search.{bool_cases, first_none}
use Rattle.theory.proofs.Lanes.{total, total_append, oldest_none, serve_total_le, Unfinished, unfinished_serve}
use Rattle.order.specs.Claims.{Permutes}
use Rattle.analysis.specs.Times.{number_at, place_of}
use Rattle.analysis.proofs.Numbering.{place_back}
use Rattle.plays.specs.Script.{Script, entry_of}
use Rattle.plays.specs.ScriptRun.{by_place, lock_of, released_at, pending_lock, script_state, script_run}
use Rattle.plays.specs.Play.{misses_now, script_seen, task_misses, misser}
use Rattle.plays.specs.OnePending.{Calm, AtMostOne, nothing_left, one_left}
use Rattle.plays.proofs.ScriptLanes.{number_found, task_of_number, by_place_admitted, seen_by_release, state_by_serve, no_first_jobs, seen_job, deadline_positive, deadline_short, script_next_in, released_apart, known}

-- ---- a miss at a moment

module _ (task : Task) (t : ℕ) where
  misses_complete : (r k : ℕ) (js : List Job) → misses_now task t (job r k zero ∷ js) ≡ misses_now task t js
  unfolding misses_now
  misses_complete r k js = refl

  misses_left : (r k w : ℕ) (js : List Job) → misses_now task t (job r k (suc w) ∷ js) ≡ (eqb (r + deadline_of task k) t || misses_now task t js)
  unfolding misses_now
  misses_left r k w js = ap (λ b. (b && eqb (r + deadline_of task k) t) || misses_now task t js) (lt-ltb 0 (suc w) (omega arith))

  misses_nothing : misses_now task t [] ≡ false
  unfolding misses_now
  misses_nothing = refl

  misses_due : (r k w : ℕ) (js : List Job) → r + deadline_of task k ≡ t → misses_now task t (job r k (suc w) ∷ js) ≡ true
  misses_due r k w js e = rw (misses_left r k w js, eq-eqb (r + deadline_of task k) t e)

  -- a miss is of a job that stands there with work left
  pub misses_job : (js : List Job) → misses_now task t js ≡ true → (r k w : ℕ) × Memᴰ (job r k (suc w)) js × (r + deadline_of task k ≡ t)
  misses_job [] e = absurd (false≢true (sym misses_nothing ∙ e))
  misses_job (job r k zero ∷ js) e =
      let (r', k', w, m, due) = misses_job js (sym (misses_complete r k js) ∙ e) in
      (r', k', w, Memᴰ.tail m, due)
  misses_job (job r k (suc w) ∷ js) e = go (bool_cases (eqb (r + deadline_of task k) t)) (misses_job js)
    where
      go : (eqb (r + deadline_of task k) t ≡ true) ⊎ (eqb (r + deadline_of task k) t ≡ false)
          → (misses_now task t js ≡ true → (r k w : ℕ) × Memᴰ (job r k (suc w)) js × (r + deadline_of task k ≡ t))
          → (r' k' w' : ℕ) × Memᴰ (job r' k' (suc w')) (job r k (suc w) ∷ js) × (r' + deadline_of task k' ≡ t)
      go (inl y) later = (r, k, w, Memᴰ.head refl, eqb-true _ _ y)
      go (inr n) later =
          let (r', k', w', m, due) = later (sym (ap (λ b. b || misses_now task t js) n) ∙ sym (misses_left r k w js) ∙ e) in
          (r', k', w', Memᴰ.tail m, due)

  -- a job that stands there with work left misses when it is due
  pub job_misses : (js : List Job) {r k w : ℕ} → Memᴰ (job r k (suc w)) js → r + deadline_of task k ≡ t → misses_now task t js ≡ true
  job_misses [] m due = absurd (Memᴰ.not-nil m)
  job_misses (job r' k' zero ∷ js) {r} {k} {w} m due = misses_complete r' k' js ∙ go (Memᴰ.cases_cons m) (job_misses js)
    where
      go : (job r k (suc w) ≡ job r' k' zero) ⊎ Memᴰ (job r k (suc w)) js
          → (Memᴰ (job r k (suc w)) js → r + deadline_of task k ≡ t → misses_now task t js ≡ true) → misses_now task t js ≡ true
      go (inl e) later = let z : suc w ≡ 0 = cc in absurd (omega arith)
      go (inr m) later = later m due
  job_misses (job r' k' (suc w') ∷ js) {r} {k} {w} m due = go (Memᴰ.cases_cons m) (job_misses js)
    where
      go : (job r k (suc w) ≡ job r' k' (suc w')) ⊎ Memᴰ (job r k (suc w)) js
          → (Memᴰ (job r k (suc w)) js → r + deadline_of task k ≡ t → misses_now task t js ≡ true) → misses_now task t (job r' k' (suc w') ∷ js) ≡ true
      go (inl e) later = let same : r + deadline_of task k ≡ r' + deadline_of task k' = cc in misses_due r' k' w' js (sym same ∙ due)
      go (inr m) later = misses_left r' k' w' js ∙ rw (later m due) (or-true (eqb (r' + deadline_of task k') t))

-- ---- lists of jobs of which at most one has work left, the last

-- no job with work left: no work
pub none_left : (js : List Job) → Unfinished (λ r k. ⊥) js → total js ≡ 0
unfolding total
none_left [] h = refl
none_left (job r k zero ∷ js) h = rw (none_left js (λ r k w m. h r k w (Memᴰ.tail m))) refl
none_left (job r k (suc w) ∷ js) h = absurd (h r k w (Memᴰ.head refl))

-- work: some job has work left
pub some_left : (js : List Job) → 1 ≤ total js → (r k w : ℕ) × Memᴰ (job r k (suc w)) js
unfolding total
some_left [] h = absurd (omega arith)
some_left (job r k zero ∷ js) h = let (r', k', w, m) = some_left js (omega arith) in (r', k', w, Memᴰ.tail m)
some_left (job r k (suc w) ∷ js) h = (r, k, w, Memᴰ.head refl)

-- the oldest pending job has no more work left than all have
pub oldest_at_most : (js : List Job) → oldest_left js ≤ total js
unfolding total oldest_left
oldest_at_most [] = le_refl 0
oldest_at_most (job r k zero ∷ js) = omega (arith, oldest_at_most js)
oldest_at_most (job r k (suc w) ∷ js) = omega arith

-- complete jobs are passed over, whatever stands behind them
oldest_behind : (older js : List Job) → total older ≡ 0 → oldest_left (older ++ js) ≡ oldest_left js
unfolding total oldest_left
oldest_behind [] js e = refl
oldest_behind (job r k zero ∷ older) js e = oldest_behind older js (omega arith)
oldest_behind (job r k (suc w) ∷ older) js e = absurd (omega arith)

lock_behind : (sc : Script) (i : ℕ) (older js : List Job) → total older ≡ 0 → pending_lock sc i (older ++ js) ≡ pending_lock sc i js
unfolding total pending_lock
lock_behind sc i [] js e = refl
lock_behind sc i (job r k zero ∷ older) js e = lock_behind sc i older js (omega arith)
lock_behind sc i (job r k (suc w) ∷ older) js e = absurd (omega arith)

misses_behind : (task : Task) (t : ℕ) (older js : List Job) → total older ≡ 0 → misses_now task t (older ++ js) ≡ misses_now task t js
unfolding total
misses_behind task t [] js e = refl
misses_behind task t (job r k zero ∷ older) js e = misses_complete task t r k (older ++ js) ∙ misses_behind task t older js (omega arith)
misses_behind task t (job r k (suc w) ∷ older) js e = absurd (omega arith)

serve_behind : (older js : List Job) → total older ≡ 0 → serve (older ++ js) ≡ older ++ serve js
unfolding total serve
serve_behind [] js e = refl
serve_behind (job r k zero ∷ older) js e = rw (serve_behind older js (omega arith)) refl
serve_behind (job r k (suc w) ∷ older) js e = absurd (omega arith)

-- nothing has work left
module _ (js : List Job) (e : total js ≡ 0) where
  -- no job is pending
  pub nothing_oldest : oldest_left js ≡ 0
  unfolding oldest_left
  nothing_oldest = sym (ap oldest_left (append-nil js)) ∙ oldest_behind js [] e

  -- no job misses
  pub nothing_misses : (task : Task) (t : ℕ) → misses_now task t js ≡ false
  nothing_misses task t = sym (ap (misses_now task t) (append-nil js)) ∙ misses_behind task t js [] e ∙ misses_nothing task t

-- the last job alone has work left
module _ (older : List Job) (r k w : ℕ) (e : total older ≡ 0) where
  -- it is the oldest pending job
  pub one_left_oldest : oldest_left (older ++ (job r k (suc w) ∷ [])) ≡ suc w
  unfolding oldest_left
  one_left_oldest = oldest_behind older (job r k (suc w) ∷ []) e

  -- its entry gives the lock
  pub one_left_lock : (sc : Script) (i : ℕ) → pending_lock sc i (older ++ (job r k (suc w) ∷ [])) ≡ lock_of (entry_of sc.entries i r)
  unfolding pending_lock
  one_left_lock sc i = lock_behind sc i older (job r k (suc w) ∷ []) e

  -- it misses when it is due
  pub one_left_misses : (task : Task) (t : ℕ) → misses_now task t (older ++ (job r k (suc w) ∷ [])) ≡ eqb (r + deadline_of task k) t
  one_left_misses task t =
      misses_behind task t older (job r k (suc w) ∷ []) e
      ∙ misses_left task t r k w []
      ∙ ap (λ b. eqb (r + deadline_of task k) t || b) (misses_nothing task t)
      ∙ or-false (eqb (r + deadline_of task k) t)

  -- a tick of work is its
  pub one_left_served : serve (older ++ (job r k (suc w) ∷ [])) ≡ older ++ (job r k w ∷ [])
  unfolding serve
  one_left_served = serve_behind older (job r k (suc w) ∷ []) e

-- after a release with nothing left
pub one_released : (js : List Job) (r k w : ℕ) → total js ≡ 0 → AtMostOne (js ++ (job r k w ∷ []))
one_released js r k zero e = nothing_left (nothing_oldest (js ++ (job r k 0 ∷ [])) (omega (arith, total_append js r k 0)))
one_released js r k (suc w) e = one_left js r k w (nothing_oldest js e) refl

-- after a tick of work
pub one_served : (js : List Job) → AtMostOne js → AtMostOne (serve js)
one_served js (nothing_left e) = nothing_left (nothing_oldest (serve js) (omega (arith, serve_total_le js, oldest_none js e)))
one_served js (one_left older r k w e same) = let None = oldest_none older e in rw (same, one_left_served older r k w None) (one_released older r k w None)

one_served_lane : (b : Bool) (l : Lane) → AtMostOne l.jobs → AtMostOne (serve_lane b l).jobs
unfolding serve_lane
one_served_lane false l one = one
one_served_lane true l one = one_served l.jobs one

no_work : oldest_left [] ≡ 0
unfolding oldest_left
no_work = refl

-- ---- before the first miss

module _ (order : List ℕ) (tasks : List Task) (sc : Script) where
  module _ (permutes : Permutes (length tasks) order) where
    -- a task misses where a job of its lane does
    pub misses_in_lane : (t i : ℕ) → i < length tasks
        → task_misses order tasks sc t i ≡ misses_now (task_at (by_place order tasks) (place_of order i)) t ((script_state order tasks sc t).lanes (place_of order i)).jobs
    unfolding task_misses
    misses_in_lane t i h = rw (task_of_number order tasks permutes i h) refl

    -- where no task misses no job with work left is due
    not_due : (t : ℕ) → misser order tasks sc t ≡ None → (p : ℕ) → p < length order
        → Unfinished (λ r k. r + deadline_of (task_at (by_place order tasks) p) k ≡ t → ⊥) ((script_state order tasks sc t).lanes p).jobs
    unfolding misser
    not_due t e p h r k w m due =
        let i = number_at order p in
        let l : p < length tasks = omega (arith, permutes.same_length) in
        let i_in : i < length tasks = number_found order tasks permutes p h in
        let back : place_of order i ≡ p = place_back (length tasks) order permutes p l in
        let calm : task_misses order tasks sc t i ≡ false = first_none 0 (length tasks) (task_misses order tasks sc t) e i (omega arith) (omega arith) in
        true≢false (sym (job_misses (task_at (by_place order tasks) p) t ((script_state order tasks sc t).lanes p).jobs m due)
        ∙ (rw back at (sym (misses_in_lane t i i_in) ∙ calm)))

    module _ (admitted : Admitted tasks) (legal : (n : ℕ) → Legal (by_place order tasks) (script_run order tasks sc n)) (p : ℕ) (in_order : p < length order) where
      -- a job with work left is due later
      abbrev pub Due : ℕ → ℕ → ℕ → Type 0
      Due t r k = t < r + deadline_of (task_at (by_place order tasks) p) k

      by_set : Admitted (by_place order tasks)
      by_set = by_place_admitted order tasks permutes admitted

      still_due : (t : ℕ) → Unfinished (Due t) ((script_state order tasks sc t).lanes p).jobs → Unfinished (Due t) ((script_seen order tasks sc t).lanes p).jobs
      still_due t before r k w m = go (seen_job order tasks sc t p m)
        where
          go : Memᴰ (job r k (suc w)) ((script_state order tasks sc t).lanes p).jobs
              ⊎ ((r ≡ t) × (k ≡ ((script_state order tasks sc t).lanes p).next) × (released_at order sc t p ≡ Some (suc w))) → Due t r k
          go (inl m) = before r k w m
          go (inr (now, next, _)) =
              omega (arith, deadline_positive order tasks sc by_set legal p in_order k (rw next (script_next_in order tasks sc by_set legal p in_order t)))

      -- before the first miss every job with work left is due later
      pub due_later : (t : ℕ) → Calm order tasks sc t → Unfinished (Due t) ((script_state order tasks sc t).lanes p).jobs
      due_later zero calm r k w m = absurd (Memᴰ.not-nil (subst (Memᴰ (job r k (suc w))) (no_first_jobs order tasks sc p) m))
      due_later (suc t) calm r k w m =
          let (b, e) = state_by_serve order tasks sc t p in
          let seen = still_due t (due_later t (λ u h. calm u (omega arith))) in
          let due : Due t r k =
          unfinished_serve (Due t) b ((script_seen order tasks sc t).lanes p) seen r k w (subst (λ l. Memᴰ (job r k (suc w)) l.jobs) e m) in
          let other = not_due (suc t) (calm (suc t) (le_refl (suc t))) p in_order r k w m in
          omega arith

      -- the same with the releases of the tick seen
      pub seen_due_later : (t : ℕ) → Calm order tasks sc t → Unfinished (Due t) ((script_seen order tasks sc t).lanes p).jobs
      seen_due_later t calm = still_due t (due_later t calm)

      -- a task is released with nothing of it pending
      pub released_alone : (t : ℕ) → Calm order tasks sc t → {v : ℕ} → released_at order sc t p ≡ Some v → total ((script_state order tasks sc t).lanes p).jobs ≡ 0
      released_alone t calm e = none_left ((script_state order tasks sc t).lanes p).jobs over_due
        where
          over_due : Unfinished (λ r k. ⊥) ((script_state order tasks sc t).lanes p).jobs
          over_due r k w m =
              let it = known order tasks sc by_set legal p in_order t r k w m in
              omega (
                arith,
                it.spaced,
                released_apart order tasks sc by_set legal p in_order t e,
                deadline_short order tasks sc by_set legal p in_order k it.frame_in,
                due_later t calm r k w m,
              )

      one_seen : (t : ℕ) → Calm order tasks sc t → AtMostOne ((script_state order tasks sc t).lanes p).jobs → AtMostOne ((script_seen order tasks sc t).lanes p).jobs
      unfolding release_lane
      one_seen t calm one = rw (seen_by_release order tasks sc t p) (go (released_at order sc t p) refl)
        where
          go : (o : Option ℕ) → released_at order sc t p ≡ o
              → AtMostOne (release_lane (task_at (by_place order tasks) p) t o ((script_state order tasks sc t).lanes p)).jobs
          go None e = one
          go (Some v) e = one_released ((script_state order tasks sc t).lanes p).jobs t ((script_state order tasks sc t).lanes p).next v (released_alone t calm e)

      -- at most one job of the task is pending
      pub one_pending : (t : ℕ) → Calm order tasks sc t → AtMostOne ((script_state order tasks sc t).lanes p).jobs
      one_pending zero calm = nothing_left (rw (no_first_jobs order tasks sc p) no_work)
      one_pending (suc t) calm =
          let (b, e) = state_by_serve order tasks sc t p in
          let before : Calm order tasks sc t = λ u h. calm u (omega arith) in
          rw e (one_served_lane b ((script_seen order tasks sc t).lanes p) (one_seen t before (one_pending t before)))

      -- the same with the releases of the tick seen
      pub one_pending_seen : (t : ℕ) → Calm order tasks sc t → AtMostOne ((script_seen order tasks sc t).lanes p).jobs
      one_pending_seen t calm = one_seen t calm (one_pending t calm)
