-- How a play ends, in the words of the theory: with the first miss of the script's run, or, where no job of it misses, when the last job is complete.
use Rattle.std.specs.Prelude.{None, Some}
use mathlib.Core.Bool.{true, false, true≢false}
use mathlib.Core.List.{List, Memᴰ}
use mathlib.Core.Logic.{◌⊎◌, inl, inr, ◌↔◌}
use mathlib.Core.Path.{◌≡◌, refl, sym, subst, ◌∙◌}
use Prim.Native.Nat.{ℕ, zero, suc, ◌+◌, ◌≤◌, ◌<◌}
use native.Mathlib.Decide.{dec_le}
use native.Mathlib.Nat.{le_refl}
use native.Mathlib.Omega.{arith}
use lib.ListN.{length}
use Rattle.theory.specs.Tasks.{Task, task_at, deadline_of, Admitted}
use Rattle.theory.specs.Runs.{job, Legal, Left, TakesLonger, Misses}
use Rattle.theory.proofs.Search.{bool_cases, IsFirst, first_none, first_some, first_is, first_is_none}
use Rattle.theory.proofs.Lanes.{mem_total}
use Rattle.sheet.specs.Constants.{greatest_time}
use Rattle.order.specs.Claims.{Permutes}
use Rattle.analysis.specs.Times.{number_at, place_of}
use Rattle.analysis.proofs.Numbering.{place_back}
use Rattle.plays.specs.Script.{Script}
use Rattle.plays.specs.ScriptRun.{by_place, released_at, script_state, script_run}
use Rattle.plays.specs.Says.{AllReleased, Later, MissIn, MissAt, FirstMiss, NeverMisses, WorkLeft, LastComplete}
use Rattle.plays.specs.Play.{misses_now, script_seen, task_misses, misser, all_done, over, end_of_play}
use Rattle.plays.proofs.States.{run_seen}
use Rattle.plays.proofs.ScriptLanes.{place_found, number_found, by_place_admitted, seen_job, job_stays, deadline_positive, script_next_in, known, known_seen}
use Rattle.plays.specs.OnePending.{Calm}
use Rattle.plays.proofs.OnePending.{none_left, some_left, misses_job, job_misses, misses_in_lane}
use Rattle.plays.proofs.AllDone.{Done, Undone, done_is, undone_is, done_stays}
use Rattle.plays.proofs.PlayEnds.{still_on, over_by_miss, over_by_done, over_calm, end_is, end_unique, before_end, calm_to_end}

module _ (order : List ℕ) (tasks : List Task) (sc : Script) where
  -- ---- what a run shows of a job stands in the lane

  module _ (n t p : ℕ) where
    left_stands : {r k w : ℕ} → Left (by_place order tasks) (script_run order tasks sc n) p r k t w → Memᴰ (job r k w) ((script_seen order tasks sc t).lanes p).jobs
    left_stands {r} {k} {w} l = subst (λ s. Memᴰ (job r k w) (s.lanes p).jobs) (run_seen order tasks sc n t) l.stands

    stands_left : {r k w : ℕ} → r < n → t ≤ n → Memᴰ (job r k w) ((script_seen order tasks sc t).lanes p).jobs
        → Left (by_place order tasks) (script_run order tasks sc n) p r k t w
    unfolding script_run
    stands_left {r} {k} {w} h l m =
        record { released = h; reached = l; stands = subst (λ s. Memᴰ (job r k w) (s.lanes p).jobs) (sym (run_seen order tasks sc n t)) m }

  module _
      (permutes : Permutes (length tasks) order)
      (admitted : Admitted tasks)
      (legal : (n : ℕ) → Legal (by_place order tasks) (script_run order tasks sc n))
    where
      by_set : Admitted (by_place order tasks)
      by_set = by_place_admitted order tasks permutes admitted

      -- ---- a miss

      -- a task that misses has a job with work left when it is due
      late_job : (n t i : ℕ) → i < length tasks → t ≤ n → task_misses order tasks sc t i ≡ true
          → (r k w : ℕ) × (r + deadline_of (task_at (by_place order tasks) (place_of order i)) k ≡ t)
          × Left (by_place order tasks) (script_run order tasks sc n) (place_of order i) r k t (suc w)
      late_job n t i h l e =
          let p = place_of order i in
          let (r, k, w, m, due) = misses_job (task_at (by_place order tasks) p) t ((script_state order tasks sc t).lanes p).jobs
          (sym (misses_in_lane order tasks sc permutes t i h) ∙ e) in
          let it = known order tasks sc by_set legal p (place_found order tasks permutes i h) t r k w m in
          (r, k, w, due, stands_left n t p (omega (arith, it.earlier)) l (job_stays order tasks sc t p m))

      -- and one that has such a job misses
      job_late : (n t i r k w : ℕ) → i < length tasks → r + deadline_of (task_at (by_place order tasks) (place_of order i)) k ≡ t → 1 ≤ w
          → Left (by_place order tasks) (script_run order tasks sc n) (place_of order i) r k t w → task_misses order tasks sc t i ≡ true
      job_late n t i r k zero h due some_work l = absurd (omega arith)
      job_late n t i r k (suc w) h due some_work l =
          misses_in_lane order tasks sc permutes t i h ∙ go (seen_job order tasks sc t (place_of order i) (left_stands n t (place_of order i) l))
        where
          go : Memᴰ (job r k (suc w)) ((script_state order tasks sc t).lanes (place_of order i)).jobs
              ⊎ ((r ≡ t) × (k ≡ ((script_state order tasks sc t).lanes (place_of order i)).next) × (released_at order sc t (place_of order i) ≡ Some (suc w)))
              → misses_now (task_at (by_place order tasks) (place_of order i)) t ((script_state order tasks sc t).lanes (place_of order i)).jobs ≡ true
          go (inl m) = job_misses _ t _ m due
          go (inr (now, next, _)) =
              let z : ⊥ =
              omega (
                arith,
                deadline_positive order tasks sc by_set legal (place_of order i) (place_found order tasks permutes i h) k
                    (rw next (script_next_in order tasks sc by_set legal (place_of order i) (place_found order tasks permutes i h) t)),
              ) in
              absurd z

      -- task i misses at moment t where a job of it has work left at its release plus its deadline, in every run that is long enough
      pub miss_is : (n t i : ℕ) → i < length tasks → t ≤ n → (task_misses order tasks sc t i ≡ true) ↔ MissIn order tasks sc n t i
      unfolding Misses TakesLonger
      miss_is n t i h l = (
        λ e. let (r, k, w, due, left) = late_job n t i h l e in (r, k, due, (suc w, omega arith, rw due left)),
        λ (r, k, due, (w, some_work, left)). job_late n t i r k w h due some_work (rw due at left),
      )

      -- a run in which a job misses is long enough
      miss_within : (n t i : ℕ) → MissIn order tasks sc n t i → t ≤ n
      unfolding Misses TakesLonger script_run
      miss_within n t i (r, k, due, (w, some_work, left)) = rw due at left.reached

      shows_misses : (n t i : ℕ) → i < length tasks → MissIn order tasks sc n t i → task_misses order tasks sc t i ≡ true
      shows_misses n t i h m = (miss_is n t i h (miss_within n t i m)).1 m

      misses_not : (t i : ℕ) → i < length tasks → (MissAt order tasks sc t i → ⊥) → task_misses order tasks sc t i ≡ false
      misses_not t i h never = go (bool_cases (task_misses order tasks sc t i))
        where
          go : (task_misses order tasks sc t i ≡ true) ⊎ (task_misses order tasks sc t i ≡ false) → task_misses order tasks sc t i ≡ false
          go (inl y) = absurd (never ((miss_is t t i h (le_refl t)).0 y))
          go (inr n) = n

      not_misses : (n t i : ℕ) → i < length tasks → task_misses order tasks sc t i ≡ false → MissIn order tasks sc n t i → ⊥
      not_misses n t i h e m = true≢false (sym (shows_misses n t i h m) ∙ e)

      -- no task misses at a moment
      pub misser_none : (t : ℕ) → (misser order tasks sc t ≡ None) ↔ ((i : ℕ) → i < length tasks → MissAt order tasks sc t i → ⊥)
      unfolding misser
      misser_none t = (
        λ e i h. not_misses t t i h (first_none 0 (length tasks) (task_misses order tasks sc t) e i (omega arith) (omega arith)),
        λ never. first_is_none 0 (length tasks) (task_misses order tasks sc t) (λ i _ h. misses_not t i (omega arith) (never i (omega arith))),
      )

      -- where a task that misses at a moment is named it has the lowest number
      pub misser_some : (t i : ℕ) → (misser order tasks sc t ≡ Some i) ↔ ((i < length tasks) × MissAt order tasks sc t i × ((j : ℕ) → j < i → MissAt order tasks sc t j → ⊥))
      unfolding misser
      misser_some t i = (
        λ e.
            let f : IsFirst 0 (length tasks) (task_misses order tasks sc t) i = first_some 0 (length tasks) (task_misses order tasks sc t) e in
            let h : i < length tasks = omega (arith, f.before) in
            (h, (miss_is t t i h (le_refl t)).0 f.passes, λ j l. not_misses t t j (omega arith) (f.earlier j (omega arith) l)),
        λ (h, m, lowest).
            first_is 0 (length tasks) (task_misses order tasks sc t)
            (record {
              from = omega arith;
              before = omega arith;
              passes = shows_misses t t i h m;
              earlier = λ j _ l. misses_not t j (omega arith) (lowest j l);
            }),
      )

      -- ---- all jobs done

      -- once all jobs are done no job misses
      done_no_miss : (u t n i : ℕ) → Done order tasks sc u → u < t → i < length tasks → MissIn order tasks sc n t i → ⊥
      done_no_miss u t n i d l h miss =
          let p = place_of order i in
          let (r, k, w, m, due) = misses_job (task_at (by_place order tasks) p) t ((script_state order tasks sc t).lanes p).jobs
          (sym (misses_in_lane order tasks sc permutes t i h) ∙ shows_misses n t i h miss) in
          omega (arith, mem_total m, done_stays order tasks sc u t d l p (place_found order tasks permutes i h))

      -- a job with work left shows in the run
      shows_left : (t p : ℕ) → p < length order → {r k w : ℕ} → Memᴰ (job r k (suc w)) ((script_seen order tasks sc t).lanes p).jobs
          → Left (by_place order tasks) (script_run order tasks sc (suc t)) (place_of order (number_at order p)) r k t (suc w)
      shows_left t p h {r} {k} {w} m =
          rw (place_back (length tasks) order permutes p (omega (arith, permutes.same_length)))
          (stands_left (suc t) t p (known_seen order tasks sc by_set legal p h t r k w m).earlier (omega arith) m)

      -- all jobs are done: every entry is released, and every job complete
      done_shows : (t : ℕ) → Done order tasks sc t
          ↔ (AllReleased sc.entries t
          × ((i r k w : ℕ) → i < length tasks → Left (by_place order tasks) (script_run order tasks sc (suc t)) (place_of order i) r k t w → w ≡ 0))
      done_shows t = (
        λ d. (
          d.released,
          λ i r k w h l. let no_more = mem_total (left_stands (suc t) t (place_of order i) l) in omega (arith, d.complete (place_of order i) (place_found order tasks permutes i h)),
        ),
        λ (released, complete).
            record {
              released = released;
              complete = λ p h. none_left ((script_seen order tasks sc t).lanes p).jobs
                  (λ r k w m. let z = complete (number_at order p) r k (suc w) (number_found order tasks permutes p h) (shows_left t p h m) in omega arith);
            },
      )

      -- not all are: a later entry, or a job with work left
      undone_shows : (u : ℕ) → Undone order tasks sc u ↔ (Later sc.entries u ⊎ WorkLeft order tasks sc u)
      undone_shows u = (there, back)
        where
          there : Undone order tasks sc u → Later sc.entries u ⊎ WorkLeft order tasks sc u
          there (inl later) = inl later
          there (inr (p, h, l)) =
              let (r, k, w, m) = some_left ((script_seen order tasks sc u).lanes p).jobs l in
              inr (number_at order p, r, k, w, number_found order tasks permutes p h, shows_left u p h m)

          back : Later sc.entries u ⊎ WorkLeft order tasks sc u → Undone order tasks sc u
          back (inl later) = inl later
          back (inr (i, r, k, w, h, l)) =
              let more = mem_total (left_stands (suc u) u (place_of order i) l) in
              inr (place_of order i, place_found order tasks permutes i h, omega arith)

      -- ---- how a play ends

      module _ (ticks_in : AllReleased sc.entries greatest_time) (deadlines_in : (i k : ℕ) → i < length tasks → deadline_of (task_at tasks i) k ≤ greatest_time) where
        -- a play ends with a miss of task i at moment t where that is the first miss, the lower number first
        pub play_misses : (t i : ℕ) → ((end_of_play order tasks sc ≡ t) × (misser order tasks sc t ≡ Some i)) ↔ FirstMiss order tasks sc t i
        play_misses t i = (there, back)
          where
            there : (end_of_play order tasks sc ≡ t) × (misser order tasks sc t ≡ Some i) → FirstMiss order tasks sc t i
            there (e, m) =
                let (h, miss, lowest) = (misser_some t i).0 m in
                record {
                  task_in = h;
                  misses = miss;
                  none_before = λ u j l.
                      (misser_none u).0 (before_end order tasks sc permutes admitted legal ticks_in deadlines_in u (omega arith)).0 j;
                  lowest_number = lowest;
                }

            undone : FirstMiss order tasks sc t i → (u : ℕ) → u < t → all_done order tasks sc u ≡ false
            undone f u l = go (bool_cases (all_done order tasks sc u))
              where
                go : (all_done order tasks sc u ≡ true) ⊎ (all_done order tasks sc u ≡ false) → all_done order tasks sc u ≡ false
                go (inl y) = absurd (done_no_miss u t t i ((done_is order tasks sc u).0 y) l f.task_in f.misses)
                go (inr n) = n

            back : FirstMiss order tasks sc t i → (end_of_play order tasks sc ≡ t) × (misser order tasks sc t ≡ Some i)
            back f =
                let m : misser order tasks sc t ≡ Some i = (misser_some t i).1 (f.task_in, f.misses, f.lowest_number) in (
                  end_unique order tasks sc permutes admitted legal ticks_in deadlines_in t (over_by_miss order tasks sc t m)
                      (λ u l. still_on order tasks sc u ((misser_none u).1 (λ j h. f.none_before u j l h)) (undone f u l)),
                  m,
                )

        -- a play ends without a miss at moment t where no job of the script's run misses and the last job is complete at t
        pub play_done : (t : ℕ) → ((end_of_play order tasks sc ≡ t) × (misser order tasks sc t ≡ None)) ↔ (NeverMisses order tasks sc × LastComplete order tasks sc t)
        play_done t = (there, back)
          where
            there : (end_of_play order tasks sc ≡ t) × (misser order tasks sc t ≡ None) → NeverMisses order tasks sc × LastComplete order tasks sc t
            there (e, calm) = (no_miss, last)
              where
                over_then : over order tasks sc t ≡ true
                over_then = rw e at (end_is order tasks sc permutes admitted legal ticks_in deadlines_in).passes

                done : Done order tasks sc t
                done = (done_is order tasks sc t).0 (over_calm order tasks sc t over_then calm)

                calm_to : Calm order tasks sc t
                calm_to = rw e at (calm_to_end order tasks sc permutes admitted legal ticks_in deadlines_in (rw e calm))

                no_miss : NeverMisses order tasks sc
                no_miss n i r k h m = go (r + deadline_of (task_at (by_place order tasks) (place_of order i)) k) refl
                  where
                    go : (u : ℕ) → r + deadline_of (task_at (by_place order tasks) (place_of order i)) k ≡ u → ⊥
                    go u due = by (dec_le u t)
                      where
                        miss : MissIn order tasks sc n u i
                        miss = (r, k, due, m)

                        by : Dec (u ≤ t) → ⊥
                        by (yes l) = (misser_none u).0 (calm_to u l) i h ((miss_is u u i h (le_refl u)).0 (shows_misses n u i h miss))
                        by (no l) = done_no_miss t u n i done (omega arith) h miss

                last : LastComplete order tasks sc t
                last =
                    let (released, complete) = (done_shows t).0 done in
                    record {
                      all_released = released;
                      all_complete = complete;
                      not_before = λ u l.
                          (undone_shows u).0 ((undone_is order tasks sc u).0 (before_end order tasks sc permutes admitted legal ticks_in deadlines_in u (omega arith)).1);
                    }

            back : NeverMisses order tasks sc × LastComplete order tasks sc t → (end_of_play order tasks sc ≡ t) × (misser order tasks sc t ≡ None)
            back (no_miss, last) = (
              end_unique order tasks sc permutes admitted legal ticks_in deadlines_in t
                  (over_by_done order tasks sc t ((done_is order tasks sc t).1 ((done_shows t).1 (last.all_released, last.all_complete))))
                  (λ u l. still_on order tasks sc u (calm u) ((undone_is order tasks sc u).1 ((undone_shows u).1 (last.not_before u l)))),
              calm t,
            )
              where
                calm : (u : ℕ) → misser order tasks sc u ≡ None
                calm u = (misser_none u).1 (λ i h (r, k, due, m). no_miss u i r k h m)
