-- Every play ends, by twice the greatest time, and before its end no task misses.
use Rattle.std.specs.Prelude.{None, Some}
use mathlib.Core.Bool.{true, false, ◌||◌, or-true, true≢false}
use mathlib.Core.List.{List}
use mathlib.Core.Logic.{◌⊎◌, inl, inr}
use mathlib.Core.Path.{◌≡◌, refl, sym, ap, ◌∙◌}
use Prim.Native.Nat.{ℕ, suc, ◌*◌, ◌≤◌, ◌<◌}
use native.Mathlib.Decide.{dec_lt}
use native.Mathlib.Omega.{arith}
use lib.ListN.{length}
use Rattle.theory.specs.First.{first, found}
use Rattle.theory.specs.Tasks.{Task, task_at, deadline_of, Admitted}
use Rattle.theory.specs.Runs.{Legal}
use Rattle.theory.proofs.Search.{bool_cases, Answer, answer, nothing, it_is, IsFirst, first_none, first_some, found_none, none_found, some_found}
use Rattle.theory.proofs.Lanes.{Unfinished}
use Rattle.sheet.specs.Constants.{greatest_time}
use Rattle.order.specs.Claims.{Permutes}
use Rattle.analysis.specs.Times.{number_at}
use Rattle.plays.specs.Script.{Script}
use Rattle.plays.specs.ScriptRun.{by_place, script_run}
use Rattle.plays.specs.Says.{AllReleased}
use Rattle.plays.specs.Play.{script_seen, misser, all_done, over, end_of_play}
use Rattle.plays.proofs.ScriptLanes.{by_place_at, number_found, by_place_admitted, known_seen}
use Rattle.plays.specs.OnePending.{Calm}
use Rattle.plays.proofs.OnePending.{none_left, seen_due_later}
use Rattle.plays.proofs.AllDone.{released_by, Done, done_is}

module _ (order : List ℕ) (tasks : List Task) (sc : Script) where
  -- ---- what it says that a play is over

  -- a play is over with a miss or with all jobs done
  pub over_is : (t : ℕ) → over order tasks sc t ≡ (found (misser order tasks sc t) || all_done order tasks sc t)
  unfolding over
  over_is t = refl

  -- a play that is not over has no miss and jobs to be done
  pub not_over : (t : ℕ) → over order tasks sc t ≡ false → (misser order tasks sc t ≡ None) × (all_done order tasks sc t ≡ false)
  not_over t e = go (bool_cases (found (misser order tasks sc t)))
    where
      go : (found (misser order tasks sc t) ≡ true) ⊎ (found (misser order tasks sc t) ≡ false) → (misser order tasks sc t ≡ None) × (all_done order tasks sc t ≡ false)
      go (inl y) = absurd (true≢false (sym (over_is t ∙ ap (λ b. b || all_done order tasks sc t) y) ∙ e))
      go (inr n) = (found_none n, sym (over_is t ∙ ap (λ b. b || all_done order tasks sc t) n) ∙ e)

  -- without a miss and with jobs to be done it is not over
  pub still_on : (t : ℕ) → misser order tasks sc t ≡ None → all_done order tasks sc t ≡ false → over order tasks sc t ≡ false
  still_on t calm undone = over_is t ∙ rw (calm, undone, none_found {o = None} refl)

  -- with a miss it is over
  pub over_by_miss : (t : ℕ) {i : ℕ} → misser order tasks sc t ≡ Some i → over order tasks sc t ≡ true
  over_by_miss t e = over_is t ∙ ap (λ b. b || all_done order tasks sc t) (some_found e)

  -- with all jobs done it is over
  pub over_by_done : (t : ℕ) → all_done order tasks sc t ≡ true → over order tasks sc t ≡ true
  over_by_done t e = over_is t ∙ ap (λ b. found (misser order tasks sc t) || b) e ∙ or-true (found (misser order tasks sc t))

  -- a play that is over without a miss has all jobs done
  pub over_calm : (t : ℕ) → over order tasks sc t ≡ true → misser order tasks sc t ≡ None → all_done order tasks sc t ≡ true
  over_calm t e calm = sym (over_is t ∙ ap (λ b. b || all_done order tasks sc t) (none_found calm)) ∙ e

  -- ---- it ends

  module _
      (permutes : Permutes (length tasks) order)
      (admitted : Admitted tasks)
      (legal : (n : ℕ) → Legal (by_place order tasks) (script_run order tasks sc n))
      (ticks_in : AllReleased sc.entries greatest_time)
      (deadlines_in : (i k : ℕ) → i < length tasks → deadline_of (task_at tasks i) k ≤ greatest_time)
    where
      -- a play without a miss up to twice the greatest time has all jobs done by then
      done_by_then : Calm order tasks sc (2 * greatest_time) → Done order tasks sc (2 * greatest_time)
      done_by_then calm =
          record {
            released = λ e m. omega (arith, ticks_in e m);
            complete = λ p h. none_left ((script_seen order tasks sc (2 * greatest_time)).lanes p).jobs (late p h);
          }
        where
          late : (p : ℕ) → p < length order → Unfinished (λ r k. ⊥) ((script_seen order tasks sc (2 * greatest_time)).lanes p).jobs
          late p h r k w m =
              let it = known_seen order tasks sc (by_place_admitted order tasks permutes admitted) legal p h (2 * greatest_time) r k w m in
              let (_, f) = it.entered in
              let (e, n, at) = released_by order sc r p f in
              let short : deadline_of (task_at (by_place order tasks) p) k ≤ greatest_time =
              rw (by_place_at order tasks p h)
              (deadlines_in (number_at order p) k (number_found order tasks permutes p h)) in
              omega (arith, ticks_in e n, seen_due_later order tasks sc permutes admitted legal p h (2 * greatest_time) calm r k w m)

      -- every play ends
      pub play_ends : (t : ℕ) × (first 0 (suc (2 * greatest_time)) (over order tasks sc) ≡ Some t)
      play_ends = go (answer (first 0 (suc (2 * greatest_time)) (over order tasks sc)))
        where
          go : Answer (first 0 (suc (2 * greatest_time)) (over order tasks sc)) → (t : ℕ) × (first 0 (suc (2 * greatest_time)) (over order tasks sc) ≡ Some t)
          go (it_is t e) = (t, e)
          go (nothing e) =
              let on : (u : ℕ) → u ≤ 2 * greatest_time → over order tasks sc u ≡ false =
              λ u h. first_none 0 (suc (2 * greatest_time)) (over order tasks sc) e u (omega arith) (omega arith) in
              let done : all_done order tasks sc (2 * greatest_time) ≡ true =
              (done_is order tasks sc (2 * greatest_time)).1 (done_by_then (λ u h. (not_over u (on u h)).0)) in
              absurd (true≢false (sym (over_by_done (2 * greatest_time) done) ∙ on (2 * greatest_time) (omega arith)))

      -- the end of a play: it is over then, at twice the greatest time at the latest, and not before
      pub end_is : IsFirst 0 (suc (2 * greatest_time)) (over order tasks sc) (end_of_play order tasks sc)
      unfolding end_of_play
      end_is = let (t, e) = play_ends in rw e (first_some 0 (suc (2 * greatest_time)) (over order tasks sc) e)

      -- a moment at which a play is over, and not before, is its end
      pub end_unique : (t : ℕ) → over order tasks sc t ≡ true → ((u : ℕ) → u < t → over order tasks sc u ≡ false) → end_of_play order tasks sc ≡ t
      end_unique t e on = go (dec_lt (end_of_play order tasks sc) t) (dec_lt t (end_of_play order tasks sc))
        where
          go : Dec (end_of_play order tasks sc < t) → Dec (t < end_of_play order tasks sc) → end_of_play order tasks sc ≡ t
          go (yes l) d = absurd (true≢false (sym end_is.passes ∙ on _ l))
          go (no l) (yes m) = absurd (true≢false (sym e ∙ end_is.earlier t (omega arith) m))
          go (no l) (no m) = omega arith

      -- before the end no task misses, and jobs are to be done
      pub before_end : (u : ℕ) → u < end_of_play order tasks sc → (misser order tasks sc u ≡ None) × (all_done order tasks sc u ≡ false)
      before_end u h = not_over u (end_is.earlier u (omega arith) h)

      -- no task misses up to the end, if none misses there
      pub calm_to_end : misser order tasks sc (end_of_play order tasks sc) ≡ None → Calm order tasks sc (end_of_play order tasks sc)
      calm_to_end e u h = go (dec_lt u (end_of_play order tasks sc))
        where
          go : Dec (u < end_of_play order tasks sc) → misser order tasks sc u ≡ None
          go (yes l) = (before_end u l).0
          go (no l) = let last : u ≡ end_of_play order tasks sc = omega arith in rw last e
