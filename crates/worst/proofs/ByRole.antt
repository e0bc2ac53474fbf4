-- The releases of a task by its role, as they are planned: those of the worst run, and sound.
use Rattle.std.specs.Prelude.{Some}
use mathlib.Core.Path.{◌≡◌, refl, sym, ap, ◌∙◌}
use Prim.Native.Nat.{ℕ, zero, suc, ◌+◌, ◌*◌, ◌/◌, ◌%◌, ◌≤◌, ◌<◌}
use native.Mathlib.Decide.{ℕ_discrete}
use native.Mathlib.Nat.{add-zero, suc-mul, mul-suc, div-add-mod', mul-le-mul_left, mul-le-mul, mul-one, mul-mod_left}
use native.Mathlib.Omega.{arith}
use borrow.Author.Tests.{eq-eqb, ne_eqb}
use Rattle.theory.specs.Tasks.{Task, frame_count, frame, start_frame, largest_frame, AdmittedTask}
use Rattle.theory.specs.WorstRun.{Role, above, own, blocks, absent, worst_first, once, every_period, worst_release}
use Rattle.theory.proofs.WorstReleases.{once_at, once_else, period_zero}
use Rattle.theory.proofs.Laws.{start_is, largest_is}
use Rattle.sheet.specs.Constants.{most_frames, greatest_time}
use Rattle.plays.specs.WorstScript.{worst_lock}
use Rattle.worst.specs.declared.Series.{Series}
use Rattle.worst.specs.Inside.Plans.{series_for, work_with, series_release, SoundSeries}
use Rattle.worst.proofs.Releases.{tick_of, release_at, release_none}
use Rattle.worst.proofs.JobWork.{work_free, work_locked}

-- a release with no second one up to the end
once_same : (t : Task) (series : Series) (end : ℕ) → series.step ≡ suc end → (now : ℕ) → now ≤ end
    → series_release t series now ≡ once series.opens (work_with t series.next series.lock) now
once_same t series end es now l = go (ℕ_discrete now series.opens)
  where
    first : tick_of series 0 ≡ series.opens
    first = omega arith

    later : (c : ℕ) → tick_of series c ≡ now → now ≡ series.opens
    later zero e = sym e ∙ first
    later (suc c) e = let more = suc-mul c series.step in let z : ⊥ = omega arith in absurd z

    go : Dec (now ≡ series.opens) → series_release t series now ≡ once series.opens (work_with t series.next series.lock) now
    go (yes e) =
        ap (series_release t series) (e ∙ sym first)
        ∙ release_at t series (omega arith) 0
        ∙ ap (λ (k : ℕ). Some (work_with t k series.lock)) (add-zero series.next)
        ∙ sym (ap (once series.opens (work_with t series.next series.lock)) e ∙ once_at series.opens (work_with t series.next series.lock))
    go (no n) = release_none t series (omega arith) now (λ c e. n (later c e)) ∙ sym (once_else series.opens (work_with t series.next series.lock) now n)

module _ (t : Task) (k end : ℕ) where
  abbrev planned : Role → Series
  planned r = series_for t k end r

  above_same : 1 ≤ t.period → (now : ℕ) → series_release t (planned above) now ≡ every_period t now
  unfolding series_for every_period frame
  above_same positive zero = release_none t (planned above) positive 0 (λ c e. omega arith) ∙ sym (period_zero t)
  above_same positive (suc n) = go (ℕ_discrete (n % t.period) 0)
    where
      now_is : n % t.period ≡ 0 → suc n ≡ tick_of (planned above) (n / t.period)
      now_is e = omega (arith, div-add-mod' n t.period)

      never : (n % t.period ≡ 0 → ⊥) → (c : ℕ) → tick_of (planned above) c ≡ suc n → ⊥
      never ne c e = let same : c * t.period ≡ n = omega arith in ne (ap (λ (x : ℕ). x % t.period) (sym same) ∙ mul-mod_left c t.period)

      go : Dec (n % t.period ≡ 0) → series_release t (planned above) (suc n) ≡ every_period t (suc n)
      go (yes e) =
          ap (series_release t (planned above)) (now_is e)
          ∙ release_at t (planned above) positive (n / t.period)
          ∙ ap Some (sym (work_free t (start_frame t + n / t.period) 0 refl))
          ∙ sym (rw (eq-eqb (n % t.period) 0 e, every_period) refl)
      go (no ne) = release_none t (planned above) positive (suc n) (never ne) ∙ sym (rw (ne_eqb (n % t.period) 0 ne, every_period) refl)

  -- the releases, the locks and the first frames are those of the worst run
  pub release_same : 1 ≤ t.period → (r : Role) → (r ≡ blocks → 1 ≤ t.lock) → (now : ℕ) → now ≤ end → series_release t (planned r) now ≡ worst_release t k r now
  unfolding series_for worst_release
  release_same positive above h now l = above_same positive now
  release_same positive own h now l = once_same t (planned own) end refl now l ∙ ap (λ (w : ℕ). once 1 w now) (sym (work_free t k 0 refl))
  release_same positive blocks h now l =
      once_same t (planned blocks) end refl now l
      ∙ ap (λ (w : ℕ). once 0 w now) (sym (work_locked t (largest_frame t) t.lock (λ e. let locks = h refl in omega arith)))
  release_same positive absent h now l = release_none t (planned absent) (omega arith) now (λ c e. omega arith)

  -- its lock
  pub lock_same : (r : Role) → (planned r).lock ≡ worst_lock t r
  unfolding series_for worst_lock
  lock_same above = refl
  lock_same own = refl
  lock_same blocks = refl
  lock_same absent = refl

  -- its first frame
  pub first_same : (r : Role) → (planned r).next ≡ worst_first t k r
  unfolding series_for worst_first
  first_same above = refl
  first_same own = refl
  first_same blocks = refl
  first_same absent = refl

  -- what is asked of a series
  module _ (a : AdmittedTask t) (few : frame_count t ≤ most_frames) (period_fits : t.period ≤ greatest_time) (lock_small : t.lock ≤ greatest_time)
      (end_positive : 1 ≤ end) (end_fits : end ≤ greatest_time) where
    frames_small : (j : ℕ) → j < frame_count t → frame t j ≤ greatest_time
    frames_small j h = omega (arith, a.well_formed.frame_in_deadline j h, a.well_formed.deadline_in_period j h)

    period_positive : 1 ≤ t.period
    period_positive =
        let h = a.well_formed.has_frame in
        omega (arith, a.well_formed.frame_positive 0 h, a.well_formed.frame_in_deadline 0 h, a.well_formed.deadline_in_period 0 h)

    steps_on : (step : ℕ) → 1 ≤ step → end ≤ end * step
    steps_on step h = rw (mul-one end) at (mul-le-mul_left {m = 1} {n = step} end h)

    -- the series of an admitted task can be counted and written
    pub series_sound : (r : Role) → (r ≡ own → k < frame_count t) → SoundSeries end t (planned r)
    unfolding series_for
    series_sound above h =
        record {
          step_positive = period_positive;
          step_small = omega arith;
          few = omega (arith, steps_on t.period period_positive);
          next_in = (start_is t a.monotonic).start_in;
          few_frames = few;
          frames_fit = frames_small;
          lock_fits = omega arith;
        }
    series_sound own h =
        record {
          step_positive = omega arith;
          step_small = omega arith;
          few = omega (arith, steps_on (suc end) (omega arith));
          next_in = h refl;
          few_frames = few;
          frames_fit = frames_small;
          lock_fits = omega arith;
        }
    series_sound blocks h =
        record {
          step_positive = omega arith;
          step_small = omega arith;
          few = omega (arith, mul-suc end end, mul-le-mul end_positive end_positive);
          next_in = (largest_is t a.well_formed.has_frame).largest_in;
          few_frames = few;
          frames_fit = frames_small;
          lock_fits = lock_small;
        }
    series_sound absent h =
        record {
          step_positive = omega arith;
          step_small = omega arith;
          few = omega arith;
          next_in = omega (arith, a.well_formed.has_frame);
          few_frames = few;
          frames_fit = frames_small;
          lock_fits = omega arith;
        }
