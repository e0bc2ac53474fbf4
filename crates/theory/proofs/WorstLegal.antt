-- The worst run of a frame keeps the run rules.
use Rattle.std.specs.Prelude.{None, Option, Some}
use mathlib.Core.List.{List}
use Rattle.theory.proofs.Options.{none_ne_some}
use mathlib.Core.Path.{◌≡◌, refl, sym, ◌∙◌, ap}
use Prim.Native.Nat.{ℕ, zero, suc, ◌+◌, ◌*◌, ◌%◌, ◌≤◌, ◌<◌}
use native.Mathlib.Decide.{ℕ_discrete}
use native.Mathlib.Nat.{le_refl, le_trans, le_of_eq, add-zero, suc-mul, mod-eq_of_lt}
use native.Mathlib.Omega.{arith}
use lib.ListN.{length}
use Rattle.theory.specs.Tasks.{Task, task_at, frame_count, frame, start_frame, AdmittedTask, Admitted}
use Rattle.theory.specs.Analysis.{blocker, releases}
use Rattle.theory.specs.Runs.{Lane, Run, release_lane, pick, tick, start_state, state_at, seen_at, longest_stretch, Legal}
use Rattle.theory.specs.WorstRun.{blocks, role, worst_first, once, every_period, worst_stretch, worst_run}
use Rattle.theory.proofs.Work.{frame_mod, next_frame_after, start_is, largest_is}
use Rattle.theory.proofs.Demand.{releases_zero}
use Rattle.theory.proofs.Steps.{next_after, free_after, state_step}
use Rattle.theory.proofs.Soundness.{period_of}
use Rattle.theory.proofs.WorstReleases.{once_at, once_else, Periodic, releases_now, releases_none, periodic, period_zero, RoleOf, role_above, role_own, is_above, is_own, is_blocker, is_absent, role_of, release_above, release_own, release_blocker, release_absent, none_at_zero}
use Rattle.theory.proofs.WorstFirstTick.{first_stretch_fits}

-- a lane from which n jobs were released, one at each period from tick 1 on, the first with the start frame
record Row (t : Task) (n : ℕ) (l : Lane) : Type 0 where
  next_is : l.next ≡ (start_frame t + n) % frame_count t
  spaced : l.free_from ≤ suc (n * t.period)

-- what is released once is released at its tick
once_when : {at w now v : ℕ} → once at w now ≡ Some v → (now ≡ at) × (v ≡ w)
once_when {at} {w} {now} {v} e = go (ℕ_discrete now at)
  where
    go : Dec (now ≡ at) → (now ≡ at) × (v ≡ w)
    go (yes same) = (same, cc (once_at at w, ap (λ x. once at w x) same))
    go (no ne) = absurd (none_ne_some v (sym (once_else at w now ne) ∙ e))

module _ (set : List Task) (admitted : Admitted set) (p : ℕ) (in_set : p < length set) (k : ℕ) (k_in : k < frame_count (task_at set p)) where
  abbrev worst : Run
  worst = worst_run set p k

  abbrev lane : ℕ → ℕ → Lane
  lane t q = (state_at set worst t).lanes q

  -- ---- first frames

  worst_first_frames : (q : ℕ) → q < length set → (worst_run set p k).first_frame q < frame_count (task_at set q)
  unfolding worst_run worst_first
  worst_first_frames q h = go (role_of set p q)
    where
      task : AdmittedTask (task_at set q)
      task = admitted.each_task q h

      go : RoleOf set p q → worst_first (task_at set q) k (role set p q) < frame_count (task_at set q)
      go (is_above l e) = rw e (start_is (task_at set q) task.monotonic).start_in
      go (is_own same e) = rw (e, same) k_in
      go (is_blocker l b e) = rw e (largest_is (task_at set q) task.well_formed.has_frame).largest_in
      go (is_absent l b e) = rw e task.well_formed.has_frame

  first_next : (q : ℕ) → (lane 0 q).next ≡ worst_first (task_at set q) k (role set p q)
  unfolding state_at start_state worst_run
  first_next q = refl

  first_free : (q : ℕ) → (lane 0 q).free_from ≡ 0
  unfolding state_at start_state
  first_free q = refl

  -- ---- the lanes at and above place p, at and after tick 1

  pub next_at_one : (q : ℕ) → q ≤ p → ((state_at set (worst_run set p k) 1).lanes q).next ≡ worst_first (task_at set q) k (role set p q)
  unfolding release_lane
  next_at_one q h = next_after set worst 0 q (none_at_zero set p k q h) ∙ first_next q

  free_at_one : (q : ℕ) → q ≤ p → (lane 1 q).free_from ≡ 0
  unfolding release_lane
  free_at_one q h = free_after set worst 0 q (none_at_zero set p k q h) ∙ first_free q

  -- a higher task has released ⌈m/T⌉ jobs in the m ticks from tick 1
  row : (q m : ℕ) → q < p → Row (task_at set q) (releases m (task_at set q).period) (lane (suc m) q)
  unfolding worst_first release_lane
  row q zero h =
      record {
        next_is =
            next_at_one q (omega arith)
            ∙ rw (role_above set p q h, releases_zero (period_of set admitted q (omega arith)), add-zero (start_frame (task_at set q)))
            (sym (mod-eq_of_lt (start_is (task_at set q) (admitted.each_task q (omega arith)).monotonic).start_in));
        spaced = omega (arith, free_at_one q (omega arith));
      }
  row q (suc m) h = go (releases m (task_at set q).period) (periodic (task_at set q) (period_of set admitted q (omega arith)) m) (row q m h)
    where
      go : (n : ℕ) → Periodic (task_at set q) m n → Row (task_at set q) n (lane (suc m) q) → Row (task_at set q) (releases (suc m) (task_at set q).period) (lane (suc (suc m)) q)
      go n (releases_now e place more) before =
          rw more
          (record {
            next_is =
                next_after set worst (suc m) q (release_above set p k q (suc m) h ∙ e)
                ∙ next_frame_after (task_at set q) (start_frame (task_at set q)) n before.next_is;
            spaced = omega (arith, free_after set worst (suc m) q (release_above set p k q (suc m) h ∙ e), suc-mul n (task_at set q).period);
          })
      go n (releases_none e more) before =
          rw more
          (record {
            next_is = next_after set worst (suc m) q (release_above set p k q (suc m) h ∙ e) ∙ before.next_is;
            spaced = omega (arith, free_after set worst (suc m) q (release_above set p k q (suc m) h ∙ e), before.spaced);
          })

  -- ---- each release is allowed, and its work is its frame's time or, of the blocker, Q

  -- the task at place q may be released at tick t with work w
  Allowed : ℕ → ℕ → ℕ → Type 0
  Allowed t q w = ((lane t q).free_from ≤ t) × (w ≤ frame (task_at set q) (lane t q).next)

  allowed_above : (t q w : ℕ) → q < p → every_period (task_at set q) t ≡ Some w → Allowed t q w
  unfolding Allowed
  allowed_above zero q w h e = absurd (none_ne_some w (sym (period_zero (task_at set q)) ∙ e))
  allowed_above (suc m) q w h e = go (releases m (task_at set q).period) (periodic (task_at set q) (period_of set admitted q (omega arith)) m) (row q m h)
    where
      go : (n : ℕ) → Periodic (task_at set q) m n → Row (task_at set q) n (lane (suc m) q) → Allowed (suc m) q w
      go n (releases_now now place more) before =
          let full : w ≡ frame (task_at set q) (start_frame (task_at set q) + n) = cc in
          (omega (arith, before.spaced), rw (before.next_is, frame_mod (task_at set q) (start_frame (task_at set q) + n)) (le_of_eq full))
      go n (releases_none now more) before = absurd (none_ne_some w (sym now ∙ e))

  allowed_own : (t w : ℕ) → once 1 (frame (task_at set p) k) t ≡ Some w → Allowed t p w
  unfolding Allowed worst_first
  allowed_own t w e =
      let (now, full) = once_when e in
      rw now (omega (arith, free_at_one p (le_refl p)), rw (next_at_one p (le_refl p), role_own set p) (le_of_eq full))

  allowed_blocker : (t b w : ℕ) → b < length set → role set p b ≡ blocks → once 0 (task_at set b).lock t ≡ Some w → Allowed t b w
  unfolding Allowed worst_first
  allowed_blocker t b w h r e =
      let (now, full) = once_when e in
      let task : AdmittedTask (task_at set b) = admitted.each_task b h in
      rw now (
        omega (arith, first_free b),
        rw (first_next b, r, (largest_is (task_at set b) task.well_formed.has_frame).largest_time) (le_trans (le_of_eq full) task.lock_rule),
      )

  allowed : (t q w : ℕ) → q < length set → ((worst_run set p k).input t).release_of q ≡ Some w → Allowed t q w
  allowed t q w h e = go (role_of set p q)
    where
      go : RoleOf set p q → Allowed t q w
      go (is_above l r) = allowed_above t q w l (sym (release_above set p k q t l) ∙ e)
      go (is_own same r) = rw same (allowed_own t w (sym (release_own set p k t) ∙ rw same at e))
      go (is_blocker l b r) = allowed_blocker t q w h r (sym (release_blocker set p k q t r) ∙ e)
      go (is_absent l b r) = absurd (none_ne_some w (sym (release_absent set p k q t r) ∙ e))

  -- the blocker's stretch starts with tick 0, and none later
  pub no_later_stretch : (t : ℕ) → ((worst_run set p k).input (suc t)).stretch ≡ 0
  unfolding worst_run worst_stretch
  no_later_stretch t = go (blocker set p)
    where
      go : (o : Option ℕ) → worst_stretch set o (suc t) ≡ 0
      go None = refl
      go (Some b) = refl

  -- so a tick after the first starts none
  pub later_step : (t : ℕ) → state_at set (worst_run set p k) (suc (suc t))
      ≡ tick (pick set (seen_at set (worst_run set p k) (suc t))) 0 (seen_at set (worst_run set p k) (suc t))
  later_step t =
      state_step set worst (suc t)
      ∙ ap (λ new. tick (pick set (seen_at set worst (suc t))) new (seen_at set worst (suc t))) (no_later_stretch t)

  -- the worst run is a run of the set
  pub worst_legal : Legal set (worst_run set p k)
  unfolding Allowed
  worst_legal =
      record {
        first_frames = worst_first_frames;
        each_tick = λ t _. record { apart = λ q w l e. (allowed t q w l e).0; work_fits = λ q w l e. (allowed t q w l e).1; stretch_fits = fits t };
      }
    where
      fits : (t : ℕ) → (worst.input t).stretch ≤ longest_stretch set (seen_at set worst t).to_come (pick set (seen_at set worst t))
      fits zero = first_stretch_fits set p k
      fits (suc t) = rw (no_later_stretch t) (omega arith)
