-- What a task releases in a window: at most ⌈x/T⌉ jobs in x ticks, with consecutive frames from the one that is next at the window's start.
use Rattle.std.specs.Prelude.{None, Option, Some}
use mathlib.Core.Bool.{Bool}
use mathlib.Core.List.{List, Memᴰ}
use mathlib.Core.Logic.{◌⊎◌, inl, inr}
use mathlib.Core.Path.{◌≡◌, refl, sym, ◌∙◌, subst}
use Prim.Native.Nat.{ℕ, zero, suc, ◌+◌, ◌*◌, ◌%◌, ◌≤◌, ◌<◌}
use native.Mathlib.Decide.{le_ind}
use native.Mathlib.Nat.{le_trans, add-zero, zero-mul, suc-mul, mul-le-mul_right, mod-eq_of_lt, not-suc-le-zero}
use native.Mathlib.Omega.{arith}
use lib.ListN.{length}
use Rattle.theory.specs.Tasks.{Task, task_at, frame_count, frame, work}
use Rattle.theory.specs.Analysis.{releases}
use Rattle.theory.specs.Runs.{job, Lane, Run, release_lane, serve_lane, start_state, state_at, Legal}
use Rattle.theory.proofs.Work.{frame_mod, work_suc, next_frame_lt, next_frame_after}
use Rattle.theory.proofs.Demand.{releases_more}
use Rattle.theory.proofs.Lanes.{total, given, release_mem, serve_lane_next, serve_lane_free, Unfinished, unfinished_none, unfinished_serve}
use Rattle.theory.proofs.Steps.{lane_after, next_after}

-- the work that the task at place q has released before time t
unfoldable pub arrived : Run → ℕ → ℕ → ℕ
arrived run q zero = 0
arrived run q (suc t) = arrived run q t + given ((run.input t).release_of q)

pub arrived_zero : (run : Run) (q : ℕ) → arrived run q 0 ≡ 0
unfolding arrived
arrived_zero run q = refl

pub arrived_suc : (run : Run) (q t : ℕ) → arrived run q (suc t) ≡ arrived run q t + given ((run.input t).release_of q)
unfolding arrived
arrived_suc run q t = refl

-- the releases of one lane from time a on, when the lane's next frame was k, and n jobs have been released by time t
pub record Since (task : Task) (a k n t : ℕ) (l : Lane) : Type 0 where
  pub next_is : l.next ≡ (k + n) % frame_count task
  -- the next release is not before its turn in the row a, a + T, ..
  pub spaced : 1 ≤ n → a + n * task.period ≤ l.free_from
  -- each of the n was released before t, and not before its turn in the row
  pub recent : (j : ℕ) → j < n → a + j * task.period < t
  pub unfinished : Unfinished (λ r f. (j : ℕ) × (j < n) × (f ≡ (k + j) % frame_count task) × (a + j * task.period ≤ r)) l.jobs

-- the same from one tick to the next, for a lane without a release and for one with it
since_none : {task : Task} {a k n t : ℕ} {l : Lane} → Since task a k n t l → Since task a k n (suc t) l
since_none s = record { next_is = s.next_is; spaced = s.spaced; recent = λ j h. omega (arith, s.recent j h); unfinished = s.unfinished }

since_serve : {task : Task} {a k n t : ℕ} (b : Bool) (l : Lane) → Since task a k n t l → Since task a k n t (serve_lane b l)
since_serve b l s =
    record {
      next_is = serve_lane_next b l ∙ s.next_is;
      spaced = λ h. rw (serve_lane_free b l) (s.spaced h);
      recent = s.recent;
      unfinished = unfinished_serve _ b l s.unfinished;
    }

-- a release stands at or after its turn in the row
in_its_turn : {task : Task} {a k n t : ℕ} {l : Lane} → Since task a k n t l → a ≤ t → l.free_from ≤ t → a + n * task.period ≤ t
in_its_turn {task} {a} {n = n} {t = t} {l = l} s h free = go n s.spaced
  where
    go : (m : ℕ) → (1 ≤ m → a + m * task.period ≤ l.free_from) → a + m * task.period ≤ t
    go zero sp = rw (zero-mul task.period) (omega arith)
    go (suc m) sp = le_trans (sp (omega arith)) free

since_some : {task : Task} {a k n t : ℕ} {l : Lane} (w : ℕ) → Since task a k n t l → a ≤ t → l.free_from ≤ t → Since task a k (suc n) (suc t) (release_lane task t (Some w) l)
unfolding release_lane
since_some {task} {a} {k} {n} {t} {l} w s h free =
    record {
      next_is = next_frame_after task k n s.next_is;
      spaced = λ _. omega (arith, suc-mul n task.period, in_its_turn s h free);
      recent = λ j u. omega (arith, mul-le-mul_right {m = j} {n = n} task.period (omega arith), in_its_turn s h free);
      unfinished = λ r f v m. go r f (release_mem task t (Some w) l m) (s.unfinished r f v);
    }
  where
    go : (r f : ℕ) {v : ℕ} → Memᴰ (job r f (suc v)) l.jobs ⊎ ((r ≡ t) × (f ≡ l.next) × (Some w ≡ Some (suc v)))
        → (Memᴰ (job r f (suc v)) l.jobs → (j : ℕ) × (j < n) × (f ≡ (k + j) % frame_count task) × (a + j * task.period ≤ r))
        → (j : ℕ) × (j < suc n) × (f ≡ (k + j) % frame_count task) × (a + j * task.period ≤ r)
    go r f (inl m) before = let (j, u, e, p) = before m in (j, omega arith, e, p)
    go r f (inr (now, next, _)) before = (n, omega arith, next ∙ s.next_is, omega (arith, in_its_turn s h free))

-- ---- in a legal run

-- n jobs of the task at place q have been released from time a up to time t: their turns and frames, and their work
pub record Released (set : List Task) (run : Run) (q a t n : ℕ) : Type 0 where
  pub since : Since (task_at set q) a ((state_at set run a).lanes q).next n t ((state_at set run t).lanes q)
  pub work_at_most : arrived run q t ≤ arrived run q a + work (task_at set q) ((state_at set run a).lanes q).next n

release_next_in : (task : Task) (t : ℕ) (o : Option ℕ) (l : Lane) → l.next < frame_count task → (release_lane task t o l).next < frame_count task
unfolding release_lane
release_next_in task t None l h = h
release_next_in task t (Some w) l h = next_frame_lt task l.next (omega arith)

module _ (set : List Task) (run : Run) (legal : Legal set run) (q : ℕ) (in_set : q < length set) where
  -- the frame of the next job is a frame
  pub next_in : (t : ℕ) → t ≤ run.ticks → ((state_at set run t).lanes q).next < frame_count (task_at set q)
  unfolding state_at start_state
  next_in zero h = legal.first_frames q in_set
  next_in (suc t) h =
      rw (next_after set run t q refl)
      (release_next_in (task_at set q) t ((run.input t).release_of q) ((state_at set run t).lanes q) (next_in t (omega arith)))

  module _ (a : ℕ) where
    first_next : ℕ
    first_next = ((state_at set run a).lanes q).next

    released_one : (t n : ℕ) → a ≤ t → t < run.ticks → Released set run q a t n → (o : Option ℕ) → (run.input t).release_of q ≡ o
        → (m : ℕ) × (Since (task_at set q) a first_next m (suc t) (release_lane (task_at set q) t o ((state_at set run t).lanes q))
        × (arrived run q t + given o ≤ arrived run q a + work (task_at set q) first_next m))
    unfolding given release_lane first_next
    released_one t n h k r None e = (n, (since_none r.since, omega (arith, r.work_at_most)))
    released_one t n h k r (Some w) e = (
      suc n,
      (
        since_some w r.since h ((legal.each_tick t k).apart q w in_set e),
        omega (arith, r.work_at_most, fits, work_suc (task_at set q) first_next n),
      ),
    )
      where
        fits : w ≤ frame (task_at set q) (first_next + n)
        fits =
            rw (← frame_mod (task_at set q) (first_next + n), ← r.since.next_is)
            ((legal.each_tick t k).work_fits q w in_set e)

    released_step : (t n : ℕ) → a ≤ t → t < run.ticks → Released set run q a t n → (m : ℕ) × Released set run q a (suc t) m
    unfolding first_next
    released_step t n h k r =
        let (m, (s, w)) = released_one t n h k r ((run.input t).release_of q) refl in
        let (b, e) = lane_after set run t q refl in (
          m,
          record {
            since = subst (Since (task_at set q) a first_next m (suc t)) (sym e) (since_serve b _ s);
            work_at_most = rw (arrived_suc run q t) w;
          },
        )

    -- from a time at which nothing of the task is pending
    pub released : (t : ℕ) → total ((state_at set run a).lanes q).jobs ≡ 0 → a ≤ t → t ≤ run.ticks → (n : ℕ) × Released set run q a t n
    released t quiet h =
        le_ind (λ t. t ≤ run.ticks → (n : ℕ) × Released set run q a t n) start
        (λ t l before k. let (n, r) = before (omega arith) in released_step t n l k r) t h
      where
        start : a ≤ run.ticks → (n : ℕ) × Released set run q a a n
        start k = (
          0,
          record {
            since =
                record {
                  next_is = rw (add-zero ((state_at set run a).lanes q).next) (sym (mod-eq_of_lt (next_in a k)));
                  spaced = λ z. absurd (not-suc-le-zero z);
                  recent = λ j z. absurd (not-suc-le-zero z);
                  unfinished = unfinished_none _ ((state_at set run a).lanes q).jobs quiet;
                };
            work_at_most = omega arith;
          },
        )

-- the number of jobs in a window of x ticks is at most ⌈x/T⌉
pub released_count : (set : List Task) (run : Run) (q a x t n : ℕ) → 1 ≤ (task_at set q).period → a + x ≡ t → Released set run q a t n → n ≤ releases x (task_at set q).period
released_count set run q a x t n positive e r = go n r.since.recent
  where
    go : (m : ℕ) → ((j : ℕ) → j < m → a + j * (task_at set q).period < t) → m ≤ releases x (task_at set q).period
    go zero h = omega arith
    go (suc m) h = (releases_more m x positive).1 (omega (arith, h m (omega arith)))
