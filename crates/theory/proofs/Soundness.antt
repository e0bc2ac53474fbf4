-- No job takes longer than times that are at least the demand at themselves, whatever frames the higher tasks start the window with.
use Rattle.std.specs.Prelude.{Some, unwrap_or}
use mathlib.Core.List.{List, Memᴰ}
use mathlib.Core.Logic.{◌⊎◌, inl, inr}
use mathlib.Core.Bool.{true}
use mathlib.Core.Path.{◌≡◌, refl, ◌∙◌, ap, subst}
use Prim.Native.Nat.{ℕ, zero, suc, ◌+◌, ◌*◌, ◌%◌, ◌≤◌, ◌<◌}
use native.Mathlib.Decide.{dec_le}
use native.Mathlib.Nat.{le_refl, le_trans, add-le-add, add-zero, suc-mul, mod-eq_of_lt}
use native.Mathlib.Omega.{arith}
use lib.ListN.{length}
use Rattle.theory.specs.Tasks.{Task, task_at, frame_count, frame, deadline_of, work, Admitted}
use Rattle.theory.specs.Analysis.{lower, blocking, higher, releases, higher_work, demand, IsResponse, demand_of, response_of, passes}
use Rattle.theory.specs.Runs.{job, Run, state_at, Legal, TakesLonger}
use Rattle.theory.proofs.Work.{work_mono, work_one, start_most, period_positive}
use Rattle.theory.proofs.Places.{sum_below, sum_suc, sum_le, sum_add, work_in, higher_work_sum}
use Rattle.theory.proofs.Verdict.{response_of_is, passes_frames}
use Rattle.theory.proofs.Lanes.{release_mem}
use Rattle.theory.proofs.Steps.{seen_lane}
use Rattle.theory.proofs.Arrivals.{arrived, Released, next_in, released, released_count}
use Rattle.theory.proofs.Busy.{Quiet, arrived_above, quiet_lane, last_quiet, quiet_again}

-- the work of the tasks above place p in x ticks, each task q counted from frame starts q
unfoldable pub work_above : List Task → ℕ → (ℕ → ℕ) → ℕ → ℕ
work_above set p starts x = sum_below p (λ q. work (task_at set q) (starts q) (releases x (task_at set q).period))

-- a time for each frame of the task at place p that is enough, whatever frames the higher tasks start with
pub record Enough (set : List Task) (p : ℕ) (times : ℕ → ℕ) : Type 0 where
  pub positive : (k : ℕ) → k < frame_count (task_at set p) → 1 ≤ times k
  pub in_period : (k : ℕ) → k < frame_count (task_at set p) → times k ≤ (task_at set p).period
  pub enough : (k : ℕ) → k < frame_count (task_at set p) → (starts : ℕ → ℕ) → ((q : ℕ) → q < p → starts q < frame_count (task_at set q))
      → blocking (lower set p) + frame (task_at set p) k + work_above set p starts (times k) ≤ times k

module _ (set : List Task) (run : Run) (legal : Legal set run) (p : ℕ) (in_set : p < length set) (periods : (q : ℕ) → q < p → 1 ≤ (task_at set q).period) where
  -- the frame that the task at place q takes next at time a
  abbrev next_at : ℕ → ℕ → ℕ
  next_at a q = ((state_at set run a).lanes q).next

  -- the work released in a window of x ticks from a quiet time, x at most p's period: one frame of p and the work of the higher tasks
  window_work : (a x t : ℕ) → a + x ≡ t → t ≤ run.ticks → x ≤ (task_at set p).period → Quiet set run p a
      → arrived_above run p t ≤ arrived_above run p a + (frame (task_at set p) (next_at a p) + work_above set p (next_at a) x)
  unfolding arrived_above work_above
  window_work a x t e h short quiet =
      omega (
        arith,
        sum_suc p (λ q. arrived run q t),
        sum_suc p (λ q. arrived run q a),
        sum_le p {f = λ q. arrived run q t} {g = λ q. arrived run q a + above q} each,
        sum_add p (λ q. arrived run q a) above,
        own,
      )
    where
      above : ℕ → ℕ
      above q = work (task_at set q) (next_at a q) (releases x (task_at set q).period)

      each : (q : ℕ) → q < p → arrived run q t ≤ arrived run q a + above q
      each q l =
          let (n, r) = released set run legal q (omega arith) a t (quiet_lane set run p a q (omega arith) quiet) (omega arith) h in
          omega (arith, r.work_at_most, work_mono (task_at set q) (next_at a q) (released_count set run q a x t n (periods q l) e r))

      own_one : (n : ℕ) → Released set run p a t n → n ≤ 1
      own_one zero r = omega arith
      own_one (suc zero) r = omega arith
      own_one (suc (suc n)) r = let z : ⊥ = omega (arith, r.since.recent 1 (omega arith)) in absurd z

      own : arrived run p t ≤ arrived run p a + frame (task_at set p) (next_at a p)
      own =
          let (n, r) = released set run legal p in_set a t (quiet_lane set run p a p (le_refl p) quiet) (omega arith) h in
          omega (arith, r.work_at_most, work_mono (task_at set p) (next_at a p) (own_one n r), work_one (task_at set p) (next_at a p))

  module _ (times : ℕ → ℕ) (e : Enough set p times) where
    frame_at : (a : ℕ) → a ≤ run.ticks → next_at a p < frame_count (task_at set p)
    frame_at a h = next_in set run legal p in_set a h

    -- after a quiet time the next comes within the time of the frame that is next
    quiet_soon : (a : ℕ) → Quiet set run p a → a + times (next_at a p) ≤ run.ticks → (u : ℕ) × (a < u) × (u ≤ a + times (next_at a p)) × Quiet set run p u
    quiet_soon a quiet h =
        let k : next_at a p < frame_count (task_at set p) = frame_at a (omega arith) in
        quiet_again set run p legal in_set a quiet (a + times (next_at a p)) (omega (arith, e.positive (next_at a p) k)) h
        (omega (
          arith,
          window_work a (times (next_at a p)) (a + times (next_at a p)) refl h (e.in_period (next_at a p) k) quiet,
          e.enough (next_at a p) k (next_at a) (λ q l. next_in set run legal q (omega arith) a (omega arith)),
        ))

    -- a job with work left has not reached its time
    pub unfinished_early : (r k w t : ℕ) → t ≤ run.ticks → Memᴰ (job r k (suc w)) ((state_at set run t).lanes p).jobs → (k < frame_count (task_at set p)) × (t < r + times k)
    unfinished_early r k w t h m =
        let (a, l, quiet, none_later) = last_quiet set run p t in
        let (n, s) = released set run legal p in_set a t (quiet_lane set run p a p (le_refl p) quiet) l h in
        let (j, u, f, v) = s.since.unfinished r k w m in
        go a l quiet (frame_at a (omega arith)) (before_end a l quiet none_later (dec_le (a + times (next_at a p)) t)) j f v (s.since.recent j u)
      where
        before_end : (a : ℕ) → a ≤ t → Quiet set run p a → ((u : ℕ) → a < u → u ≤ t → Quiet set run p u → ⊥) → Dec (a + times (next_at a p) ≤ t) → t < a + times (next_at a p)
        before_end a l quiet none_later (no x) = omega arith
        before_end a l quiet none_later (yes x) = let (u, v, y, q) = quiet_soon a quiet (omega arith) in absurd (none_later u v (omega arith) q)

        go : (a : ℕ) → a ≤ t → Quiet set run p a → next_at a p < frame_count (task_at set p) → t < a + times (next_at a p) → (j : ℕ)
            → k ≡ (next_at a p + j) % frame_count (task_at set p) → a + j * (task_at set p).period ≤ r → a + j * (task_at set p).period < t
            → (k < frame_count (task_at set p)) × (t < r + times k)
        go a l quiet kin short zero f v w =
            let same : k ≡ next_at a p = f ∙ ap (λ x. x % frame_count (task_at set p)) (add-zero _) ∙ mod-eq_of_lt kin in
            rw same (kin, omega arith)
        go a l quiet kin short (suc j) f v w = let z : ⊥ = omega (arith, suc-mul j (task_at set p).period, e.in_period (next_at a p) kin) in absurd z

    -- a job takes longer only than what is less than its time
    pub takes_less : (r k x : ℕ) → TakesLonger set run p r k x → x < times k
    unfolding TakesLonger
    takes_less r k x (zero, some_left, l) = let z : ⊥ = omega arith in absurd z
    takes_less r k x (suc w, some_left, l) =
        go (release_mem (task_at set p) (r + x) ((run.input (r + x)).release_of p) ((state_at set run (r + x)).lanes p)
        (subst (λ y. Memᴰ (job r k (suc w)) y.jobs) (seen_lane set run (r + x) p) l.stands))
      where
        go : Memᴰ (job r k (suc w)) ((state_at set run (r + x)).lanes p).jobs
            ⊎ ((r ≡ r + x) × (k ≡ next_at (r + x) p) × ((run.input (r + x)).release_of p ≡ Some (suc w))) → x < times k
        go (inl m) = omega (arith, (unfinished_early r k w (r + x) l.reached m).1)
        go (inr (now, next, _)) = omega (arith, e.positive k (rw next (frame_at (r + x) l.reached)))

-- ---- with accumulative monotony: the demand bounds the work from every choice of frames

pub period_of : (set : List Task) → Admitted set → (q : ℕ) → q < length set → 1 ≤ (task_at set q).period
period_of set admitted q h = period_positive (admitted.each_task q h).well_formed

work_above_most : (set : List Task) → Admitted set → (p : ℕ) → p < length set → (starts : ℕ → ℕ) (x : ℕ) → work_above set p starts x ≤ higher_work (higher set p) x
unfolding work_above work_in
work_above_most set admitted p in_set starts x =
    rw (higher_work_sum set p x (omega arith))
    (sum_le p (λ q l. start_most (task_at set q) (admitted.each_task q (omega arith)).monotonic (starts q) (releases x (task_at set q).period)))

module _ (set : List Task) (admitted : Admitted set) (p : ℕ) (in_set : p < length set) where
  pub enough_by_demand : (times : ℕ → ℕ)
      → ((k : ℕ) → k < frame_count (task_at set p) → (1 ≤ times k) × (times k ≤ (task_at set p).period) × (demand_of set p k (times k) ≤ times k))
      → Enough set p times
  unfolding demand_of demand
  enough_by_demand times h =
      record {
        positive = λ k l. (h k l).0;
        in_period = λ k l. (h k l).1;
        enough = λ k l starts _. le_trans (add-le-add (le_refl _) (work_above_most set admitted p in_set starts (times k))) (h k l).2;
      }

  pub periods_above : (q : ℕ) → q < p → 1 ≤ (task_at set q).period
  periods_above q l = period_of set admitted q (omega arith)

  -- a frame's response time
  response_time : ℕ → ℕ
  response_time k = unwrap_or (response_of set p k) 0

  is_response : passes set p ≡ true → (k : ℕ) → IsResponse (demand_of set p k) (deadline_of (task_at set p) k) (response_time k)
  unfolding response_time
  is_response pass k =
      let (R, e) = passes_frames set p (admitted.each_task p in_set).well_formed.has_frame pass k in
      rw e ((response_of_is set p k).0 e)

  -- those of a passing task are enough
  enough_by_response : passes set p ≡ true → Enough set p response_time
  enough_by_response pass =
      enough_by_demand response_time
      (λ k l. let r = is_response pass k in (r.positive, le_trans r.within ((admitted.each_task p in_set).well_formed.deadline_in_period k l), r.enough))

  -- a job of a passing task with work left has not reached its deadline
  pub unfinished_in_time : passes set p ≡ true → (run : Run) → Legal set run → (r k w t : ℕ) → t ≤ run.ticks
      → Memᴰ (job r k (suc w)) ((state_at set run t).lanes p).jobs → t < r + deadline_of (task_at set p) k
  unfinished_in_time pass run legal r k w t h m =
      omega (
        arith,
        (unfinished_early set run legal p in_set periods_above response_time (enough_by_response pass) r k w t h m).1,
        (is_response pass k).within,
      )

  -- a job of a passing task takes longer only than what is less than its frame's response time
  pub takes_less_than_response : passes set p ≡ true → (run : Run) → Legal set run → (r k x : ℕ) {R : ℕ} → TakesLonger set run p r k x → response_of set p k ≡ Some R → x < R
  unfolding response_time
  takes_less_than_response pass run legal r k x longer e =
      let same : response_time k ≡ _ = ap (λ o. unwrap_or o 0) e in
      omega (arith, takes_less set run legal p in_set periods_above response_time (enough_by_response pass) r k x longer, same)
