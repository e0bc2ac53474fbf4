-- Tasks that pass have few releases: in t ticks at most t, and one more each.
use mathlib.Core.List.{List}
use mathlib.Core.Bool.{true}
use mathlib.Core.Path.{◌≡◌, refl, sym, ap, ◌∙◌}
use Prim.Native.Nat.{ℕ, zero, suc, pred, ◌+◌, ◌*◌, ◌%◌, ◌≤◌, ◌<◌, zero-le}
use native.Mathlib.Nat.{le_refl, le_trans, le_of_eq, add-mul, mul-add, mul_assoc, mul_right_comm, zero-mul, mul-zero, mul-le-mul_left, mul-le-mul_right, le_of_mul-le-mul_right, mod-lt}
use native.Mathlib.Omega.{arith}
use lib.ListN.{length}
use Rattle.theory.specs.Tasks.{Task, task_at, frame_count, frame, work, start_frame, WellFormed, Admitted}
use Rattle.theory.specs.Analysis.{higher, releases, higher_work, demand, demand_of, passes}
use Rattle.theory.proofs.Work.{frame_mod, work_suc, period_positive}
use Rattle.theory.proofs.Demand.{releases_more}
use Rattle.theory.proofs.Places.{sum_below, sum_le, sum_add, work_in, higher_work_sum}
use Rattle.theory.proofs.Verdict.{passes_frames, response_of_is}

-- ---- sums

sum_scale : (n r : ℕ) (f : ℕ → ℕ) → sum_below n (λ q. f q * r) ≡ sum_below n f * r
unfolding sum_below
sum_scale zero r f = sym (zero-mul r)
sum_scale (suc n) r f = ap (λ x. x + f n * r) (sum_scale n r f) ∙ sym (add-mul (sum_below n f) (f n) r)

sum_times : (n r : ℕ) (f : ℕ → ℕ) → sum_below n (λ q. r * f q) ≡ r * sum_below n f
unfolding sum_below
sum_times zero r f = sym (mul-zero r)
sum_times (suc n) r f = ap (λ x. x + r * f n) (sum_times n r f) ∙ sym (mul-add r (sum_below n f) (f n))

sum_ones : (n : ℕ) → sum_below n (λ q. 1) ≡ n
unfolding sum_below
sum_ones zero = refl
sum_ones (suc n) = omega (arith, sum_ones n)

-- ---- one task

-- n jobs have at least n ticks of work
module _ (t : Task) (formed : WellFormed t) where
  frame_least : (k : ℕ) → 1 ≤ frame t k
  frame_least k = rw (frame_mod t k) at (formed.frame_positive (k % frame_count t) (mod-lt k formed.has_frame))

  work_least : (s n : ℕ) → n ≤ work t s n
  work_least s zero = zero-le
  work_least s (suc n) = omega (arith, work_suc t s n, work_least s n, frame_least (s + n))

-- releases in t ticks, all but one, to those in r ticks are at most as t to r
crossed : {T : ℕ} → 1 ≤ T → (t r : ℕ) → pred (releases t T) * r ≤ t * releases r T
crossed {T} positive t r =
    le_trans (mul-le-mul_left (pred (releases t T)) whole)
    (le_trans (le_of_eq (sym (mul_assoc (pred (releases t T)) (releases r T) T) ∙ mul_right_comm (pred (releases t T)) (releases r T) T))
    (mul-le-mul_right (releases r T) (less (releases t T) (le_refl _))))
  where
    whole : r ≤ releases r T * T
    whole = let no_more : ¬ (releases r T * T < r) = λ l. omega (arith, (releases_more (releases r T) r positive).1 l) in omega arith

    less : (n : ℕ) → n ≤ releases t T → pred n * T ≤ t
    less zero h = omega (arith, zero-mul T)
    less (suc n) h = omega (arith, (releases_more n t positive).0 h)

-- ---- the tasks of the first places

module _ (set : List Task) (admitted : Admitted set) where
  abbrev released : ℕ → ℕ → ℕ
  released t q = releases t (task_at set q).period

  -- the tasks down to one that passes have no more releases than ticks in its response time
  busy : (m : ℕ) → m < length set → passes set m ≡ true → (r : ℕ) × (1 ≤ r) × (sum_below (suc m) (released r) ≤ r)
  unfolding demand_of demand sum_below work_in
  busy m h e =
      let formed = (admitted.each_task m h).well_formed in
      let (r, s) = passes_frames set m formed.has_frame e 0 in
      let is = (response_of_is set m 0).0 s in
      let above : sum_below m (released r) ≤ higher_work (higher set m) r =
      rw (higher_work_sum set m r (omega arith)) (sum_le m (λ q l. each r q (omega arith))) in
      let once : ¬ (1 < released r m) = λ l. omega (arith, (releases_more 1 r (period_positive formed)).0 l, is.within, formed.deadline_in_period 0 formed.has_frame) in
      (r, is.positive, omega (arith, is.enough, frame_least (task_at set m) formed 0))
    where
      each : (r q : ℕ) → q < length set → released r q ≤ work_in set r q
      each r q l = work_least (task_at set q) (admitted.each_task q l).well_formed (start_frame (task_at set q)) (released r q)

  pub releases_few : (p : ℕ) → p ≤ length set → ((q : ℕ) → q < p → passes set q ≡ true) → (t : ℕ) → sum_below p (released t) ≤ t + p
  unfolding sum_below
  releases_few zero h pass t = zero-le
  releases_few (suc m) h pass t = few (busy m h (pass m (omega arith)))
    where
      few : (r : ℕ) × (1 ≤ r) × (sum_below (suc m) (released r) ≤ r) → sum_below (suc m) (released t) ≤ t + suc m
      few (r, positive, within) =
          let crossing : sum_below (suc m) (λ q. pred (released t q)) * r ≤ t * r =
          le_trans (le_of_eq (sym (sum_scale (suc m) r (λ q. pred (released t q)))))
          (le_trans (sum_le (suc m) (λ q l. crossed (period_positive (admitted.each_task q (omega arith)).well_formed) t r))
          (le_trans (le_of_eq (sum_times (suc m) t (released r))) (mul-le-mul_left t within))) in
          let less : sum_below (suc m) (λ q. pred (released t q)) ≤ t = le_of_mul-le-mul_right crossing positive in
          let more : sum_below (suc m) (released t) ≤ sum_below (suc m) (λ q. pred (released t q) + 1) = sum_le (suc m) (λ q l. omega arith) in
          omega (arith, sum_add (suc m) (λ q. pred (released t q)) (λ q. 1), sum_ones (suc m))
