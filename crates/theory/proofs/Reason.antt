-- Why a task has no start: where no frame qualifies there is a reason, and only one.
use Rattle.std.specs.Prelude.{None, Some, unwrap_or}
use mathlib.Core.Bool.{Bool, false}
use mathlib.Core.Logic.{◌↔◌}
use mathlib.Core.Path.{◌≡◌, refl}
use Prim.Native.Nat.{ℕ, zero, suc, ◌+◌, ◌≤◌, ◌<◌}
use native.Mathlib.Decide.{dec_le}
use native.Mathlib.Nat.{le_refl, le_antisymm, le_dest}
use native.Mathlib.Omega.{arith}
use borrow.Author.Tests.{ltb-true, ltb-false, le-ltb}
use lib.Dec.{eqb, lit≤}
use Rattle.theory.specs.First.{first, found}
use Rattle.theory.specs.Tasks.{Task, frame_count, frame, work, largest, largest_frame, Qualifies, Monotonic}
use Rattle.theory.specs.Reason.{exceeds, exceeding, exceeded, exceeded_length, exceeding_frame, IsReason}
use Rattle.theory.proofs.Search.{Answer, nothing, it_is, answer, found_some, found_none, none_found, IsFirst, first_some, first_none, first_is_none}
use Rattle.theory.proofs.Work.{work_zero, work_one, work_add, work_round, whole_round, IsLargest, largest_is, frame_le_largest_frame}

module _ (t : Task) where
  -- ---- a frame that another exceeds

  -- no frame has a greater sum of n frames than frame s
  none_exceeds : (s n : ℕ) → exceeding t s n ≡ None → (k : ℕ) → k < frame_count t → work t k n ≤ work t s n
  unfolding exceeding exceeds
  none_exceeds s n e k h = ltb-false _ _ (first_none 0 (frame_count t) (exceeds t s n) e k (omega arith) (omega arith))

  -- the lowest-numbered frame with one
  record Exceeding (s n k : ℕ) : Type 0 where
    in_list : k < frame_count t
    exceeds_it : work t s n < work t k n
    lowest : (j : ℕ) → j < k → work t j n ≤ work t s n

  some_exceeds : (s n k : ℕ) → exceeding t s n ≡ Some k → Exceeding s n k
  unfolding exceeding exceeds
  some_exceeds s n k e =
      let f : IsFirst 0 (frame_count t) (exceeds t s n) k = first_some 0 (frame_count t) (exceeds t s n) e in
      record {
        in_list = omega (arith, f.before);
        exceeds_it = ltb-true _ _ f.passes;
        lowest = λ j h. ltb-false _ _ (f.earlier j (omega arith) h);
      }

  -- ---- a frame qualifies exactly if none exceeds it, at any length

  -- whether some frame exceeds frame s at a length
  abbrev pub exceeded_at : ℕ → ℕ → Bool
  exceeded_at s n = found (exceeding t s n)

  -- at a length where none is found
  not_at : (s n : ℕ) → exceeded_at s n ≡ false → (k : ℕ) → k < frame_count t → work t k n ≤ work t s n
  not_at s n e = none_exceeds s n (found_none e)

  pub exceeded_test : (s : ℕ) → (exceeded t s ≡ None) ↔ Qualifies t s
  unfolding exceeded exceeding exceeds Qualifies
  exceeded_test s = (
    λ e n k l h k_in. not_at s n (first_none 1 (frame_count t) (exceeded_at s) e n l (omega arith)) k k_in,
    λ q.
        first_is_none 1 (frame_count t) (exceeded_at s)
        (λ n l h. none_found (first_is_none 0 (frame_count t) (exceeds t s n) (λ k _ k_in. le-ltb _ _ (q n k l (omega arith) (omega arith))))),
  )

  -- ---- the reason

  no_shorter : (s n : ℕ) → ((m : ℕ) → 1 ≤ m → m < n → exceeded_at s m ≡ false) → (m j : ℕ) → m < n → j < frame_count t → work t j m ≤ work t s m
  no_shorter s n h zero j l j_in = rw (work_zero t j, work_zero t s) (le_refl 0)
  no_shorter s n h (suc m) j l j_in = not_at s (suc m) (h (suc m) (omega arith) l) j j_in

  some_reason : 1 ≤ frame_count t → (n : ℕ) → exceeded t (largest_frame t) ≡ Some n → IsReason t (largest_frame t) (exceeded_length t) (exceeding_frame t)
  unfolding exceeded exceeded_length exceeding_frame
  some_reason has n e =
      let s = largest_frame t in
      let f : IsFirst 1 (frame_count t) (exceeded_at s) n = first_some 1 (frame_count t) (exceeded_at s) e in
      let (k, q) = found_some f.passes in
      let x : Exceeding s n k = some_exceeds s n k q in
      let l : IsLargest t s = largest_is t has in
      rw (e, q)
      (record {
        frame_in = l.largest_in;
        largest = λ j _. frame_le_largest_frame t has j;
        lowest_largest = λ j h. rw l.largest_time (l.lowest j h);
        other_in = x.in_list;
        sum_exceeds = x.exceeds_it;
        shortest = no_shorter s n f.earlier;
        lowest_other = x.lowest;
      })

  -- Where no frame qualifies there is a reason.
  pub reason_is : 1 ≤ frame_count t → ¬ Monotonic t → IsReason t (largest_frame t) (exceeded_length t) (exceeding_frame t)
  reason_is has none_starts = go (answer (exceeded t (largest_frame t)))
    where
      go : Answer (exceeded t (largest_frame t)) → IsReason t (largest_frame t) (exceeded_length t) (exceeding_frame t)
      go (nothing e) = absurd (none_starts (record { start = largest_frame t; start_in = (largest_is t has).largest_in; start_qualifies = (exceeded_test (largest_frame t)).0 e }))
      go (it_is n e) = some_reason has n e

  -- ---- and only one

  -- a whole round, and what comes behind it
  behind_round : (j d : ℕ) → work t j (frame_count t + d) ≡ work t 0 (frame_count t) + work t j d
  behind_round j d = rw (work_add t j (frame_count t) d, work_round t j d, whole_round t j)

  module _ {s n k : ℕ} (r : IsReason t s n k) where
    has_frame : 1 ≤ frame_count t
    has_frame = omega (arith, r.frame_in)

    -- One frame does not exceed the largest, and whole rounds are the same from every frame.
    pub reason_length : (2 ≤ n) × (n < frame_count t)
    reason_length = (longer n refl, shorter (dec_le (frame_count t) n))
      where
        longer : (m : ℕ) → m ≡ n → 2 ≤ n
        longer zero e =
            let x : work t s 0 < work t k 0 = rw e r.sum_exceeds in
            let z : ⊥ = omega (arith, work_zero t s, work_zero t k) in
            absurd z
        longer (suc zero) e =
            let x : work t s 1 < work t k 1 = rw e r.sum_exceeds in
            let z : ⊥ = omega (arith, work_one t s, work_one t k, r.largest k r.other_in) in
            absurd z
        longer (suc (suc m)) e = omega arith

        shorter : Dec (frame_count t ≤ n) → n < frame_count t
        shorter (no h) = omega arith
        shorter (yes h) =
            let (d, e) = le_dest h in
            let x : work t s (frame_count t + d) < work t k (frame_count t + d) = rw e r.sum_exceeds in
            let y : work t k d ≤ work t s d = r.shortest d k (omega (arith, has_frame)) r.other_in in
            let z : ⊥ = omega (arith, behind_round s d, behind_round k d) in
            absurd z

  -- the largest frame is one, the length is one, the other frame is one
  module _ {s n k u m j : ℕ} (r : IsReason t s n k) (q : IsReason t u m j) where
    not_after : u ≤ s
    not_after = let x : ¬ (s < u) = λ l. omega (arith, q.lowest_largest s l, r.largest u q.frame_in) in omega arith

  same_frame : {s n k u m j : ℕ} → IsReason t s n k → IsReason t u m j → s ≡ u
  same_frame r q = le_antisymm (not_after q r) (not_after r q)

  module _ {s n k m j : ℕ} (r : IsReason t s n k) (q : IsReason t s m j) where
    not_longer : n ≤ m
    not_longer = let x : ¬ (m < n) = λ l. omega (arith, r.shortest m j l q.other_in, q.sum_exceeds) in omega arith

  same_length : {s n k m j : ℕ} → IsReason t s n k → IsReason t s m j → n ≡ m
  same_length r q = le_antisymm (not_longer r q) (not_longer q r)

  module _ {s n k j : ℕ} (r : IsReason t s n k) (q : IsReason t s n j) where
    not_higher : k ≤ j
    not_higher = let x : ¬ (j < k) = λ l. omega (arith, r.lowest_other j l, q.sum_exceeds) in omega arith

  same_other : {s n k j : ℕ} → IsReason t s n k → IsReason t s n j → k ≡ j
  same_other r q = le_antisymm (not_higher r q) (not_higher q r)

  -- Two reasons are the same.
  pub one_reason : {s n k u m j : ℕ} → IsReason t s n k → IsReason t u m j → (s ≡ u) × (n ≡ m) × (k ≡ j)
  one_reason r q =
      let e = same_frame r q in
      let q' = rw (← e) at q in
      let e' = same_length r q' in
      let q'' = rw (← e') at q' in
      (e, e', same_other r q'')

  -- ---- no number of it is above the number of frames, whatever the task

  pub reason_within : (largest_frame t ≤ frame_count t) × (exceeded_length t ≤ frame_count t) × (exceeding_frame t ≤ frame_count t)
  unfolding largest_frame exceeded_length exceeded exceeding_frame exceeding
  reason_within = (
    found_within 0 (frame_count t) (λ k. eqb (frame t k) (largest t.frames)) (lit≤ tt),
    found_within 1 (frame_count t) (exceeded_at (largest_frame t)) (lit≤ tt),
    found_within 0 (frame_count t) (exceeds t (largest_frame t) (exceeded_length t)) (lit≤ tt),
  )
    where
      found_within : (a n : ℕ) (test : ℕ → Bool) → a ≤ 1 → unwrap_or (first a n test) 0 ≤ n
      found_within a n test few = go (answer (first a n test))
        where
          go : Answer (first a n test) → unwrap_or (first a n test) 0 ≤ n
          go (nothing e) = rw e (omega arith)
          go (it_is j e) = rw e (omega (arith, (first_some a n test e).before))
