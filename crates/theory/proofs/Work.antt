-- Laws of frames and of the work of n jobs: one job more, whole rounds, monotone; the largest frame; the start frame, for every number of jobs.
use Rattle.std.specs.Prelude.{Some}
use mathlib.Core.Bool.{Bool, true}
use mathlib.Core.List.{List, [], ◌∷◌}
use mathlib.Core.Logic.{◌↔◌}
use mathlib.Core.Path.{◌≡◌, refl, sym, ◌∙◌, ap}
use Prim.Native.Nat.{ℕ, zero, suc, ◌+◌, ◌*◌, ◌%◌, ◌≤◌, ◌<◌}
use native.Mathlib.Decide.{dec_le}
use native.Mathlib.Nat.{add-zero, add-suc, add_assoc, add_comm, zero-mul, suc-mul, le_refl, le_trans, le_antisymm, mod-mod, suc-mod, mod-lt, mod-add-mod, add-mod_right, mod-eq_of_lt, div-add-mod', le-max_left, le-max_right, max-eq_left, max-eq_right, max-zero, min-le_left, min-le_right, min-eq_left, min-eq_right, zero-add, le_dest, le-add_right, add-le-add, add_left_cancel}
use native.Mathlib.Numerals.{add-one, one-add}
use native.Mathlib.Omega.{arith}
use borrow.Author.Tests.{leb-true, le-leb, eqb-true, eqb-false, eq-eqb}
use lib.Arith.{lt_of_le-ne}
use lib.Dec.{leb, eqb}
use lib.ListN.{length, get_or}
use Rattle.theory.specs.First.{first, every, found}
use Rattle.theory.specs.Tasks.{Task, frame_count, next_frame, frame, deadline_of, smallest, shortest_deadline, work, largest, largest_frame, Qualifies, qualifies, start_frame, WellFormed, Monotonic}
use Rattle.theory.proofs.Search.{found_some, some_found, IsFirst, first_some, first_exists, every_at, every_is}

module _ (t : Task) where
  -- ---- frames, going round

  pub frame_mod : (k : ℕ) → frame t (k % frame_count t) ≡ frame t k
  unfolding frame
  frame_mod k = rw mod-mod

  pub frame_round : (k : ℕ) → frame t (k + frame_count t) ≡ frame t k
  unfolding frame
  frame_round k = rw add-mod_right

  pub deadline_mod : (k : ℕ) → deadline_of t (k % frame_count t) ≡ deadline_of t k
  unfolding deadline_of
  deadline_mod k = rw mod-mod

  -- a frame below the count is the one at that place of the list, and so is its deadline
  pub frame_at : (k : ℕ) → k < frame_count t → frame t k ≡ get_or t.frames k 0
  unfolding frame
  frame_at k h = rw (mod-eq_of_lt h)

  pub deadline_at : (k : ℕ) → k < frame_count t → deadline_of t k ≡ get_or t.deadlines k 0
  unfolding deadline_of
  deadline_at k h = rw (mod-eq_of_lt h)

  pub next_frame_lt : (k : ℕ) → 1 ≤ frame_count t → next_frame t k < frame_count t
  unfolding next_frame
  next_frame_lt k h = mod-lt (suc k) h

  -- the frame that follows the n-th after frame k
  pub next_frame_after : (k n : ℕ) {f : ℕ} → f ≡ (k + n) % frame_count t → next_frame t f ≡ (k + suc n) % frame_count t
  unfolding next_frame
  next_frame_after k n e = ap (λ x. suc x % frame_count t) e ∙ sym (suc-mod (k + n) (frame_count t)) ∙ ap (λ x. x % frame_count t) (sym (add-suc k n))

  -- ---- the work of n jobs

  pub work_zero : (k : ℕ) → work t k 0 ≡ 0
  unfolding work
  work_zero k = refl

  -- one job more
  pub work_suc : (k n : ℕ) → work t k (suc n) ≡ work t k n + frame t (k + n)
  unfolding work
  work_suc k n = refl

  pub work_one : (k : ℕ) → work t k 1 ≡ frame t k
  work_one k = rw (work_suc k 0, work_zero, add-zero k) (zero-add (frame t k))

  pub work_add : (k a b : ℕ) → work t k (a + b) ≡ work t k a + work t (k + a) b
  work_add k a zero = rw (add-zero a, work_zero (k + a)) (sym (add-zero _))
  work_add k a (suc b) =
      let ih : work t k (a + b) ≡ work t k a + work t (k + a) b = work_add k a b in
      rw (add-suc a b, work_suc k (a + b), work_suc (k + a) b, add_assoc k a b) (omega arith)

  pub work_mono : (k : ℕ) {a b : ℕ} → a ≤ b → work t k a ≤ work t k b
  work_mono k {a} h = let (c, e) = le_dest h in rw (← e, work_add k a c) (le-add_right _ _)

  -- frame numbers are taken going round
  pub work_mod : (k n : ℕ) → work t (k % frame_count t) n ≡ work t k n
  work_mod k zero = rw (work_zero (k % frame_count t), work_zero k)
  work_mod k (suc n) = rw (work_suc (k % frame_count t) n, work_suc k n, work_mod k n, ← frame_mod (k % frame_count t + n), mod-add-mod, frame_mod (k + n))

  pub work_round : (k n : ℕ) → work t (k + frame_count t) n ≡ work t k n
  work_round k n = rw (← work_mod (k + frame_count t) n, add-mod_right, work_mod k n)

  -- a whole round is the same from every frame
  pub whole_round : (k : ℕ) → work t k (frame_count t) ≡ work t 0 (frame_count t)
  whole_round zero = refl
  whole_round (suc k) = add_left_cancel (frame t k) (sym from_k ∙ ap (λ x. x + frame t k) (whole_round k) ∙ add_comm _ _)
    where
      from_k : work t k (frame_count t) + frame t k ≡ frame t k + work t (suc k) (frame_count t)
      from_k =
          ap (λ x. work t k (frame_count t) + x) (sym (frame_round k))
          ∙ sym (work_suc k (frame_count t))
          ∙ ap (work t k) (sym (one-add (frame_count t)))
          ∙ work_add k 1 (frame_count t)
          ∙ rw (work_one k, add-one k)

  -- whole rounds times the round's sum, plus the frames that remain
  pub whole_rounds : (k q r : ℕ) → work t k (q * frame_count t + r) ≡ q * work t 0 (frame_count t) + work t k r
  whole_rounds k zero r = rw (zero-mul (frame_count t), zero-mul (work t 0 (frame_count t)), zero-add r) (sym (zero-add _))
  whole_rounds k (suc q) r =
      let e : suc q * frame_count t + r ≡ frame_count t + (q * frame_count t + r) = omega arith in
      rw (e, work_add k (frame_count t) (q * frame_count t + r), work_round k, whole_round k, whole_rounds k q r) (omega arith)

  -- ---- the start frame

  -- what qualifies for the lengths of one round qualifies for every number of jobs, from every frame
  pub qualifies_always : (s : ℕ) → Qualifies t s → 1 ≤ frame_count t → (k n : ℕ) → work t k n ≤ work t s n
  unfolding Qualifies
  qualifies_always s h some_frame k n =
      rw (← div-add-mod' n (frame_count t), whole_rounds k, whole_rounds s, ← work_mod k (n % frame_count t)) (add-le-add (le_refl _) (rest (n % frame_count t) (mod-lt n some_frame)))
    where
      rest : (r : ℕ) → r < frame_count t → work t (k % frame_count t) r ≤ work t s r
      rest zero l = rw (work_zero (k % frame_count t), work_zero s) (le_refl 0)
      rest (suc r) l = h (suc r) (k % frame_count t) (omega arith) (omega arith) (mod-lt k some_frame)

  pub qualifies_test : (s : ℕ) → (qualifies t s ≡ true) ↔ Qualifies t s
  unfolding qualifies Qualifies
  qualifies_test s = (
    λ e n k l u v.
        leb-true _ _ (every_at 0 (frame_count t) _ (every_at 1 (frame_count t) (λ n. every 0 (frame_count t) (λ k. leb (work t k n) (work t s n))) e n l (omega arith)) k (omega arith) (omega arith)),
    λ h. every_is 1 (frame_count t) _ (λ n l u. every_is 0 (frame_count t) _ (λ k l' u'. le-leb _ _ (h n k l (omega arith) (omega arith)))),
  )

  -- the start frame of an accumulatively monotonic task: a frame that qualifies, and the lowest-numbered
  pub record IsStart (s : ℕ) : Type 0 where
    pub start_in : s < frame_count t
    pub start_qualifies : Qualifies t s
    pub lowest : (u : ℕ) → Qualifies t u → s ≤ u

  pub start_is : Monotonic t → IsStart (start_frame t)
  unfolding start_frame
  start_is m =
      let (j, e, l) = found_below m.start m.start_in m.start_qualifies in
      let f : IsFirst 0 (frame_count t) (qualifies t) j = first_some 0 (frame_count t) (qualifies t) e in
      rw e
      (record {
        start_in = omega arith;
        start_qualifies = (qualifies_test j).0 f.passes;
        lowest = λ u q. not_above j e u q (dec_le (suc u) (frame_count t)) (omega arith);
      })
    where
      found_below : (u : ℕ) → u < frame_count t → Qualifies t u → (j : ℕ) × (first 0 (frame_count t) (qualifies t) ≡ Some j) × (j ≤ u)
      found_below u l q = first_exists 0 (frame_count t) (qualifies t) u (omega arith) (omega arith) ((qualifies_test u).1 q)

      not_above : (j : ℕ) → first 0 (frame_count t) (qualifies t) ≡ Some j → (u : ℕ) → Qualifies t u → Dec (u < frame_count t) → j < frame_count t → j ≤ u
      not_above j e u q (no h) l = omega arith
      not_above j e u q (yes h) l = let (i, e', l') = found_below u h q in let same : j ≡ i = cc in omega arith

  start_unique : {s u : ℕ} → IsStart s → IsStart u → s ≡ u
  start_unique i j = le_antisymm (i.lowest _ j.start_qualifies) (j.lowest _ i.start_qualifies)

  pub start_when : {s : ℕ} → IsStart s → start_frame t ≡ s
  start_when i = start_unique (start_is (record { start = _; start_in = i.start_in; start_qualifies = i.start_qualifies })) i

  -- accumulatively monotonic exactly if some frame qualifies
  pub monotonic_test : (found (first 0 (frame_count t) (qualifies t)) ≡ true) ↔ Monotonic t
  monotonic_test = (there, back)
    where
      there : found (first 0 (frame_count t) (qualifies t)) ≡ true → Monotonic t
      there e =
          let (s, q) = found_some e in
          let f : IsFirst 0 (frame_count t) (qualifies t) s = first_some 0 (frame_count t) (qualifies t) q in
          record { start = s; start_in = omega (arith, f.before); start_qualifies = (qualifies_test s).0 f.passes }

      back : Monotonic t → found (first 0 (frame_count t) (qualifies t)) ≡ true
      back m =
          let (j, e, l) = first_exists 0 (frame_count t) (qualifies t) m.start (omega arith) (omega (arith, m.start_in)) ((qualifies_test m.start).1 m.start_qualifies) in
          some_found e

  -- the work from any frame is at most that from the start frame
  pub start_most : Monotonic t → (k n : ℕ) → work t k n ≤ work t (start_frame t) n
  start_most m = let s : IsStart (start_frame t) = start_is m in qualifies_always (start_frame t) s.start_qualifies (omega arith)

-- ---- the largest frame

pub largest_le : (cs : List ℕ) (i : ℕ) → get_or cs i 0 ≤ largest cs
unfolding largest
largest_le [] i = le_refl 0
largest_le (c ∷ cs) zero = le-max_left c (largest cs)
largest_le (c ∷ cs) (suc i) = le_trans (largest_le cs i) (le-max_right c (largest cs))

pub largest_stands : (cs : List ℕ) → 1 ≤ length cs → (i : ℕ) × (i < length cs) × (get_or cs i 0 ≡ largest cs)
unfolding largest
largest_stands [] h = let z : ⊥ = omega arith in absurd z
largest_stands (c ∷ []) h = (0, omega arith, sym (max-zero c))
largest_stands (c ∷ d ∷ cs) h = go (largest_stands (d ∷ cs) (omega arith)) (dec_le c (largest (d ∷ cs)))
  where
    go : (i : ℕ) × (i < length (d ∷ cs)) × (get_or (d ∷ cs) i 0 ≡ largest (d ∷ cs)) → Dec (c ≤ largest (d ∷ cs))
        → (i : ℕ) × (i < length (c ∷ d ∷ cs)) × (get_or (c ∷ d ∷ cs) i 0 ≡ largest (c ∷ d ∷ cs))
    go (i, l, e) (yes h) = (suc i, omega arith, e ∙ sym (max-eq_right h))
    go (i, l, e) (no h) = (0, omega arith, sym (max-eq_left (omega arith)))

module _ (t : Task) where
  pub frame_le_largest : (k : ℕ) → frame t k ≤ largest t.frames
  unfolding frame
  frame_le_largest k = largest_le t.frames (k % frame_count t)

  -- the lowest-numbered largest frame is a frame, and has the largest time
  pub record IsLargest (k : ℕ) : Type 0 where
    pub largest_in : k < frame_count t
    pub largest_time : frame t k ≡ largest t.frames
    pub lowest : (u : ℕ) → u < k → frame t u < largest t.frames

  largest_somewhere : 1 ≤ frame_count t → (k : ℕ) × (k < frame_count t) × (frame t k ≡ largest t.frames)
  unfolding frame frame_count
  largest_somewhere h = let (i, l, e) = largest_stands t.frames h in (i, l, rw (mod-eq_of_lt l) e)

  pub largest_is : 1 ≤ frame_count t → IsLargest (largest_frame t)
  unfolding largest_frame
  largest_is h =
      let (i, l, q) = largest_somewhere h in
      let (j, e, m) = first_exists 0 (frame_count t) is_it i (omega arith) (omega arith) (eq-eqb _ _ q) in
      let f : IsFirst 0 (frame_count t) is_it j = first_some 0 (frame_count t) is_it e in
      rw e (record { largest_in = omega arith; largest_time = eqb-true _ _ f.passes; lowest = λ u v. less u (eqb-false _ _ (f.earlier u (omega arith) v)) })
    where
      is_it : ℕ → Bool
      is_it k = eqb (frame t k) (largest t.frames)

      less : (u : ℕ) → (frame t u ≡ largest t.frames → ⊥) → frame t u < largest t.frames
      less u ne = lt_of_le-ne (frame_le_largest u) ne

  largest_not_less : {k u : ℕ} → IsLargest k → IsLargest u → k ≤ u
  largest_not_less {k} {u} i j = let not_later : ¬ (u < k) = λ l. omega (arith, i.lowest u l, j.largest_time) in omega arith

  pub largest_when : {k : ℕ} → IsLargest k → largest_frame t ≡ k
  largest_when i = let f : IsLargest (largest_frame t) = largest_is (omega (arith, i.largest_in)) in le_antisymm (largest_not_less f i) (largest_not_less i f)

  -- every frame's time is at most that of the largest frame
  pub frame_le_largest_frame : 1 ≤ frame_count t → (k : ℕ) → frame t k ≤ frame t (largest_frame t)
  frame_le_largest_frame h k = rw (largest_is h).largest_time (frame_le_largest k)

-- ---- frames within the period

-- a frame of a well-formed task lies within its period
pub frame_in_period : (t : Task) → WellFormed t → (k : ℕ) → frame t k ≤ t.period
frame_in_period t w k =
    let there : k % frame_count t < frame_count t = mod-lt k w.has_frame in
    rw (← frame_mod t k) (le_trans (w.frame_in_deadline (k % frame_count t) there) (w.deadline_in_period (k % frame_count t) there))

-- which is at least one tick long
pub period_positive : {t : Task} → WellFormed t → 1 ≤ t.period
period_positive {t} w = omega (arith, w.frame_positive 0 w.has_frame, frame_in_period t w 0)

-- and so is a frame's deadline
pub deadline_positive : {t : Task} → WellFormed t → (k : ℕ) → k < frame_count t → 1 ≤ deadline_of t k
deadline_positive w k h = omega (arith, w.frame_positive k h, w.frame_in_deadline k h)

-- n jobs of frames within a period fit into n periods
pub work_in_periods : (t : Task) {T : ℕ} → ((k : ℕ) → frame t k ≤ T) → (s n : ℕ) → work t s n ≤ n * T
work_in_periods t {T} within s zero = rw (work_zero t s, zero-mul T) (le_refl 0)
work_in_periods t {T} within s (suc n) = rw (work_suc t s n, suc-mul n T) (add-le-add (work_in_periods t within s n) (within (s + n)))

-- ---- the shortest deadline

pub smallest_le : (ds : List ℕ) (i : ℕ) → i < length ds → smallest ds ≤ get_or ds i 0
unfolding smallest
smallest_le [] i h = let z : ⊥ = omega arith in absurd z
smallest_le (d ∷ []) zero h = le_refl d
smallest_le (d ∷ []) (suc i) h = let z : ⊥ = omega arith in absurd z
smallest_le (d ∷ e ∷ ds) zero h = min-le_left d (smallest (e ∷ ds))
smallest_le (d ∷ e ∷ ds) (suc i) h = le_trans (min-le_right d (smallest (e ∷ ds))) (smallest_le (e ∷ ds) i (omega arith))

pub smallest_stands : (ds : List ℕ) → 1 ≤ length ds → (i : ℕ) × (i < length ds) × (get_or ds i 0 ≡ smallest ds)
unfolding smallest
smallest_stands [] h = let z : ⊥ = omega arith in absurd z
smallest_stands (d ∷ []) h = (0, omega arith, refl)
smallest_stands (d ∷ e ∷ ds) h = go (smallest_stands (e ∷ ds) (omega arith)) (dec_le d (smallest (e ∷ ds)))
  where
    go : (i : ℕ) × (i < length (e ∷ ds)) × (get_or (e ∷ ds) i 0 ≡ smallest (e ∷ ds)) → Dec (d ≤ smallest (e ∷ ds))
        → (i : ℕ) × (i < length (d ∷ e ∷ ds)) × (get_or (d ∷ e ∷ ds) i 0 ≡ smallest (d ∷ e ∷ ds))
    go (i, l, q) (yes h) = (0, omega arith, sym (min-eq_left h))
    go (i, l, q) (no h) = (suc i, omega arith, q ∙ sym (min-eq_right (omega arith)))

pub record IsShortest (t : Task) (d : ℕ) : Type 0 where
  pub no_longer : (k : ℕ) → k < frame_count t → d ≤ deadline_of t k
  pub of_a_frame : (k : ℕ) × (k < frame_count t) × (deadline_of t k ≡ d)

-- it is some frame's deadline, and no frame has a shorter one
pub shortest_is : (t : Task) → WellFormed t → IsShortest t (shortest_deadline t)
unfolding shortest_deadline
shortest_is t w =
    let (i, l, e) = smallest_stands t.deadlines (omega (arith, w.has_frame, w.each_deadline)) in
    record {
      no_longer = λ k h. rw (deadline_at t k h) (smallest_le t.deadlines k (omega (arith, w.each_deadline)));
      of_a_frame = (i, omega (arith, w.each_deadline), deadline_at t i (omega (arith, w.each_deadline)) ∙ e);
    }

-- ---- more in each frame is more work

pub work_frames : (t u : Task) → ((k : ℕ) → frame t k ≤ frame u k) → (k n : ℕ) → work t k n ≤ work u k n
work_frames t u h k zero = rw (work_zero t k, work_zero u k) (le_refl 0)
work_frames t u h k (suc n) = rw (work_suc t k n, work_suc u k n) (add-le-add (work_frames t u h k n) (h (k + n)))
