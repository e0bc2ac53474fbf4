-- Where each time stands: the eight slots of task i begin at slot 8i.
use Rattle.std.specs.Prelude.{unwrap_or}
use mathlib.Core.Bool.{Bool, true, false}
use mathlib.Core.List.{List, ◌++◌}
use mathlib.Core.Path.{◌≡◌, refl, sym, ap, ◌∙◌}
use Prim.Native.Nat.{ℕ, zero, suc, ◌+◌, ◌-◌, ◌*◌, ◌≤◌, ◌<◌}
use native.Mathlib.Nat.{add-zero, add-suc, suc-add, zero-add}
use native.Mathlib.Omega.{arith}
use lib.ListN.{length, get_or, replicate, length-append, length-replicate, get_or-replicate, get_or-append}
use lib.Seq.{get_or-append-add}
use Rattle.theory.specs.Tasks.{Task, task_at, frame_count}
use Rattle.theory.specs.Analysis.{response_of, passes}
use Rattle.analysis.specs.Times.{place_of, times_from, slots_by, slots_found, written_slots, slots_of, slots_from}

eight : (b : Bool) (l : List ℕ) → length l ≤ 8 → length (written_slots (slots_by b l)) ≡ 8
unfolding slots_by
eight true l h = simp (length-append, length-replicate) (omega arith)
eight false l h = refl

module _ (set : List Task) (p : ℕ) where
  pub length_times : (k n : ℕ) → length (times_from set p k n) ≡ n
  unfolding times_from
  length_times k zero = refl
  length_times k (suc n) = ap suc (length_times (suc k) n)

  pub time_in : (k n j : ℕ) → j < n → get_or (times_from set p k n) j 0 ≡ unwrap_or (response_of set p (k + j)) 0
  unfolding times_from
  time_in k zero j h = let z : ⊥ = omega arith in absurd z
  time_in k (suc n) zero h = rw (add-zero k)
  time_in k (suc n) (suc j) h = time_in (suc k) n j (omega arith) ∙ ap (λ (m : ℕ). unwrap_or (response_of set p m) 0) (suc-add k j ∙ sym (add-suc k j))

  pub length_slots : frame_count (task_at set p) ≤ 8 → length (slots_of set p) ≡ 8
  unfolding slots_of slots_found
  length_slots h = eight (passes set p) (times_from set p 0 (frame_count (task_at set p))) (rw (length_times 0 (frame_count (task_at set p))) h)

  -- a task that passes
  pub time_of_passing : passes set p ≡ true → (k : ℕ) → k < frame_count (task_at set p) → get_or (slots_of set p) k 0 ≡ unwrap_or (response_of set p k) 0
  unfolding slots_of slots_found slots_by
  time_of_passing e k h =
      rw e (get_or-append (times_from set p 0 (frame_count (task_at set p))) _ 0 k (rw (length_times 0 (frame_count (task_at set p))) h)
      ∙ time_in 0 (frame_count (task_at set p)) k h ∙ ap (λ (m : ℕ). unwrap_or (response_of set p m) 0) (zero-add k))

  -- behind its frames
  pub time_behind : passes set p ≡ true → (k : ℕ) → frame_count (task_at set p) ≤ k → k < 8 → get_or (slots_of set p) k 0 ≡ 0
  unfolding slots_of slots_found slots_by
  time_behind e k h l =
      let times : List ℕ = times_from set p 0 (frame_count (task_at set p)) in
      let long : length times ≡ frame_count (task_at set p) = length_times 0 (frame_count (task_at set p)) in
      let at : length times + (k - length times) ≡ k = omega arith in
      rw e (ap (λ (m : ℕ). get_or (times ++ replicate (8 - length times) 0) m 0) (sym at)
      ∙ get_or-append-add times (replicate (8 - length times) 0) (k - length times) 0
      ∙ get_or-replicate (8 - length times) (k - length times) 0 0 (omega arith))

  -- one that does not
  pub time_of_missed : passes set p ≡ false → (k : ℕ) → k < 8 → get_or (slots_of set p) k 0 ≡ 0
  unfolding slots_of slots_found slots_by
  time_of_missed e k h = rw e (get_or-replicate 8 k 0 0 h)

module _ (order : List ℕ) (set : List Task) (small : (p : ℕ) → frame_count (task_at set p) ≤ 8) where
  pub length_all : (i n : ℕ) → length (slots_from order set i n) ≡ 8 * n
  unfolding slots_from
  length_all i zero = refl
  length_all i (suc n) =
      rw (length-append (slots_of set (place_of order i)) (slots_from order set (suc i) n), length_slots set (place_of order i) (small (place_of order i)), length_all (suc i) n)
      (omega arith)

  -- slot k of the eight of the task j behind the first
  pub time_at : (i n j k : ℕ) → j < n → k < 8
      → get_or (slots_from order set i n) (8 * j + k) 0 ≡ get_or (slots_of set (place_of order (i + j))) k 0
  unfolding slots_from
  time_at i zero j k hj hk = let z : ⊥ = omega arith in absurd z
  time_at i (suc n) zero k hj hk =
      rw (add-zero i, zero-add k) (get_or-append (slots_of set (place_of order i)) _ 0 k (rw (length_slots set (place_of order i) (small _)) hk))
  time_at i (suc n) (suc j) k hj hk =
      ap (λ (m : ℕ). get_or (slots_of set (place_of order i) ++ slots_from order set (suc i) n) m 0) behind
      ∙ get_or-append-add (slots_of set (place_of order i)) (slots_from order set (suc i) n) (8 * j + k) 0
      ∙ time_at (suc i) n j k (omega arith) hk
      ∙ ap (λ (m : ℕ). get_or (slots_of set (place_of order m)) k 0) (suc-add i j ∙ sym (add-suc i j))
    where
      behind : 8 * suc j + k ≡ length (slots_of set (place_of order i)) + (8 * j + k)
      behind = rw (length_slots set (place_of order i) (small (place_of order i))) (omega arith)
