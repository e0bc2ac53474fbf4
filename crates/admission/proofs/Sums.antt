-- The sums of frames that the code runs: n frames from frame s, going round.
use mathlib.Core.Bool.{Bool, true, false}
use mathlib.Core.List.{List}
use mathlib.Core.Path.{◌≡◌, refl, sym, ◌∙◌}
use Prim.Native.Nat.{ℕ, suc, ◌+◌, ◌*◌, ◌-◌, ◌%◌, ◌^◌, ◌≤◌, ◌<◌}
use native.Mathlib.Nat.{add-zero, add_assoc, mod-eq_of_lt, mod-lt, mod-add-mod}
use native.Mathlib.Numerals.{add-one}
use native.Mathlib.Omega.{arith}
use borrow.Author.Tests.{le-leb, lt-leb}
use lib.Dec.{leb}
use lib.ListN.{length, get_or}
use Rattle.theory.specs.First.{every}
use Rattle.theory.specs.Tasks.{frame_count, frame, work}
use Rattle.theory.proofs.Work.{work_zero, work_suc, frame_mod}
use Rattle.sheet.specs.Tasks.{next_round}
use Rattle.sheet.proofs.Rounds.{round_is}
use Rattle.admission.specs.Inside.Frames.{of_frames, from_at_least}
use Rattle.admission.proofs.Rows.{every_passes, every_fails, every_ends}

module _ (frames : List ℕ) where
  pub count_is : frame_count (of_frames frames) ≡ length frames
  unfolding frame_count of_frames
  count_is = refl

  pub frame_is : (i : ℕ) → i < length frames → frame (of_frames frames) i ≡ get_or frames i 0
  unfolding frame frame_count of_frames
  frame_is i h = rw (mod-eq_of_lt h) refl

-- after n frames from frame s the sum is the work of n jobs, and i is the frame that follows
pub record Summed (frames : List ℕ) (s n sum i : ℕ) : Type 0 where
  pub is_work : sum ≡ work (of_frames frames) s n
  pub position : i ≡ (s + n) % length frames
  pub inside : i < length frames
  pub small : sum ≤ 4294967295 * n

pub summed_none : (frames : List ℕ) (s : ℕ) → s < length frames → Summed frames s 0 0 s
summed_none frames s h =
    record { is_work = sym (work_zero _ s); position = rw (add-zero s, mod-eq_of_lt h); inside = h; small = omega arith }

module _ (frames : List ℕ) (s n sum i v : ℕ) (was : Summed frames s n sum i) (read : v ≡ get_or frames i 0) where
  pub sum_more : sum + v ≡ work (of_frames frames) s (n + 1)
  sum_more =
      rw (add-one n, work_suc (of_frames frames) s n, ← was.is_work, ← frame_mod (of_frames frames) (s + n), count_is frames, ← was.position, frame_is frames i was.inside, ← read)

  pub summed_more : (j : ℕ) → v < 2 ^ 32 → j ≡ next_round i (length frames) → Summed frames s (n + 1) (sum + v) j
  summed_more j small e =
      record {
        is_work = sum_more;
        position = e ∙ round_is i (length frames) was.inside ∙ rw (← add-one i, was.position, mod-add-mod (s + n) (length frames) 1, add_assoc s n 1);
        inside = rw (e, round_is i (length frames) was.inside) (mod-lt (suc i) (omega (arith, was.inside)));
        small = omega (arith, was.small);
      }

back : (n : ℕ) → n + 1 - 1 ≡ n
back n = omega arith

-- which lengths are left to compare, from n + 1 on
pub left_to : List ℕ → ℕ → ℕ → ℕ → Bool
left_to frames s k n = every (n + 1) (length frames + 1 - (n + 1)) (λ m. leb (work (of_frames frames) k m) (work (of_frames frames) s m))

module _ (frames : List ℕ) (s k : ℕ) where
  pub left_all : left_to frames s k 0 ≡ from_at_least (of_frames frames) s k
  unfolding left_to from_at_least
  left_all = rw (count_is frames, left_to, back (length frames))

  module _ (n sum_s sum_k : ℕ) (h : n < length frames) (e : sum_s ≡ work (of_frames frames) s (n + 1)) (e' : sum_k ≡ work (of_frames frames) k (n + 1)) where
    pub left_passes : sum_k ≤ sum_s → left_to frames s k (n + 1) ≡ left_to frames s k n
    unfolding left_to
    left_passes l = sym (every_passes _ (n + 1) (length frames + 1) (omega arith) (rw (← e, ← e') (le-leb sum_k sum_s l)))

    pub left_fails : sum_s < sum_k → left_to frames s k n ≡ false
    unfolding left_to
    left_fails l = every_fails _ (n + 1) (length frames + 1) (omega arith) (rw (← e, ← e') (lt-leb sum_k sum_s l))

  pub left_ends : (n : ℕ) → length frames ≤ n → left_to frames s k n ≡ true
  unfolding left_to
  left_ends n h = every_ends _ (n + 1) (length frames + 1) (omega arith)
