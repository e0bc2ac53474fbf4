-- The work of a job.
use mathlib.Core.Bool.{Bool, cond}
use mathlib.Core.Path.{◌≡◌, sym, ap}
use Prim.Native.Nat.{ℕ, ◌%◌, ◌≤◌}
use native.Mathlib.Decide.{ℕ_discrete}
use native.Mathlib.Nat.{mod-mod}
use native.Mathlib.Omega.{arith}
use borrow.Author.Tests.{eq-eqb, ne_eqb}
use Rattle.theory.specs.Tasks.{Task, frame_count, frame}
use Rattle.worst.specs.Inside.Plans.{work_with}

-- without a lock, and with one
pub work_free : (t : Task) (k lock : ℕ) → lock ≡ 0 → frame t k ≡ work_with t k lock
unfolding work_with
work_free t k lock e = sym (ap (λ (b : Bool). cond b (frame t k) lock) (eq-eqb lock 0 e))

-- with a lock the work is the lock
pub work_locked : (t : Task) (k lock : ℕ) → (lock ≡ 0 → ⊥) → lock ≡ work_with t k lock
unfolding work_with
work_locked t k lock ne = sym (ap (λ (b : Bool). cond b (frame t k) lock) (ne_eqb lock 0 ne))

-- it is small
pub work_small : (t : Task) (k lock most : ℕ) → frame t k ≤ most → lock ≤ most → work_with t k lock ≤ most
work_small t k lock most h l = go (ℕ_discrete lock 0)
  where
    go : Dec (lock ≡ 0) → work_with t k lock ≤ most
    go (yes e) = rw (← work_free t k lock e) h
    go (no n) = let e = work_locked t k lock n in omega arith

-- the work of a job is that of its frame, going round
pub work_round : (t : Task) (k lock : ℕ) → work_with t (k % frame_count t) lock ≡ work_with t k lock
unfolding work_with frame
work_round t k lock = rw (mod-mod k (frame_count t))
