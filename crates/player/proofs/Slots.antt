-- One slot: what it tells of its task's jobs, and that it still shows them after a release and after a tick.
use mathlib.Core.List.{List, [], ◌∷◌, ◌++◌}
use mathlib.Core.Path.{◌≡◌, refl, sym, ap, ◌∙◌}
use Prim.Native.Nat.{ℕ, zero, suc, pred, ◌+◌, ◌≤◌}
use native.Mathlib.Omega.{arith}
use borrow.Author.Tests.{lt-ltb, le-ltb}
use Rattle.theory.specs.Tasks.{Task, deadline_of}
use Rattle.theory.specs.Runs.{Job, job, oldest_left, serve}
use Rattle.theory.proofs.Lanes.{total, oldest_none, total_append}
use Rattle.plays.specs.Script.{Script}
use Rattle.plays.specs.ScriptRun.{pending_lock}
use Rattle.plays.specs.Play.{misses_now}
use Rattle.plays.proofs.OnePending.{nothing_oldest, nothing_misses, one_left_oldest, one_left_lock, one_left_misses, one_left_served}
use Rattle.player.specs.State.{late}
use Rattle.player.specs.Shows.{SlotShows, rests, works, locks_of}
use Rattle.player.specs.declared.state.Job.{Job as Slot}

module _ {locks : ℕ → ℕ} {task : Task} {jobs : List Job} {slot : Slot} where
  -- the work left of the task's oldest job that is not complete
  pub slot_left : SlotShows locks task jobs slot → oldest_left jobs ≡ slot.left
  slot_left (rests e z) = e ∙ sym z
  slot_left (works older r k w e same l d q) = rw (same, l) (one_left_oldest older r k w (oldest_none older e))

  -- it is late exactly if a job misses
  pub slot_late : (t : ℕ) → SlotShows locks task jobs slot → misses_now task t jobs ≡ late slot t
  slot_late t (rests e z) = nothing_misses jobs (oldest_none jobs e) task t ∙ sym (rw (le-ltb 0 slot.left (omega arith)))
  slot_late t (works older r k w e same l d q) =
      ap (misses_now task t) same
      ∙ one_left_misses older r k w (oldest_none older e) task t
      ∙ sym (rw (lt-ltb 0 slot.left (omega arith), d))

  -- a job that has the tick
  pub slot_served : 1 ≤ slot.left → SlotShows locks task jobs slot → SlotShows locks task (serve jobs) (record { left = pred slot.left; due = slot.due; lock = slot.lock })
  slot_served h (rests e z) = absurd (omega arith)
  slot_served h (works older r k zero e same l d q) =
      rests (rw (same, one_left_served older r k 0 (oldest_none older e)) (nothing_oldest _ (omega (arith, total_append older r k 0, oldest_none older e)))) (omega arith)
  slot_served h (works older r k (suc w) e same l d q) =
      works older r k w e (rw (same) (one_left_served older r k (suc w) (oldest_none older e))) (omega arith) d q

-- the lock of the task's oldest job that is not complete
pub slot_lock : (sc : Script) (i : ℕ) {task : Task} {jobs : List Job} {slot : Slot} → SlotShows (locks_of sc i) task jobs slot → 1 ≤ slot.left → pending_lock sc i jobs ≡ slot.lock
slot_lock sc i (rests e z) h = absurd (omega arith)
slot_lock sc i (works older r k w e same l d q) h = rw (same, q) (one_left_lock older r k w (oldest_none older e) sc i)

-- a job released where nothing is pending
pub slot_released : {locks : ℕ → ℕ} {task : Task} (jobs : List Job) (r k w lock : ℕ) → total jobs ≡ 0 → lock ≡ locks r
    → SlotShows locks task (jobs ++ (job r k w ∷ [])) (record { left = w; due = r + deadline_of task k; lock = lock })
slot_released jobs r k zero lock e q = rests (nothing_oldest _ (omega (arith, total_append jobs r k 0))) refl
slot_released jobs r k (suc w) lock e q = works jobs r k w (nothing_oldest jobs e) refl refl refl q
