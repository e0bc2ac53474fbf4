-- The length of a stretch, case by case, and what a tick shows.
use Rattle.std.specs.Prelude.{None, Some}
use mathlib.Core.Path.{◌≡◌, refl, sym, ap, ◌∙◌}
use Prim.Native.Nat.{ℕ, zero, suc, ◌+◌, ◌-◌, ◌*◌, ◌≤◌, ◌<◌}
use native.Mathlib.Nat.{add-zero}
use native.Mathlib.Omega.{arith}
use borrow.Author.Tests.{le-leb, lt-leb, lt-ltb}
use Rattle.theory.specs.Runs.{stretch_now, stretch_after}
use Rattle.plays.specs.ScriptRun.{stretch_by}
use Rattle.plays.specs.Play.{shown_stretch}
use Rattle.sheet.specs.Constants.{most_tasks}
use Rattle.player.specs.State.{stretch_in, served, ticked, shown_byte}
use Rattle.player.specs.declared.state.Player.{Player}

-- ---- stretches

pub stretch_under_way : (coming lock : ℕ) → 0 < coming → coming ≡ stretch_now coming (stretch_by lock)
unfolding stretch_now
stretch_under_way zero lock h = absurd (omega arith)
stretch_under_way (suc n) lock h = refl

pub stretch_none : (coming lock : ℕ) → coming ≤ 0 → lock < 2 → 0 ≡ stretch_now coming (stretch_by lock)
unfolding stretch_now stretch_by
stretch_none zero lock h k = rw (lt-leb 2 lock k)
stretch_none (suc n) lock h k = absurd (omega arith)

pub stretch_starts : (coming lock : ℕ) → coming ≤ 0 → 2 ≤ lock → lock ≡ stretch_now coming (stretch_by lock)
unfolding stretch_now stretch_by
stretch_starts zero lock h k = rw (le-leb 2 lock k)
stretch_starts (suc n) lock h k = absurd (omega arith)

pub stretch_ends : (left n : ℕ) → left ≡ 0 → 0 ≡ stretch_after left n
unfolding stretch_after
stretch_ends zero n e = refl
stretch_ends (suc w) n e = absurd (omega arith)

pub stretch_goes : (left n : ℕ) → ¬ (left ≡ 0) → n - 1 ≡ stretch_after left n
unfolding stretch_after
stretch_goes zero n e = absurd (e refl)
stretch_goes (suc w) zero e = refl
stretch_goes (suc w) (suc m) e = omega arith

-- ---- a tick

module _ (s : Player) where
  -- an idle one
  pub tick_idle : s.picked ≡ None → s ≡ ticked s
  tick_idle e = rw e

  -- one that a task has
  pub tick_served : (i : ℕ) → s.picked ≡ Some i → i < most_tasks → served s i ≡ ticked s
  tick_served i e h = rw (e, lt-ltb i most_tasks h)

  -- ---- what it shows

  pub shown_none : s.picked ≡ None → most_tasks ≡ shown_byte s
  unfolding shown_byte
  shown_none e = rw e

  pub shown_some : (i : ℕ) → s.picked ≡ Some i → shown_byte s ≡ i + shown_stretch (stretch_in s i)
  unfolding shown_byte
  shown_some i e = rw e

  pub shown_unlocked : (i : ℕ) → s.picked ≡ Some i → stretch_in s i ≡ 0 → i ≡ shown_byte s
  unfolding shown_stretch
  shown_unlocked i e z = sym (shown_some i e ∙ rw (z, add-zero i))

  pub shown_locked : (i : ℕ) → s.picked ≡ Some i → ¬ (stretch_in s i ≡ 0) → i + 2 * most_tasks ≡ shown_byte s
  unfolding shown_stretch
  shown_locked i e ne = sym (shown_some i e ∙ ap (◌+◌ i) (go (stretch_in s i) ne))
    where
      go : (n : ℕ) → ¬ (n ≡ 0) → shown_stretch n ≡ 2 * most_tasks
      go zero ne = absurd (ne refl)
      go (suc n) ne = refl
