-- What a byte of a trace says, in the words of the theory: the task that the run gives the tick to, and whether in a locked stretch.
use Rattle.std.specs.Prelude.{None, Option, Some}
use mathlib.Core.List.{List}
use mathlib.Core.Path.{◌≡◌, refl, ap, ◌∙◌}
use Prim.Native.Nat.{ℕ, zero, suc, ◌+◌}
use native.Mathlib.Nat.{add-zero}
use native.Mathlib.Omega.{arith}
use Rattle.theory.specs.Tasks.{Task}
use Rattle.theory.specs.Runs.{State, release, pick, stretch_now}
use Rattle.theory.proofs.Steps.{Picked, in_stretch, highest, idle, picked}
use Rattle.analysis.specs.Times.{number_at}
use Rattle.plays.specs.Script.{Script}
use Rattle.plays.specs.ScriptRun.{by_place, stretch_at, new_stretch, choice, script_run}
use Rattle.plays.specs.Play.{script_seen, shown_stretch, shown_task, shown}
use Rattle.plays.specs.OfScript.{has_tick}
use Rattle.plays.specs.Says.{stretch_length, TickSays, idle as is_idle, unlocked, locked}
use Rattle.plays.proofs.States.{run_seen}

module _ (order : List ℕ) (tasks : List Task) (sc : Script) (n u : ℕ) where
  abbrev seen : State
  seen = script_seen order tasks sc u

  abbrev at : Option ℕ
  at = pick (by_place order tasks) seen

  abbrev length_now : ℕ
  length_now = stretch_now seen.to_come (new_stretch order sc seen at)

  same_place : has_tick order tasks sc n u ≡ at
  same_place = ap (pick (by_place order tasks)) (run_seen order tasks sc n u)

  same_stretch : stretch_length order tasks sc n u ≡ length_now
  unfolding script_run choice script_seen release
  same_stretch = rw (run_seen order tasks sc n u)

  -- no stretch with an idle tick
  none_idle : at ≡ None → length_now ≡ 0
  unfolding new_stretch stretch_at stretch_now
  none_idle e = go (picked (by_place order tasks) seen)
    where
      go : Picked (by_place order tasks) seen → length_now ≡ 0
      go (in_stretch m under_way there) = let z : ◌≡◌ {A = ℕ} 0 1 = cc in absurd (omega arith)
      go (highest q free there l pend earlier) = let z : ◌≡◌ {A = ℕ} 0 1 = cc in absurd (omega arith)
      go (idle free there none_pending) = rw (e, free)

  pub shown_says : TickSays order tasks sc n u (shown order tasks sc u)
  unfolding shown shown_task shown_stretch
  shown_says = go at length_now refl refl
    where
      go : (o : Option ℕ) (m : ℕ) → at ≡ o → length_now ≡ m → TickSays order tasks sc n u (shown_task order o + shown_stretch m)
      go None zero a l = is_idle (same_place ∙ a)
      go None (suc m) a l = let z : ⊥ = omega (arith, none_idle a) in absurd z
      go (Some p) zero a l = rw (add-zero (number_at order p)) (unlocked p (same_place ∙ a) (same_stretch ∙ l))
      go (Some p) (suc m) a l = locked p m (same_place ∙ a) (same_stretch ∙ l)
