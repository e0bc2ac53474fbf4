-- The states of a script's run, of whatever length, are those that its choices lead to.
use mathlib.Core.List.{List}
use mathlib.Core.Path.{◌≡◌, refl, ap}
use Prim.Native.Nat.{ℕ, zero, suc}
use Rattle.theory.specs.Tasks.{Task}
use Rattle.theory.specs.Runs.{start_state, step, state_at, seen_at}
use Rattle.plays.specs.Script.{Script}
use Rattle.plays.specs.ScriptRun.{by_place, choice, script_state, script_run}
use Rattle.plays.specs.Play.{script_seen}

module _ (order : List ℕ) (tasks : List Task) (sc : Script) (n : ℕ) where
  pub run_state : (t : ℕ) → state_at (by_place order tasks) (script_run order tasks sc n) t ≡ script_state order tasks sc t
  unfolding state_at start_state script_state script_run
  run_state zero = refl
  run_state (suc t) = ap (step (by_place order tasks) t (choice order tasks sc t (script_state order tasks sc t))) (run_state t)

  pub run_seen : (t : ℕ) → seen_at (by_place order tasks) (script_run order tasks sc n) t ≡ script_seen order tasks sc t
  unfolding seen_at script_seen script_run
  run_seen t = rw (run_state t)
