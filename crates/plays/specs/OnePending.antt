-- SCOPE.md, "The player": what it says that before the first miss at most one job of a task is pending.
use Rattle.std.specs.Prelude.{List, [], ◌∷◌, ◌++◌, ◌≡◌, ℕ, suc, ◌≤◌, None}
use Rattle.theory.specs.Tasks.{Task}
use Rattle.theory.specs.Runs.{Job, job, oldest_left}
use Rattle.plays.specs.Script.{Script}
use Rattle.plays.specs.Play.{misser}

-- no task misses up to moment t
abbrev pub Calm : List ℕ → List Task → Script → ℕ → Type 0
Calm order tasks sc t = (u : ℕ) → u ≤ t → misser order tasks sc u ≡ None

-- of these jobs none has work left, or the youngest alone has
pub data AtMostOne (js : List Job) : Type 0 where
  nothing_left : oldest_left js ≡ 0 → AtMostOne js
  one_left : (older : List Job) (r k w : ℕ) → oldest_left older ≡ 0 → js ≡ older ++ (job r k (suc w) ∷ []) → AtMostOne js
