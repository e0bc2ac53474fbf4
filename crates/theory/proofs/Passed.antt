-- What was asked of a task that passes.
use mathlib.Core.Bool.{true}
use mathlib.Core.List.{List}
use mathlib.Core.Path.{◌≡◌}
use Prim.Native.Nat.{ℕ}
use Rattle.theory.specs.First.{every, found}
use Rattle.theory.specs.Tasks.{Task, task_at, frame_count}
use Rattle.theory.specs.Analysis.{response_of, passes}

-- each of its frames has a response time
pub asked : (set : List Task) (p : ℕ) → passes set p ≡ true → every 0 (frame_count (task_at set p)) (λ k. found (response_of set p k)) ≡ true
unfolding passes
asked set p e = e
