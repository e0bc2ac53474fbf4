-- The runs of a set under its policy, by task numbers: a run takes the tasks in priority order.
use Rattle.std.specs.Prelude.{List, ℕ}
use Rattle.theory.specs.Tasks.{Task}
use Rattle.theory.specs.Runs.{Run, Legal, TakesLonger, Takes, Misses}
use Rattle.order.specs.Order.{priority_order, ordered_set}
use Rattle.analysis.specs.Times.{place_of}

-- a run of the set
unfoldable pub RunOf : ℕ → List Task → Run → Type 0
RunOf policy tasks run = Legal (ordered_set policy tasks) run

-- the place of task i
unfoldable pub place : ℕ → List Task → ℕ → ℕ
place policy tasks i = place_of (priority_order policy tasks) i

-- the job of task i that is released at tick r with frame k misses its deadline
unfoldable pub TaskMisses : ℕ → List Task → Run → (i r k : ℕ) → Type 0
TaskMisses policy tasks run i r k = Misses (ordered_set policy tasks) run (place policy tasks i) r k

-- it takes longer than x
unfoldable pub TaskTakesLonger : ℕ → List Task → Run → (i r k x : ℕ) → Type 0
TaskTakesLonger policy tasks run i r k x = TakesLonger (ordered_set policy tasks) run (place policy tasks i) r k x

-- it takes exactly x
unfoldable pub TaskTakes : ℕ → List Task → Run → (i r k x : ℕ) → Type 0
TaskTakes policy tasks run i r k x = Takes (ordered_set policy tasks) run (place policy tasks i) r k x
