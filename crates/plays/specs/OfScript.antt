-- SCOPE.md, "Run scripts": the run of a script against its entries, in the words of the theory.
use mathlib.Core.List.{List, ◌∷◌, ◌++◌, Memᴰ}
use Rattle.std.specs.Prelude.{◌↔◌, ◌≡◌, ℕ, suc, get_or, None, Option, Some}
use Rattle.theory.specs.Tasks.{Task}
use Rattle.theory.specs.Runs.{Job, job, State, Run, oldest_left, seen_at, pick}
use Rattle.analysis.specs.Times.{number_at}
use Rattle.plays.specs.Script.{Script}
use Rattle.plays.specs.declared.Entry.{Entry}
use Rattle.plays.specs.ScriptRun.{by_place, stretch_by, script_run}

-- e is the script's entry of task i at tick t
abbrev pub EntryAt : Script → ℕ → ℕ → Entry → Type 0
EntryAt sc i t e = Memᴰ e sc.entries × (e.task ≡ i) × (e.tick ≡ t)

-- of these jobs the oldest that is not complete was released at r
abbrev pub OldestReleased : List Job → ℕ → Type 0
OldestReleased js r = (us vs : List Job) × (k w : ℕ) × (oldest_left us ≡ 0) × (js ≡ us ++ (job r k (suc w) ∷ vs))

module _ (order : List ℕ) (tasks : List Task) (sc : Script) (n : ℕ) where
  -- the run of n ticks
  abbrev pub its_run : Run
  its_run = script_run order tasks sc n

  -- its state with the releases of tick u seen
  abbrev pub seen_in : ℕ → State
  seen_in u = seen_at (by_place order tasks) its_run u

  -- the place whose job has tick u, none where the tick is idle
  abbrev pub has_tick : ℕ → Option ℕ
  has_tick u = pick (by_place order tasks) (seen_in u)

  -- It does what the script says.
  pub record OfScript : Type 0 where
    -- the jobs of a task begin with its first frame
    pub firsts : (p : ℕ) → its_run.first_frame p ≡ get_or sc.firsts (number_at order p) 0
    -- at each tick the jobs of that tick's entries are released, each with its entry's work, and no others
    pub releases : (t p w : ℕ) → ((its_run.input t).release_of p ≡ Some w) ↔ ((e : Entry) × EntryAt sc (number_at order p) t e × (e.work ≡ w))
    -- every pick of a job while no stretch is under way starts one of its entry's lock; a lock of 0 or 1 starts none
    pub stretches : (t p r : ℕ) (e : Entry) → (seen_in t).to_come ≡ 0 → has_tick t ≡ Some p → OldestReleased ((seen_in t).lanes p).jobs r
        → EntryAt sc (number_at order p) r e → (its_run.input t).stretch ≡ stretch_by e.lock
    -- no stretch starts while one is under way, or with an idle tick
    pub none_under_way : (t m : ℕ) → (seen_in t).to_come ≡ suc m → (its_run.input t).stretch ≡ 0
    pub none_idle : (t : ℕ) → has_tick t ≡ None → (its_run.input t).stretch ≡ 0
