-- SCOPE.md, "The player": what the end of a play and the bytes of a trace say of the script's run, in the words of the theory.
use mathlib.Core.List.{List, Memᴰ}
use Rattle.std.specs.Prelude.{◌⊎◌, ◌≡◌, ℕ, suc, ◌+◌, ◌≤◌, ◌<◌, length, None, Some}
use Rattle.theory.specs.Tasks.{Task, task_at, deadline_of}
use Rattle.theory.specs.Runs.{stretch_now, Left, Misses}
use Rattle.analysis.specs.Times.{number_at, place_of}
use Rattle.plays.specs.Script.{Script}
use Rattle.plays.specs.declared.Entry.{Entry}
use Rattle.plays.specs.ScriptRun.{by_place, script_run}
use Rattle.plays.specs.OfScript.{seen_in, has_tick}

-- every entry is released by tick t
abbrev pub AllReleased : List Entry → ℕ → Type 0
AllReleased es t = (e : Entry) → Memᴰ e es → e.tick ≤ t

-- an entry is released after tick t
abbrev pub Later : List Entry → ℕ → Type 0
Later es t = (e : Entry) × Memᴰ e es × (t < e.tick)

module _ (order : List ℕ) (tasks : List Task) (sc : Script) where
  -- in the run of n ticks a job of task i misses at moment t
  abbrev pub MissIn : ℕ → ℕ → ℕ → Type 0
  MissIn n t i =
      (r k : ℕ) × (r + deadline_of (task_at (by_place order tasks) (place_of order i)) k ≡ t)
      × Misses (by_place order tasks) (script_run order tasks sc n) (place_of order i) r k

  -- a job of task i misses at moment t
  abbrev pub MissAt : ℕ → ℕ → Type 0
  MissAt t i = MissIn t t i

  -- the first miss is that of task i at moment t: none is before, and none of a lower number then
  pub record FirstMiss (t i : ℕ) : Type 0 where
    pub task_in : i < length tasks
    pub misses : MissAt t i
    pub none_before : (u j : ℕ) → u < t → j < length tasks → MissAt u j → ⊥
    pub lowest_number : (j : ℕ) → j < i → MissAt t j → ⊥

  -- no job misses, in the run of any length
  abbrev pub NeverMisses : Type 0
  NeverMisses = (n i r k : ℕ) → i < length tasks → Misses (by_place order tasks) (script_run order tasks sc n) (place_of order i) r k → ⊥

  -- some job has work left at moment u, with the releases of tick u seen
  abbrev pub WorkLeft : ℕ → Type 0
  WorkLeft u = (i r k w : ℕ) × (i < length tasks) × Left (by_place order tasks) (script_run order tasks sc (suc u)) (place_of order i) r k u (suc w)

  -- the last job is complete at moment t: all are released and complete then, and at no moment before
  pub record LastComplete (t : ℕ) : Type 0 where
    pub all_released : AllReleased sc.entries t
    pub all_complete : (i r k w : ℕ) → i < length tasks → Left (by_place order tasks) (script_run order tasks sc (suc t)) (place_of order i) r k t w → w ≡ 0
    pub not_before : (u : ℕ) → u < t → Later sc.entries u ⊎ WorkLeft u

  -- the length of the stretch at tick u of the run of n ticks, 0 for none
  abbrev pub stretch_length : ℕ → ℕ → ℕ
  stretch_length n u = stretch_now (seen_in order tasks sc n u).to_come ((script_run order tasks sc n).input u).stretch

  -- what a byte says of that tick: it is idle, or a task has it, or a task has it in a locked stretch
  pub data TickSays (n u : ℕ) : ℕ → Type 0 where
    idle : has_tick order tasks sc n u ≡ None → TickSays n u 16
    unlocked : (p : ℕ) → has_tick order tasks sc n u ≡ Some p → stretch_length n u ≡ 0 → TickSays n u (number_at order p)
    locked : (p m : ℕ) → has_tick order tasks sc n u ≡ Some p → stretch_length n u ≡ suc m → TickSays n u (number_at order p + 32)
