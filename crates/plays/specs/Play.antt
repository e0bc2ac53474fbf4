-- SCOPE.md, "The player": how the play of a script ends, and what each tick of it shows.
use Rattle.std.specs.Prelude.{Bool, true, false, not, ◌&&◌, ◌||◌, List, [], ◌∷◌, ℕ, zero, suc, ◌+◌, ◌*◌, leb, ltb, eqb, length, None, Option, Some, unwrap_or}
use Rattle.theory.specs.First.{first, every, found}
use Rattle.theory.specs.Tasks.{Task, task_at, deadline_of}
use Rattle.theory.specs.Runs.{Job, job, State, release, pending, pick, stretch_now}
use Rattle.sheet.specs.Constants.{most_tasks, greatest_time}
use Rattle.analysis.specs.Times.{number_at, place_of}
use Rattle.plays.specs.Script.{Script}
use Rattle.plays.specs.declared.Entry.{Entry}
use Rattle.plays.specs.ScriptRun.{by_place, choice, script_state, new_stretch}

-- a job of the task misses at moment t: it has work left, and t is its release plus its deadline
unfoldable pub misses_now : Task → ℕ → List Job → Bool
misses_now task t [] = false
misses_now task t (job r k left ∷ js) = (ltb 0 left && eqb (r + deadline_of task k) t) || misses_now task t js

-- every entry is released by tick t
unfoldable pub all_released : List Entry → ℕ → Bool
all_released [] t = true
all_released (e ∷ es) t = leb e.tick t && all_released es t

-- the number of the task that has a tick; the number behind the last task's for an idle one
unfoldable pub shown_task : List ℕ → Option ℕ → ℕ
shown_task order None = most_tasks
shown_task order (Some p) = number_at order p

-- what a byte of a trace adds in a locked stretch, from its first tick on
unfoldable pub shown_stretch : ℕ → ℕ
shown_stretch zero = 0
shown_stretch (suc n) = 2 * most_tasks

module _ (order : List ℕ) (tasks : List Task) (sc : Script) where
  -- the state with the releases of tick t seen
  unfoldable pub script_seen : ℕ → State
  script_seen t = release (by_place order tasks) t (choice order tasks sc t (script_state order tasks sc t)) (script_state order tasks sc t)

  -- task i misses at moment t
  unfoldable pub task_misses : ℕ → ℕ → Bool
  task_misses t i = misses_now (task_at tasks i) t ((script_state order tasks sc t).lanes (place_of order i)).jobs

  -- the task that misses at moment t, the lower number first
  unfoldable pub misser : ℕ → Option ℕ
  misser t = first 0 (length tasks) (task_misses t)

  -- all jobs are done at moment t: every entry is released by then, and nothing is pending
  unfoldable pub all_done : ℕ → Bool
  all_done t = all_released sc.entries t && every 0 (length order) (λ p. not (pending ((script_seen t).lanes p)))

  -- the play is over at moment t: a task misses, or all jobs are done
  unfoldable pub over : ℕ → Bool
  over t = found (misser t) || all_done t

  -- the first moment at which it is over: a job is released by the greatest time, and due that much later at the latest
  unfoldable pub end_of_play : ℕ
  end_of_play = unwrap_or (first 0 (suc (2 * greatest_time)) over) 0

  -- ---- what a tick shows

  -- the byte of tick t: the task that has it, and what a stretch adds
  unfoldable pub shown : ℕ → ℕ
  shown t =
      let seen = script_seen t in
      let picked = pick (by_place order tasks) seen in
      shown_task order picked + shown_stretch (stretch_now seen.to_come (new_stretch order sc seen picked))

  -- n ticks from tick t on
  unfoldable pub shown_from : ℕ → ℕ → List ℕ
  shown_from t zero = []
  shown_from t (suc n) = shown t ∷ shown_from (suc t) n
