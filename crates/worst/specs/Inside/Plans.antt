-- A worst run as it is planned: of each task, by number, the tick of its first release, how far apart its releases are, the frame of the first job, and the lock.
use Rattle.std.specs.Prelude.{Bool, true, false, cond, ◌&&◌, List, [], ◌∷◌, ◌++◌, map, ◌≡◌, ℕ, zero, suc, ◌+◌, ◌-◌, ◌*◌, ◌/◌, ◌%◌, ◌≤◌, ◌<◌, leb, ltb, eqb, length, get_or, take, None, Option, Some}
use Rattle.theory.specs.Tasks.{Task, frame_count, frame, next_frame, start_frame, largest_frame}
use Rattle.theory.specs.WorstRun.{Role, above, own, blocks, absent, below_own}
use Rattle.records.specs.Rows.{packed}
use Rattle.sheet.specs.Constants.{most_tasks, most_frames, greatest_time}
use Rattle.sheet.specs.Tasks.{task_in, no_record}
use Rattle.analysis.specs.Findings.{in_turn}
use Rattle.plays.specs.Script.{Script}
use Rattle.plays.specs.WorstScript.{entry_row}
use Rattle.plays.specs.declared.Entry.{Entry}
use Rattle.scripts.specs.Format.{first_frame_widths, count_widths}
use Rattle.worst.specs.declared.Series.{Series}
use Rattle.worst.specs.declared.Plan.{Plan}

-- the releases of a task by its role, up to a tick: behind that tick there is none
unfoldable pub series_for : Task → ℕ → ℕ → Role → Series
series_for t k end above = record { opens = 1; step = t.period; next = start_frame t; lock = 0 }
series_for t k end own = record { opens = 1; step = suc end; next = k; lock = 0 }
series_for t k end blocks = record { opens = 0; step = suc end; next = largest_frame t; lock = t.lock }
series_for t k end absent = record { opens = suc end; step = suc end; next = 0; lock = 0 }

-- the role of the task at place q to the task at place p that is blocked so
unfoldable pub role_by : ℕ → Option ℕ → ℕ → Role
role_by p blocker q = elim (ltb q p) [ true ↦ above | false ↦ elim (eqb q p) [ true ↦ own | false ↦ below_own blocker q ] ]

-- the work of a job of frame k: the lock where there is one
unfoldable pub work_with : Task → ℕ → ℕ → ℕ
work_with t k lock = cond (eqb lock 0) (frame t k) lock

-- the next entry of task i
unfoldable pub next_entry : ℕ → Task → Series → Entry
next_entry i t series = record { task = i; tick = series.opens; work = work_with t series.next series.lock; lock = series.lock }

-- its series behind that entry
unfoldable pub behind : Task → Series → Series
behind t series = record { opens = series.opens + series.step; step = series.step; next = next_frame t series.next; lock = series.lock }

-- a release at a tick: it is the first, or a whole number of steps behind it
unfoldable pub series_release : Task → Series → ℕ → Option ℕ
series_release t series now =
    cond (leb series.opens now && eqb ((now - series.opens) % series.step) 0)
    (Some (work_with t (series.next + (now - series.opens) / series.step) series.lock))
    None

-- how many there are up to a tick
unfoldable pub releases_to : ℕ → ℕ → ℕ → ℕ
releases_to opens step end = cond (ltb end opens) 0 (suc ((end - opens) / step))

-- what can be counted and written
pub record SoundSeries (end : ℕ) (t : Task) (series : Series) : Type 0 where
  pub step_positive : 1 ≤ series.step
  pub step_small : series.step ≤ suc greatest_time
  -- at most `end` releases up to tick `end`
  pub few : end < series.opens + end * series.step
  pub next_in : series.next < frame_count t
  pub few_frames : frame_count t ≤ most_frames
  pub frames_fit : (k : ℕ) → k < frame_count t → frame t k ≤ greatest_time
  pub lock_fits : series.lock ≤ greatest_time

-- ---- all tasks

-- no release, and no step
abbrev pub no_series : Series
no_series = record { opens = 0; step = 0; next = 0; lock = 0 }

-- the series of task i in a plan
abbrev pub plan_series : Plan → ℕ → Series
plan_series pl i = get_or pl.series i no_series

-- task i of a plan
abbrev pub plan_task : Plan → ℕ → Task
plan_task pl i = task_in (get_or pl.tasks i no_record)

-- a plan that can be counted and written
pub record SoundPlan (pl : Plan) : Type 0 where
  pub some_task : 1 ≤ pl.count
  pub few_tasks : pl.count ≤ most_tasks
  pub end_fits : pl.end ≤ greatest_time
  pub room : length pl.series ≡ most_tasks
  pub each : (i : ℕ) → i < pl.count → SoundSeries pl.end (plan_task pl i) (plan_series pl i)

-- the entries tick by tick, and in each tick by task number
unfoldable pub plan_row : Plan → ℕ → ℕ → List Entry
plan_row pl t i = entry_row i t (plan_series pl i).lock (series_release (plan_task pl i) (plan_series pl i) t)

unfoldable pub tick_row : Plan → ℕ → List Entry
tick_row pl t = in_turn (plan_row pl t) 0 pl.count

unfoldable pub plan_entries : Plan → List Entry
plan_entries pl = in_turn (tick_row pl) 0 (suc pl.end)

-- how many the first n tasks have
unfoldable pub count_to : Plan → ℕ → ℕ
count_to pl zero = 0
count_to pl (suc n) = count_to pl n + releases_to (plan_series pl n).opens (plan_series pl n).step pl.end

-- the first frames
abbrev pub plan_firsts : Plan → List ℕ
plan_firsts pl = map (λ series. series.next) (take pl.count pl.series)

-- the script that is planned
unfoldable pub plan_script : Plan → Script
plan_script pl = record { firsts = plan_firsts pl; entries = plan_entries pl }

-- the bits before its entries: first frames and count
unfoldable pub head_bits : Plan → List Bool
head_bits pl = packed (first_frame_widths (length (plan_firsts pl))) (plan_firsts pl) ++ packed count_widths (length (plan_entries pl) ∷ [])
