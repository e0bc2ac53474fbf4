-- SCOPE.md, "The player": its state by task number, and what a release, a pick, a tick and a look ahead do to it.
use Rattle.std.specs.Prelude.{Bool, if◌then◌else◌, ◌&&◌, List, ℕ, pred, ◌+◌, ◌-◌, ◌^◌, min, nat_eq, nat_lt, nat_le, get_or, set, take, replicate, fold, find, position, Option, None, Some}
use Rattle.theory.specs.Runs.{stretch_now, stretch_after}
use Rattle.sheet.specs.Constants.{most_tasks}
use Rattle.plays.specs.ScriptRun.{stretch_by}
use Rattle.plays.specs.Play.{shown_stretch}
use Rattle.plays.specs.declared.Entry.{Entry}
use Rattle.player.specs.declared.state.Job.{Job}
use Rattle.player.specs.declared.state.Player.{Player}

-- later than every moment of a play
abbrev pub never : ℕ
never = 2 ^ 32 - 1

-- where no job is pending
abbrev pub no_job : Job
no_job = record { left = 0; due = 0; lock = 0 }

-- the moment by which a job is due: with no work left, never
abbrev pub due_with : Job → ℕ
due_with job = if nat_eq job.left 0 then never else job.due

-- the soonest moment by which a pending job is due
abbrev pub soonest_due : List Job → ℕ
soonest_due jobs = fold (λ soonest job. min soonest (due_with job)) never jobs

-- nothing is pending when a run begins
abbrev pub at_rest : Player
at_rest = record { jobs = replicate most_tasks no_job; soonest = never; picked = None; to_come = 0 }

-- a release: the task's slot holds the new job
abbrev pub released : Player → Entry → ℕ → Player
released s e deadline =
    let due = e.tick + deadline in
    record {
      jobs = set s.jobs e.task (record { left = e.work; due = due; lock = e.lock });
      soonest = min s.soonest due;
      picked = s.picked;
      to_come = s.to_come;
    }

-- the first task of a row with work left
abbrev pub first_pending : List Job → List ℕ → Option ℕ
first_pending jobs order = find (λ i. nat_lt 0 (get_or jobs i no_job).left) order

-- the task that has the tick: that of a stretch under way, else the first with work left
abbrev pub pick_task : List ℕ → Player → Option ℕ
pick_task order s = if nat_eq s.to_come 0 then first_pending s.jobs order else s.picked

-- the state with that task picked
abbrev pub picked_by : List ℕ → Player → Player
picked_by order s = record { jobs = s.jobs; soonest = s.soonest; picked = pick_task order s; to_come = s.to_come }

-- the length of the stretch of task i at the tick: of one under way what is to come, or of the one that starts
abbrev pub stretch_in : Player → ℕ → ℕ
stretch_in s i = stretch_now s.to_come (stretch_by (get_or s.jobs i no_job).lock)

-- the tick given to task i
abbrev pub served : Player → ℕ → Player
served s i =
    let job = get_or s.jobs i no_job in
    record {
      jobs = set s.jobs i (record { left = pred job.left; due = job.due; lock = job.lock });
      soonest = s.soonest;
      picked = s.picked;
      to_come = stretch_after (pred job.left) (stretch_in s i);
    }

-- the state after the tick of the task picked: an idle one changes nothing
abbrev pub ticked : Player → Player
ticked s = elim s.picked [ None ↦ s | Some i ↦ if nat_lt i most_tasks then served s i else s ]

-- work is left at moment t, by which it is due
abbrev pub late : Job → ℕ → Bool
late job t = nat_lt 0 job.left && nat_eq job.due t

-- the lowest-numbered of the tasks with that
abbrev pub first_late : List Job → ℕ → Option ℕ
first_late jobs t = position (λ job. late job t) jobs

-- the same of the first n tasks in a state; before the soonest moment none is looked for
abbrev pub misser_in : Player → ℕ → ℕ → Option ℕ
misser_in s n t = if nat_lt t s.soonest then None else first_late (take n s.jobs) t

-- the state at a moment at which no task misses: where the soonest moment is reached, the next one is looked for
abbrev pub looking_ahead : Player → ℕ → Player
looking_ahead s t = if nat_le s.soonest t then record { jobs = s.jobs; soonest = soonest_due s.jobs; picked = s.picked; to_come = s.to_come } else s

-- what the tick shows: the task that has it, and whether it is in a stretch
unfoldable pub shown_byte : Player → ℕ
shown_byte s = elim s.picked [ None ↦ most_tasks | Some i ↦ i + shown_stretch (stretch_in s i) ]
