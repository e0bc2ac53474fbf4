-- SCOPE.md, "Run scripts": the run of a script. The theory's runs go by places of the priority order, a script by task numbers; `order` has the number of each place.
use Rattle.std.specs.Prelude.{cond, List, [], ◌∷◌, map, ℕ, zero, suc, leb, get_or, None, Option, Some}
use Rattle.theory.specs.Tasks.{Task, task_at}
use Rattle.theory.specs.Runs.{Job, job, State, Input, Run, release, pick, step}
use Rattle.analysis.specs.Times.{number_at}
use Rattle.plays.specs.Script.{Script, entry_of}
use Rattle.plays.specs.declared.Entry.{Entry}

-- the tasks by place
abbrev pub by_place : List ℕ → List Task → List Task
by_place order tasks = map (task_at tasks) order

-- the release that an entry makes, with its work; none where there is no entry
unfoldable pub work_of : Option Entry → Option ℕ
work_of None = None
work_of (Some e) = Some e.work

-- the lock of an entry; 0 where there is none
unfoldable pub lock_of : Option Entry → ℕ
lock_of None = 0
lock_of (Some e) = e.lock

-- the releases of tick t, place by place
unfoldable pub released_at : List ℕ → Script → ℕ → ℕ → Option ℕ
released_at order sc t p = work_of (entry_of sc.entries (number_at order p) t)

-- the lock that the script gives the oldest job of task i that is not complete
unfoldable pub pending_lock : Script → ℕ → List Job → ℕ
pending_lock sc i [] = 0
pending_lock sc i (job r k zero ∷ js) = pending_lock sc i js
pending_lock sc i (job r k (suc w) ∷ js) = lock_of (entry_of sc.entries i r)

-- a stretch of so many ticks; a lock of 0 or 1 starts none
unfoldable pub stretch_by : ℕ → ℕ
stretch_by lock = cond (leb 2 lock) lock 0

-- the stretch that starts with an unlocked pick of the job at a place, none with an idle tick
unfoldable pub stretch_at : List ℕ → Script → State → Option ℕ → ℕ
stretch_at order sc s None = 0
stretch_at order sc s (Some p) = stretch_by (pending_lock sc (number_at order p) (s.lanes p).jobs)

-- none while one is under way
unfoldable pub new_stretch : List ℕ → Script → State → Option ℕ → ℕ
new_stretch order sc s picked = elim s.to_come [ zero ↦ stretch_at order sc s picked | suc n ↦ 0 ]

-- what a script chooses at tick t in a state
unfoldable pub choice : List ℕ → List Task → Script → ℕ → State → Input
choice order tasks sc t s =
    let set = by_place order tasks in
    let seen = release set t (record { release_of = released_at order sc t; stretch = 0 }) s in
    record { release_of = released_at order sc t; stretch = new_stretch order sc seen (pick set seen) }

-- the state that its choices lead to at time t, before the releases of tick t
unfoldable pub script_state : List ℕ → List Task → Script → ℕ → State
script_state order tasks sc zero =
    record { lanes = λ p. record { jobs = []; next = get_or sc.firsts (number_at order p) 0; free_from = 0 }; owner = 0; to_come = 0 }
script_state order tasks sc (suc t) =
    step (by_place order tasks) t (choice order tasks sc t (script_state order tasks sc t)) (script_state order tasks sc t)

-- the run of a script, of so many ticks
unfoldable pub script_run : List ℕ → List Task → Script → ℕ → Run
script_run order tasks sc ticks =
    record {
      first_frame = λ p. get_or sc.firsts (number_at order p) 0;
      input = λ t. choice order tasks sc t (script_state order tasks sc t);
      ticks = ticks;
    }
