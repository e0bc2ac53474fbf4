-- Scripts played by computation: case F in exactly its response time, two tasks that lock, case G's worst run, two frames with a deadline each, two tasks that miss at one moment, no entry and no work.
use Rattle.std.specs.Prelude.{None, Some}
use mathlib.Core.List.{List, [], ◌∷◌}
use mathlib.Core.Path.{◌≡◌, refl}
use Prim.Native.Nat.{ℕ}
use Rattle.lent.specs.Checks.{first_refusal}
use Rattle.theory.specs.First.{first, every, found}
use Rattle.theory.specs.Tasks.{Task, task_at, frame_count, next_frame, frame, deadline_of, largest, largest_frame, start_frame, qualifies, work}
use Rattle.theory.specs.Analysis.{lower, largest_lock, blocker}
use Rattle.theory.specs.Runs.{release_lane, release, oldest_left, pending, pick, serve, serve_lane, stretch_now, stretch_after, tick, step}
use Rattle.theory.specs.WorstRun.{below_own, role, worst_first, once, every_period, worst_release}
use Rattle.analysis.specs.Times.{number_at, place_of}
use Rattle.analysis.specs.Findings.{in_turn}
use Rattle.plays.specs.Script.{Script, entry_of}
use Rattle.plays.specs.declared.Entry.{Entry}
use Rattle.plays.specs.Items.{standing, first_ledger, after_entry, in_range, in_order, by_rules, sound, first_frame_checks, entry_checks, item_checks}
use Rattle.plays.specs.ScriptRun.{work_of, lock_of, released_at, pending_lock, stretch_by, stretch_at, new_stretch, choice, script_state}
use Rattle.plays.specs.Play.{misses_now, all_released, shown_stretch, script_seen, task_misses, misser, all_done, over, end_of_play, shown_task, shown, shown_from}
use Rattle.plays.specs.WorstScript.{worst_lock, entry_row, role_of_task, worst_row, worst_firsts, worst_script}

-- what an example opens in order to compute
plays : Unit {0}
unfolding first_refusal first every found task_at frame_count next_frame frame deadline_of largest largest_frame start_frame qualifies work lower largest_lock blocker release_lane release oldest_left pending pick serve serve_lane stretch_now stretch_after tick step below_own role worst_first once every_period worst_release number_at place_of in_turn entry_of standing first_ledger after_entry in_range in_order by_rules sound first_frame_checks entry_checks item_checks work_of lock_of released_at pending_lock stretch_by stretch_at new_stretch choice script_state misses_now all_released shown_stretch script_seen task_misses misser all_done over end_of_play shown_task shown shown_from worst_lock entry_row role_of_task worst_row worst_firsts worst_script
plays = tt

-- an entry: task, tick, work, lock
abbrev at : ℕ → ℕ → ℕ → ℕ → Entry
at i t w l = record { task = i; tick = t; work = w; lock = l }

-- two tasks as cases F and G have them, with that Q
abbrev two : ℕ → List Task
two Q = record { period = 10; lock = 0; frames = 2 ∷ []; deadlines = 4 ∷ [] } ∷ record { period = 20; lock = Q; frames = 5 ∷ []; deadlines = 20 ∷ [] } ∷ []

abbrev listed : List ℕ
listed = 0 ∷ 1 ∷ []

-- ---- case F: task 0 takes exactly 4

abbrev exactly_4 : Script
exactly_4 = record { firsts = 0 ∷ 0 ∷ []; entries = at 1 0 5 3 ∷ at 0 1 2 0 ∷ [] }

-- its lock has ticks 0 to 2 and starts anew at tick 5; all jobs are done at 7
exactly_4_is : (first_refusal (item_checks (two 3) exactly_4) ≡ None) × (end_of_play listed (two 3) exactly_4 ≡ 7) × (misser listed (two 3) exactly_4 7 ≡ None)
    × (shown_from listed (two 3) exactly_4 0 7 ≡ 33 ∷ 33 ∷ 33 ∷ 0 ∷ 0 ∷ 33 ∷ 33 ∷ [])
unfolding plays
exactly_4_is = (refl, refl, refl, refl)

-- ---- two tasks that lock: a higher task waits for a stretch, a stretch starts anew, and one ends with its job

abbrev locking : List Task
locking = record { period = 8; lock = 2; frames = 3 ∷ 2 ∷ []; deadlines = 7 ∷ 7 ∷ [] } ∷ record { period = 20; lock = 3; frames = 7 ∷ []; deadlines = 20 ∷ [] } ∷ []

abbrev two_locks : Script
two_locks = record { firsts = 0 ∷ 0 ∷ []; entries = at 1 0 7 3 ∷ at 0 2 3 2 ∷ at 0 10 2 2 ∷ [] }

two_locks_is : (first_refusal (item_checks locking two_locks) ≡ None) × (end_of_play listed locking two_locks ≡ 12) × (misser listed locking two_locks 12 ≡ None)
    × (shown_from listed locking two_locks 0 12 ≡ 33 ∷ 33 ∷ 33 ∷ 32 ∷ 32 ∷ 32 ∷ 33 ∷ 33 ∷ 33 ∷ 33 ∷ 32 ∷ 32 ∷ [])
unfolding plays
two_locks_is = (refl, refl, refl, refl)

-- ---- case G: the worst run of task 0

abbrev worst_of_g : Script
worst_of_g = record { firsts = 0 ∷ 0 ∷ []; entries = at 1 0 4 4 ∷ at 0 1 2 0 ∷ [] }

-- it is the worst script, and task 0 misses at 1 + D
worst_of_g_is : (worst_script listed (two 4) 0 0 ≡ worst_of_g) × (first_refusal (item_checks (two 4) worst_of_g) ≡ None)
    × (end_of_play listed (two 4) worst_of_g ≡ 5) × (misser listed (two 4) worst_of_g 5 ≡ Some 0)
    × (shown_from listed (two 4) worst_of_g 0 5 ≡ 33 ∷ 33 ∷ 33 ∷ 33 ∷ 0 ∷ [])
unfolding plays
worst_of_g_is = (refl, refl, refl, refl, refl)

-- ---- two frames with a deadline each: the shorter frame misses, the longer one does not

abbrev each_its_own : List Task
each_its_own = record { period = 8; lock = 0; frames = 3 ∷ 1 ∷ []; deadlines = 6 ∷ 2 ∷ [] } ∷ record { period = 20; lock = 3; frames = 4 ∷ []; deadlines = 20 ∷ [] } ∷ []

-- the worst run of frame 1 misses at 1 + 2, that of frame 0 is done at 1 + 5
each_its_own_is : (misser listed each_its_own (worst_script listed each_its_own 0 1) 3 ≡ Some 0) × (end_of_play listed each_its_own (worst_script listed each_its_own 0 1) ≡ 3)
    × (misser listed each_its_own (worst_script listed each_its_own 0 0) 6 ≡ None) × (end_of_play listed each_its_own (worst_script listed each_its_own 0 0) ≡ 6)
unfolding plays
each_its_own_is = (refl, refl, refl, refl)

-- ---- two tasks that miss at one moment: the lower number is named, though it stands lower in the order

abbrev three : List Task
three = let t : Task = record { period = 5; lock = 0; frames = 2 ∷ []; deadlines = 2 ∷ [] } in t ∷ t ∷ t ∷ []

both_miss : let sc : Script = record { firsts = 0 ∷ 0 ∷ 0 ∷ []; entries = at 0 0 2 0 ∷ at 1 0 2 0 ∷ at 2 0 2 0 ∷ [] } in
    (end_of_play (2 ∷ 1 ∷ 0 ∷ []) three sc ≡ 2) × (misser (2 ∷ 1 ∷ 0 ∷ []) three sc 2 ≡ Some 0)
unfolding plays
both_miss = (refl, refl)

-- ---- the moment at which a play ends

-- no entry: at once; a job with no work: at its release
ends_at : let none_at_all : Script = record { firsts = 0 ∷ 0 ∷ []; entries = [] } in
    let no_work : Script = record { firsts = 0 ∷ 0 ∷ []; entries = at 1 0 1 0 ∷ at 0 3 0 0 ∷ [] } in
    (end_of_play listed (two 3) none_at_all ≡ 0) × (end_of_play listed (two 3) no_work ≡ 3)
unfolding plays
ends_at = (refl, refl)
