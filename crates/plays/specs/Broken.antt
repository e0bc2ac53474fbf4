-- SCOPE.md, "Run scripts": what is wrong with the item that refusal 14 names. An entry is held against the run of the script that ends before it.
use Rattle.std.specs.Prelude.{List, [], ◌∷◌, ◌++◌, ◌⊎◌, ◌≡◌, ℕ, ◌+◌, ◌≤◌, ◌<◌, length, get_or}
use Rattle.theory.specs.Tasks.{Task, task_at, frame_count, frame}
use Rattle.theory.specs.Runs.{Lane}
use Rattle.analysis.specs.Times.{place_of}
use Rattle.plays.specs.Script.{Script}
use Rattle.plays.specs.declared.Entry.{Entry}
use Rattle.plays.specs.ScriptRun.{script_state}

-- the script with these entries alone
abbrev pub cut : Script → List Entry → Script
cut sc xs = record { firsts = sc.firsts; entries = xs }

-- the first frames before item n are frames of their tasks
abbrev pub FramesBefore : List Task → Script → ℕ → Type 0
FramesBefore tasks sc n = (i : ℕ) → i < n → get_or sc.firsts i 0 < frame_count (task_at tasks i)

-- an entry stands before another: its tick is earlier, or it is the same and its task number is lower
abbrev pub Before : Entry → Entry → Type 0
Before d e = (d.tick < e.tick) ⊎ ((d.tick ≡ e.tick) × (d.task < e.task))

-- an entry behind xs is in order: the last of xs stands before it
abbrev pub Follows : List Entry → Entry → Type 0
Follows xs e = (us : List Entry) (d : Entry) → xs ≡ us ++ (d ∷ []) → Before d e

module _ (order : List ℕ) (tasks : List Task) (sc : Script) where
  -- the lane of an entry's task at its tick, before the releases of that tick, where the entries before it are xs
  abbrev pub lane_before : List Entry → Entry → Lane
  lane_before xs e = (script_state order tasks (cut sc xs) e.tick).lanes (place_of order e.task)

  -- what an entry behind xs may break
  pub data EntryBreaks (xs : List Entry) (e : Entry) : Type 0 where
    -- the set has no such task
    no_such_task : length tasks ≤ e.task → EntryBreaks xs e
    -- its lock is above the task's Q
    lock_too_long : (task_at tasks e.task).lock < e.lock → EntryBreaks xs e
    -- the last of xs does not stand before it
    out_of_order : (us : List Entry) (d : Entry) → xs ≡ us ++ (d ∷ []) → ¬ Before d e → EntryBreaks xs e
    -- of a task of the set, in order, and less than its period behind the task's last release in the run of the script cut before the entry
    too_soon : e.task < length tasks → Follows xs e → e.tick < (lane_before xs e).free_from → EntryBreaks xs e
    -- of a task of the set, in order, with more work than the time of the frame that its job takes in that run
    too_much_work : e.task < length tasks → Follows xs e → frame (task_at tasks e.task) (lane_before xs e).next < e.work → EntryBreaks xs e

  -- none of the entries xs breaks anything behind those before it
  abbrev pub NoneBreaks : List Entry → Type 0
  NoneBreaks xs = (us : List Entry) (d : Entry) (vs : List Entry) → xs ≡ us ++ (d ∷ vs) → EntryBreaks us d → ⊥

  -- item j is the first that is wrong, first frames and entries counted together from 0
  pub data BrokenAt (j : ℕ) : Type 0 where
    -- it is a first frame that its task has not, and those before it are frames of their tasks
    no_such_frame : j < length sc.firsts → frame_count (task_at tasks j) ≤ get_or sc.firsts j 0 → FramesBefore tasks sc j → BrokenAt j
    -- it is an entry that breaks something, all first frames are frames of their tasks, and none of the entries before it breaks anything
    broken_entry : (xs : List Entry) (e : Entry) (ys : List Entry) → sc.entries ≡ xs ++ (e ∷ ys) → j ≡ length sc.firsts + length xs
        → FramesBefore tasks sc (length sc.firsts) → NoneBreaks xs → EntryBreaks xs e → BrokenAt j
