-- What we sign for a play and its trace: what the answer says of the sheet, the script and the script's run, and what stands in the lent bytes.
use Rattle.std.specs.Prelude.{true, false, List, ◌↔◌, ◌≡◌, ℕ, ◌≤◌, ◌<◌, length, get_or, drop, Err, None, Ok, Some, Result, IsOk}
use Rattle.lent.specs.Checks.{first_refusal}
use Rattle.sheet.specs.Reading.{policy_of, tasks_of, reading}
use Rattle.sheet.specs.declared.Refusal.{Refusal}
use Rattle.sheet.specs.declared.Refusal.TheVariants.{Room}
use Rattle.analysis.specs.Runs.{RunOf}
use Rattle.plays.specs.ScriptRun.{script_run}
use Rattle.plays.specs.OfScript.{OfScript}
use Rattle.plays.specs.Broken.{BrokenAt}
use Rattle.plays.specs.Says.{FirstMiss, NeverMisses, LastComplete, TickSays}
use Rattle.scripts.specs.Reading.{well_made}
use Rattle.player.specs.Answers.{order_in, script_for, play_checks, played}
use Rattle.player.specs.declared.PlayRefusal.{PlayRefusal}
use Rattle.player.specs.declared.PlayRefusal.TheVariants.{Base, Malformed, Item}
use Rattle.player.specs.declared.Played.{Played}
use Rattle.player.specs.declared.Played.TheVariants.{Missed, Done}

-- nothing turns the sheet and the script away
abbrev pub Playable : (sheet script : List ℕ) → Type 0
Playable sheet script = first_refusal (play_checks sheet script) ≡ None

-- What we sign for an answer to a sheet and a script.
pub record PlaySigned (sheet script : List ℕ) (answer : Result Played PlayRefusal) : Type 0 where
  -- it is a refusal exactly where that is the first of the order: the sheet's own, 13, 14 item by item
  pub turned : (why : PlayRefusal) → (answer ≡ Err why) ↔ (first_refusal (play_checks sheet script) ≡ Some why)
  -- it is one of the sheet's own exactly where the sheet gets it, whatever the script
  pub own : (why : Refusal) → (answer ≡ Err (Base why)) ↔ (reading sheet ≡ Err why)
  -- it is 13 exactly where the sheet is admitted and the bytes are not made as a script of its tasks is
  pub ill_made : (answer ≡ Err Malformed) ↔ (IsOk (reading sheet) × (well_made (length (tasks_of sheet)) script ≡ false))
  -- it is 14 with item j exactly where the sheet is admitted, the bytes are made so, and item j is the first that is wrong
  pub item : (j : ℕ) → (answer ≡ Err (Item j))
      ↔ (IsOk (reading sheet) × (well_made (length (tasks_of sheet)) script ≡ true) × BrokenAt (order_in sheet) (tasks_of sheet) (script_for sheet script) j)
  -- where nothing is turned away the script's run, of whatever length, is a run of the set
  pub run_of_set : Playable sheet script → (n : ℕ) → RunOf (policy_of sheet) (tasks_of sheet) (script_run (order_in sheet) (tasks_of sheet) (script_for sheet script) n)
  -- and it does what the script says: its first frames, its releases with their work, its stretches
  pub run_of_script : Playable sheet script → (n : ℕ) → OfScript (order_in sheet) (tasks_of sheet) (script_for sheet script) n
  -- it is a miss of task i at tick t exactly where nothing is turned away and that is the first miss of the run, the lower number first
  pub missed : (t i : ℕ) → (answer ≡ Ok (Missed t i)) ↔ (Playable sheet script × FirstMiss (order_in sheet) (tasks_of sheet) (script_for sheet script) t i)
  -- it is that all is done at tick t exactly where nothing is turned away, no job of the run misses, and the last is complete at t
  pub done : (t : ℕ) → (answer ≡ Ok (Done t))
      ↔ (Playable sheet script
      × NeverMisses (order_in sheet) (tasks_of sheet) (script_for sheet script)
      × LastComplete (order_in sheet) (tasks_of sheet) (script_for sheet script) t)

-- how many ticks are played by an answer: up to the tick that it names, or none
unfoldable pub ticks_said : Result Played PlayRefusal → ℕ
ticks_said (Ok (Missed t i)) = t
ticks_said (Ok (Done t)) = t
ticks_said (Err why) = 0

-- What we sign for a trace: of its answer, and of the lent bytes before and after.
pub record TraceSigned (sheet script before : List ℕ) (answer : Result Played PlayRefusal) (after : List ℕ) : Type 0 where
  -- it is 12 exactly where the lent bytes are fewer than the ticks that a play says
  pub no_room : (answer ≡ Err (Base Room)) ↔ (length before < ticks_said (played sheet script))
  -- else it is the answer of a play
  pub as_play : ticks_said (played sheet script) ≤ length before → (answer ≡ played sheet script) × PlaySigned sheet script answer
  -- a refusal leaves the bytes as they were
  pub unchanged : (why : PlayRefusal) → answer ≡ Err why → after ≡ before
  -- byte u says of tick u of the run which task has it, or none, and whether in a locked stretch
  pub shows : (u : ℕ) → u < ticks_said answer → TickSays (order_in sheet) (tasks_of sheet) (script_for sheet script) (ticks_said answer) u (get_or after u 0)
  -- the bytes behind are as they were
  pub same_length : length after ≡ length before
  pub same_behind : drop (ticks_said answer) after ≡ drop (ticks_said answer) before
