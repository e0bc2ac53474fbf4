-- SCOPE.md, "The player": what a play and a trace answer to a sheet and a script, refused calls too.
use Rattle.std.specs.Prelude.{not, List, ◌∷◌, ◌++◌, ℕ, length, None, Option, Some, Err, Ok, Result}
use Rattle.lent.specs.Checks.{Check, ◌⇒◌, first_refusal, retold}
use Rattle.lent.specs.Lent.{Call, answered, left_after}
use Rattle.sheet.specs.Reading.{sheet_checks, policy_of, tasks_of}
use Rattle.sheet.specs.declared.Refusal.TheVariants.{Room}
use Rattle.order.specs.Order.{priority_order}
use Rattle.plays.specs.Script.{Script}
use Rattle.plays.specs.Items.{item_checks}
use Rattle.plays.specs.Play.{misser, end_of_play, shown_from}
use Rattle.scripts.specs.Reading.{script_in, well_made}
use Rattle.player.specs.declared.PlayRefusal.{PlayRefusal}
use Rattle.player.specs.declared.PlayRefusal.TheVariants.{Base, Malformed as ill_made, Item}
use Rattle.player.specs.declared.Played.{Played}
use Rattle.player.specs.declared.Played.TheVariants.{Missed, Done}

-- the task numbers of a sheet in priority order
unfoldable pub order_in : List ℕ → List ℕ
order_in sheet = priority_order (policy_of sheet) (tasks_of sheet)

-- the script in some bytes, read for the tasks of a sheet
unfoldable pub script_for : List ℕ → List ℕ → Script
script_for sheet bytes = script_in (length (tasks_of sheet)) bytes

-- the order for a play: all of the sheet's own refusals, 13, then 14 item by item
unfoldable pub play_checks : List ℕ → List ℕ → List (Check PlayRefusal)
play_checks sheet bytes =
    retold Base (sheet_checks sheet)
    ++ (not (well_made (length (tasks_of sheet)) bytes) ⇒ ill_made)
    ∷ retold Item (item_checks (tasks_of sheet) (script_for sheet bytes))

-- the play stops at a moment at which a task misses, or all jobs are done
unfoldable pub ended : ℕ → Option ℕ → Played
ended t None = Done t
ended t (Some i) = Missed t i

-- the moment of an end
abbrev pub moment_of : Played → ℕ
moment_of (Missed t i) = t
moment_of (Done t) = t

module _ (sheet bytes : List ℕ) where
  -- the moment at which it stops
  unfoldable pub stops_at : ℕ
  stops_at = end_of_play (order_in sheet) (tasks_of sheet) (script_for sheet bytes)

  -- how it ends there
  unfoldable pub play_end : Played
  play_end = ended stops_at (misser (order_in sheet) (tasks_of sheet) (script_for sheet bytes) stops_at)

  -- what a play answers
  unfoldable pub played : Result Played PlayRefusal
  played = elim (first_refusal (play_checks sheet bytes)) [ None ↦ Ok play_end | Some r ↦ Err r ]

  -- a trace: it writes a byte for each tick played, and answers as a play does
  unfoldable pub tracing : Call PlayRefusal ℕ Played
  tracing =
      record {
        checks = play_checks sheet bytes;
        writes = shown_from (order_in sheet) (tasks_of sheet) (script_for sheet bytes) 0 stops_at;
        says = play_end;
      }

  -- what a trace answers
  unfoldable pub traced : List ℕ → Result Played PlayRefusal
  traced room = answered (Base Room) tracing room

  -- what the lent bytes hold afterwards
  unfoldable pub trace_left : List ℕ → List ℕ
  trace_left room = left_after (Base Room) tracing room
