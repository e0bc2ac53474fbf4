-- The words of private contracts.
use Rattle.std.specs.Prelude.{Bool, ◌&&◌, ℕ, ◌+◌, leb}
use Rattle.theory.specs.Tasks.{Task, frame, next_frame}
use Rattle.plays.specs.Items.{standing}
use Rattle.plays.specs.declared.Entry.{Entry}
use Rattle.scripts.specs.declared.Turn.{Turn}

-- an entry of a task judged by how far that task's releases have come, and by the least standing of an entry here
unfoldable pub sound_turn : Task → Turn → ℕ → Entry → Bool
sound_turn t c behind e = leb e.lock t.lock && leb behind (standing e) && (leb c.free_from e.tick && leb e.work (frame t c.next))

-- how far they have come behind that entry
unfoldable pub turn_after : Task → Turn → Entry → Turn
turn_after t c e = record { next = next_frame t c.next; free_from = e.tick + t.period }
