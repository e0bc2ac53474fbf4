-- How far the releases have come behind an entry, and that the frame that follows another is one.
use Rattle.std.proofs.Common.{◌≡◌, ℕ, suc, ◌+◌, ◌<◌, arith}
use native.Mathlib.Nat.{mod-lt}
use Rattle.theory.specs.Tasks.{Task, frame_count, next_frame}
use Rattle.sheet.specs.Tasks.{task_in}
use Rattle.sheet.specs.declared.Task.{Task as Record}
use Rattle.plays.specs.declared.Entry.{Entry}
use Rattle.scripts.specs.declared.Turn.{Turn}
use Rattle.scripts.specs.Inside.Steps.{turn_after}

-- a frame that follows another is one
pub next_below : (t : Task) (k : ℕ) → k < frame_count t → next_frame t k < frame_count t
unfolding next_frame
next_below t k h = mod-lt (suc k) (omega arith)

-- how far the releases have come behind an entry
pub after_is : (r : Record) (c : Turn) (e : Entry) (next : ℕ) → next ≡ next_frame (task_in r) c.next
    → ◌≡◌ {A = Turn} (record { next = next; free_from = e.tick + r.period }) (turn_after (task_in r) c e)
unfolding turn_after task_in
after_is r c e next f = rw f
