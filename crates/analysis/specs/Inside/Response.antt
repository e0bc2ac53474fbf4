-- The response time below given tasks (SCOPE.md, "The analysis").
use Rattle.std.specs.Prelude.{List, ℕ, Option}
use Rattle.theory.specs.Tasks.{Task, frame, deadline_of}
use Rattle.theory.specs.Analysis.{Higher, demand, response}

-- the response time of a frame of that time and deadline, blocked so long, below those tasks
unfoldable pub response_to : List Higher → ℕ → ℕ → ℕ → Option ℕ
response_to above blocked own deadline = response (demand blocked own above) deadline

-- that of frame k of a task
unfoldable pub frame_response : List Higher → ℕ → Task → ℕ → Option ℕ
frame_response above blocked t k = response_to above blocked (frame t k) (deadline_of t k)
