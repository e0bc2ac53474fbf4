-- What the code's parts say of frame times and deadlines.
use Rattle.std.specs.Prelude.{Bool, ◌&&◌, List, [], ℕ, leb, nat_le}
use Rattle.std.specs.List.{list_all, zip}
use Rattle.theory.specs.First.{every}
use Rattle.theory.specs.Tasks.{Task, frame_count, work}

-- a task of these frames, for what depends on nothing else of a task
unfoldable pub of_frames : List ℕ → Task
of_frames frames = record { period = 0; lock = 0; frames = frames; deadlines = [] }

-- for each length from 1 to the number of frames, the sum from frame s is at least that from frame k, going round
unfoldable pub from_at_least : Task → ℕ → ℕ → Bool
from_at_least t s k = every 1 (frame_count t) (λ n. leb (work t k n) (work t s n))

-- one frame takes a tick or more and at most its deadline, and that is at most the period
abbrev pub between : (period c d : ℕ) → Bool
between period c d = nat_le 1 c && nat_le c d && nat_le d period

-- and so does each frame
unfoldable pub all_between : ℕ → List ℕ → List ℕ → Bool
all_between period frames deadlines = list_all (λ p. between period p.0 p.1) (zip frames deadlines)
