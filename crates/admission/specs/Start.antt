-- The start frame of a task: the lowest-numbered frame that qualifies, or why none does.
use Rattle.std.specs.Prelude.{ℕ, Err, None, Ok, Option, Result, Some}
use Rattle.theory.specs.First.{first}
use Rattle.theory.specs.Tasks.{Task, frame_count, qualifies}
use Rattle.sheet.specs.Admission.{reason_of}
use Rattle.sheet.specs.declared.Reason.{Reason}

-- what a search for it found, as an answer; where it found none, with this reason
abbrev pub start_found : Reason → Option ℕ → Result ℕ Reason
start_found why None = Err why
start_found why (Some s) = Ok s

-- the start frame, or why no frame qualifies
unfoldable pub start_of : Task → Result ℕ Reason
start_of t = start_found (reason_of t) (first 0 (frame_count t) (qualifies t))
