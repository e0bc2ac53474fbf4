-- SCOPE.md, "The C entry": a sheet in, one number and the response times out, four bytes each.
use Rattle.std.specs.Prelude.{List, [], ◌∷◌, ◌++◌, ℕ, ◌*◌}
use Rattle.bits.specs.Packed.{digits, bytes_of}
use Rattle.lent.specs.Lent.{Call, answered, left_after}
use Rattle.sheet.specs.Constants.{most_frames}
use Rattle.sheet.specs.Reading.{sheet_checks, policy_of, tasks_of}
use Rattle.sheet.specs.declared.Refusal.{Refusal}
use Rattle.sheet.specs.declared.Refusal.TheVariants.{Room}
use Rattle.analysis.specs.Times.{outcome_of, times_of}
use Rattle.analysis.specs.Answers.{code}
use Rattle.analysis.specs.declared.Verdict.{Verdict}

-- how many bytes a time takes, and all times of a task
abbrev pub time_size : ℕ
time_size = 4

abbrev pub task_size : ℕ
task_size = time_size * most_frames

-- times in four bytes each, the high byte first
unfoldable pub as_bytes : List ℕ → List ℕ
as_bytes [] = []
as_bytes (t ∷ ts) = bytes_of time_size (digits 32 t) ++ as_bytes ts

-- checking a sheet: its own refusals, its times in four bytes each, its verdict
unfoldable pub checking : List ℕ → Call Refusal ℕ Verdict
checking s = record { checks = sheet_checks s; writes = as_bytes (times_of (policy_of s) (tasks_of s)); says = outcome_of (policy_of s) (tasks_of s) }

-- the number that the C program gets
unfoldable pub entry_number : List ℕ → List ℕ → ℕ
entry_number s room = code (answered Room (checking s) room)

-- what its room for the times holds afterwards
unfoldable pub entry_left : List ℕ → List ℕ → List ℕ
entry_left s room = left_after Room (checking s) room
