-- SCOPE.md, "Run scripts": the layout of a script, the one description that its reader and its writer both cite: the widths of its fields, in their order.
use Rattle.std.specs.Prelude.{List, [], ◌∷◌, ℕ, ◌+◌, ◌*◌, replicate}
use Rattle.records.specs.Rows.{total}
use Rattle.sheet.specs.Constants.{time_width}

-- the fields of a script, in bits; its times have the width that the sheet's have
abbrev pub first_frame_width : ℕ
first_frame_width = 4

abbrev pub entry_count_width : ℕ
entry_count_width = 24

abbrev pub task_width : ℕ
task_width = 4

-- a first frame for each of n tasks
abbrev pub first_frame_widths : ℕ → List ℕ
first_frame_widths n = replicate n first_frame_width

-- the count of all entries
abbrev pub count_widths : List ℕ
count_widths = entry_count_width ∷ []

-- an entry: task, tick, work, lock
abbrev pub entry_widths : List ℕ
entry_widths = task_width ∷ time_width ∷ time_width ∷ time_width ∷ []

-- where each of them stands in the entry
abbrev pub task_field : ℕ
task_field = 0

abbrev pub tick_field : ℕ
tick_field = 1

abbrev pub work_field : ℕ
work_field = 2

abbrev pub lock_field : ℕ
lock_field = 3

-- the bits of n first frames, the count and m entries
unfoldable pub script_width : ℕ → ℕ → ℕ
script_width n m = total (first_frame_widths n) + total count_widths + m * total entry_widths
