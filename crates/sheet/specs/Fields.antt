-- The layout of a sheet, the one description that its reader and its writer both cite: the widths of its fields, in their order. SCOPE.md, "The sheet".
-- A task record has two forms: `own` is false where a task has one deadline, and true where each frame has its own.
use Rattle.std.specs.Prelude.{ℕ, ◌*◌, Bool, true, false, List, [], ◌∷◌, replicate, ◌==◌}
use Rattle.sheet.specs.Constants.{version_2, version_width, policy_width, task_count_width, spare_width, time_width, frame_count_width}

-- the header: version, policy, task count, spare bits
abbrev pub header_widths : List ℕ
header_widths = version_width ∷ policy_width ∷ task_count_width ∷ spare_width ∷ []

-- where each of them stands in the header
abbrev pub version_field : ℕ
version_field = 0

abbrev pub policy_field : ℕ
policy_field = 1

abbrev pub task_count_field : ℕ
task_count_field = 2

abbrev pub spare_field : ℕ
spare_field = 3

-- the form of a version
abbrev pub own_deadlines : ℕ → Bool
own_deadlines version = version == version_2

-- the fixed part of a task: period, deadline, lock, frame count; and period, lock, frame count
abbrev pub fixed_widths : Bool → List ℕ
fixed_widths false = time_width ∷ time_width ∷ time_width ∷ frame_count_width ∷ []
fixed_widths true = time_width ∷ time_width ∷ frame_count_width ∷ []

-- where each of them stands in the fixed part; the deadline only where `own` is false
abbrev pub period_field : ℕ
period_field = 0

abbrev pub deadline_field : ℕ
deadline_field = 1

abbrev pub lock_field : Bool → ℕ
lock_field false = 2
lock_field true = 1

abbrev pub frame_count_field : Bool → ℕ
frame_count_field false = 3
frame_count_field true = 2

-- how many fields a frame has: its time; and its time and its deadline
abbrev pub frame_fields : Bool → ℕ
frame_fields false = 1
frame_fields true = 2

-- the fields of n frames behind it
abbrev pub frame_widths : Bool → ℕ → List ℕ
frame_widths own n = replicate (frame_fields own * n) time_width
