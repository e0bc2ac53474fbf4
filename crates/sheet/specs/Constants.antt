-- The widths, limits and policy numbers of the sheet, each by name and once.
use Rattle.std.specs.Prelude.{ℕ}

-- the fields of the header, in bits
abbrev pub version_width : ℕ
version_width = 4

abbrev pub policy_width : ℕ
policy_width = 2

abbrev pub task_count_width : ℕ
task_count_width = 5

abbrev pub spare_width : ℕ
spare_width = 5

-- the versions: one deadline for all frames of a task, and a deadline for each frame
abbrev pub version_1 : ℕ
version_1 = 1

abbrev pub version_2 : ℕ
version_2 = 2

-- the fields of a task, in bits: every time has the same width
abbrev pub time_width : ℕ
time_width = 20

abbrev pub frame_count_width : ℕ
frame_count_width = 4

-- how many tasks a set and how many frames a task may have
abbrev pub most_tasks : ℕ
most_tasks = 16

abbrev pub most_frames : ℕ
most_frames = 8

-- the most fields that the fixed part of a task has
abbrev pub fixed_room : ℕ
fixed_room = 4

-- the greatest period, deadline, lock and frame time
abbrev pub greatest_time : ℕ
greatest_time = 1048575

-- the policies
abbrev pub listed : ℕ
listed = 0

abbrev pub rate_monotonic : ℕ
rate_monotonic = 1

abbrev pub deadline_monotonic : ℕ
deadline_monotonic = 2

-- the least and the greatest size of a sheet in bytes
abbrev pub least_size : ℕ
least_size = 15

abbrev pub greatest_size : ℕ
greatest_size = 732
