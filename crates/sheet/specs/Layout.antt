-- Where the fields of a sheet lie, read from its bits: header, task records one after another, fill.
use Rattle.std.specs.Prelude.{ℕ, zero, suc, ◌+◌, Bool, true, false, List, [], ◌∷◌, length, drop, replicate, slice_index}
use Rattle.theory.specs.Tasks.{Task}
use Rattle.records.specs.Rows.{unpacked, total}
use Rattle.sheet.specs.Fields.{header_widths, version_field, policy_field, task_count_field, spare_field}
use Rattle.sheet.specs.Fields.{fixed_widths, period_field, deadline_field, lock_field, frame_count_field, frame_widths}

-- the numbers of the header
pub record Header : Type 0 where
  pub version : ℕ
  pub policy : ℕ
  pub task_count : ℕ
  pub spare : ℕ

-- the header at the start of the bits
unfoldable pub header_in : List Bool → Header
header_in bits =
    let f = unpacked header_widths bits in
    record { version = slice_index f version_field; policy = slice_index f policy_field; task_count = slice_index f task_count_field; spare = slice_index f spare_field }

-- the bits behind the header
unfoldable pub behind_header : List Bool → List Bool
behind_header bits = drop (total header_widths) bits

-- the frame count of the task record at the start of the bits
unfoldable pub frame_count_in : Bool → List Bool → ℕ
frame_count_in own bits = slice_index (unpacked (fixed_widths own) bits) (frame_count_field own)

-- how many bits that record takes
unfoldable pub record_width : Bool → List Bool → ℕ
record_width own bits = total (fixed_widths own) + total (frame_widths own (frame_count_in own bits))

-- of numbers that stand by turns, the first of each two and the second of each two
unfoldable pub firsts : List ℕ → List ℕ
firsts [] = []
firsts (a ∷ []) = []
firsts (a ∷ b ∷ ns) = a ∷ firsts ns

unfoldable pub seconds : List ℕ → List ℕ
seconds [] = []
seconds (a ∷ []) = []
seconds (a ∷ b ∷ ns) = b ∷ seconds ns

-- the task of the numbers in a record's fixed part and in its frames: every frame has the one deadline; or times and deadlines stand by turns
unfoldable pub task_from : Bool → List ℕ → List ℕ → Task
task_from false fixed row =
    record { period = slice_index fixed period_field; lock = slice_index fixed (lock_field false); frames = row; deadlines = replicate (length row) (slice_index fixed deadline_field) }
task_from true fixed row =
    record { period = slice_index fixed period_field; lock = slice_index fixed (lock_field true); frames = firsts row; deadlines = seconds row }

-- the task of the record at the start of the bits
unfoldable pub task_at_start : Bool → List Bool → Task
task_at_start own bits =
    task_from own (unpacked (fixed_widths own) bits) (unpacked (frame_widths own (frame_count_in own bits)) (drop (total (fixed_widths own)) bits))

-- n tasks, one record behind the other
unfoldable pub tasks_in : Bool → ℕ → List Bool → List Task
tasks_in own zero bits = []
tasks_in own (suc n) bits = task_at_start own bits ∷ tasks_in own n (drop (record_width own bits) bits)
