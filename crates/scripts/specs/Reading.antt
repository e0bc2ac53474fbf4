-- SCOPE.md, "Run scripts": what a byte string says as a script of n tasks, and whether it is made as a script is.
use Rattle.std.specs.Prelude.{Bool, not, ◌&&◌, cond, List, [], ◌∷◌, ℕ, zero, suc, min, leb, eqb, length, get_or, drop, replicate}
use Rattle.bits.specs.Packed.{bits_of}
use Rattle.check_word.specs.Division.{body, sealed}
use Rattle.records.specs.Rows.{unpacked, total}
use Rattle.records.specs.Faces.{taken_row}
use Rattle.records.specs.Sealed.{sealed_size, some_set}
use Rattle.sheet.specs.Constants.{most_tasks}
use Rattle.plays.specs.Script.{Script, no_entry}
use Rattle.plays.specs.declared.Entry.{Entry}
use Rattle.scripts.specs.Format.{first_frame_widths, count_widths, entry_widths, task_field, tick_field, work_field, lock_field, script_width}

-- the first frames of n tasks
unfoldable pub firsts_in : ℕ → List Bool → List ℕ
firsts_in n bits = unpacked (first_frame_widths n) bits

-- the count behind them
unfoldable pub entry_count_in : ℕ → List Bool → ℕ
entry_count_in n bits = get_or (unpacked count_widths (drop (total (first_frame_widths n)) bits)) 0 0

-- the entry of four numbers
unfoldable pub entry_with : List ℕ → Entry
entry_with f = record { task = get_or f task_field 0; tick = get_or f tick_field 0; work = get_or f work_field 0; lock = get_or f lock_field 0 }

-- the entry at the start of the bits
unfoldable pub entry_at_start : List Bool → Entry
entry_at_start bits = entry_with (unpacked entry_widths bits)

-- m entries, one behind the other
unfoldable pub entries_in : ℕ → List Bool → List Entry
entries_in zero bits = []
entries_in (suc m) bits = entry_at_start bits ∷ entries_in m (drop (total entry_widths) bits)

-- the script of n tasks in a byte string
unfoldable pub script_in : ℕ → List ℕ → Script
script_in n s =
    let bits = bits_of (body s) in
    record { firsts = firsts_in n bits; entries = entries_in (entry_count_in n bits) (drop (script_width n 0) bits) }

-- the bits of n first frames, the count and m entries are there
unfoldable pub there : ℕ → ℕ → List ℕ → Bool
there n m s = leb (script_width n m) (length (bits_of (body s)))

-- the first frames in the slots of a set, for no more tasks than it has slots; 0 where their bits are not there
unfoldable pub first_frames : ℕ → List ℕ → List ℕ
first_frames n s = taken_row (body s) 0 (first_frame_widths (min n most_tasks)) (replicate most_tasks 0)

-- how many entries there are; none where the count is not there
unfoldable pub entry_count : ℕ → List ℕ → ℕ
entry_count n s = cond (there n 0 s) (entry_count_in n (bits_of (body s))) 0

-- entry j; a blank one where its bits are not there
unfoldable pub entry_at : ℕ → List ℕ → ℕ → Entry
entry_at n s j = cond (there n (suc j) s) (entry_at_start (drop (script_width n j) (bits_of (body s)))) no_entry

-- a byte string is made as the script of n tasks is: its count is there, its length is that of so many entries, its check word is right, and no fill bit is set
unfoldable pub well_made : ℕ → List ℕ → Bool
well_made n s =
    let bits = bits_of (body s) in
    let width = script_width n (entry_count_in n bits) in
    there n 0 s && eqb (length s) (sealed_size width) && sealed s && not (some_set (drop width bits))
