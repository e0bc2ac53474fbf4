-- SCOPE.md, "Run scripts": the bytes of a script.
use Rattle.std.specs.Prelude.{Bool, List, [], ◌∷◌, ◌++◌, ◌≡◌, ℕ, ◌^◌, ◌≤◌, ◌<◌, length, get_or, set, replicate}
use Rattle.records.specs.Rows.{packed}
use Rattle.records.specs.Sealed.{sealed_record}
use Rattle.sheet.specs.Constants.{most_tasks, greatest_time}
use Rattle.plays.specs.Script.{Script, no_entry}
use Rattle.plays.specs.declared.Entry.{Entry}
use Rattle.scripts.specs.Format.{first_frame_width, entry_count_width, first_frame_widths, count_widths, entry_widths, task_field, tick_field, work_field, lock_field}

-- the numbers of an entry, each where its field stands
abbrev pub entry_numbers : Entry → List ℕ
entry_numbers e =
    let blank : List ℕ = replicate (length entry_widths) 0 in
    set (set (set (set blank task_field e.task) tick_field e.tick) work_field e.work) lock_field e.lock

-- entries one behind the other
unfoldable pub entries_bits : List Entry → List Bool
entries_bits [] = []
entries_bits (e ∷ es) = packed entry_widths (entry_numbers e) ++ entries_bits es

-- a script: first frames, count, entries
unfoldable pub script_bits : Script → List Bool
script_bits sc =
    packed (first_frame_widths (length sc.firsts)) sc.firsts
    ++ packed count_widths (length sc.entries ∷ [])
    ++ entries_bits sc.entries

-- and fill and check word behind it
unfoldable pub script_of : Script → List ℕ
script_of sc = sealed_record (script_bits sc)

-- the numbers of an entry fit their fields
pub record EntryFits (e : Entry) : Type 0 where
  pub task_fits : e.task < most_tasks
  pub tick_fits : e.tick ≤ greatest_time
  pub work_fits : e.work ≤ greatest_time
  pub lock_fits : e.lock ≤ greatest_time

-- a script of n tasks whose numbers all fit
pub record Fits (n : ℕ) (sc : Script) : Type 0 where
  pub as_many : length sc.firsts ≡ n
  pub firsts_fit : (i : ℕ) → i < n → get_or sc.firsts i 0 < 2 ^ first_frame_width
  pub few_entries : length sc.entries < 2 ^ entry_count_width
  pub entries_fit : (j : ℕ) → j < length sc.entries → EntryFits (get_or sc.entries j no_entry)
