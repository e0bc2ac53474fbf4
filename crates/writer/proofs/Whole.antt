-- The whole sheet: header and records, and the fill and check word behind them, are the bytes of the definition.
use Rattle.std.specs.Prelude.{Ok}
use mathlib.Core.Bool.{Bool, true}
use mathlib.Core.List.{List, [], ◌∷◌, ◌++◌, map}
use mathlib.Core.Path.{◌≡◌, sym, ap, ◌∙◌}
use Prim.Native.Nat.{ℕ, ◌+◌, ◌≤◌}
use native.Mathlib.Omega.{arith}
use lib.Dec.{lit<}
use lib.ListN.{length, length-append}
use Rattle.records.specs.Rows.{packed}
use Rattle.records.specs.Sealed.{sealed_record, sealed_size}
use Rattle.records.specs.Faces.{end_of, row_fits, closed}
use Rattle.records.specs.Inside.Steps.{Placed}
use Rattle.records.proofs.Filling.{length_sealed}
use Rattle.records.proofs.Packing.{Fit, no_field, one_more}
use Rattle.records.proofs.Placing.{placed_long, placed_behind}
use Rattle.records.proofs.Putting.{row_can, room_behind, placed_first}
use Rattle.records.proofs.RoundTrip.{closed_is}
use Rattle.sheet.specs.Constants.{version_2, version_width, policy_width, task_count_width, most_tasks, deadline_monotonic}
use Rattle.sheet.specs.Fields.{header_widths, own_deadlines}
use Rattle.sheet.specs.Tasks.{task_in, records_of}
use Rattle.sheet.specs.Admission.{admission}
use Rattle.sheet.specs.Writing.{header_bits, tasks_bits, sheet_of, sheet_bytes}
use Rattle.sheet.specs.declared.TaskSet.{TaskSet}
use Rattle.sheet.proofs.Carried.{count_in_use}
use Rattle.sheet.proofs.Lawful.{header_lawful}
use Rattle.writer.proofs.Sets.{size_most}

-- the header's row
header_fit : (version policy n : ℕ) → version ≤ version_2 → policy ≤ deadline_monotonic → n ≤ most_tasks → Fit header_widths (version ∷ policy ∷ n ∷ 0 ∷ [])
header_fit version policy n v p h =
    one_more {w = version_width} {v = version} (omega arith) (one_more {w = policy_width} {v = policy} (omega arith) (one_more {w = task_count_width} {v = n} (omega arith) (one_more (lit< tt) no_field)))

pub header_can : (size version policy n : ℕ) (ws : List ℕ) → ws ≡ header_widths → version ≤ version_2 → policy ≤ deadline_monotonic → n ≤ most_tasks
    → length (header_bits version policy n) ≤ end_of size
    → row_fits size 0 ws (version ∷ policy ∷ n ∷ 0 ∷ []) ≡ true
unfolding header_bits
header_can size version policy n ws ew v p h room = rw ew (row_can size 0 header_lawful (header_fit version policy n v p h) (omega arith))

pub header_placed : {s t : List ℕ} {next : ℕ} (version policy n : ℕ) (ws : List ℕ) → ws ≡ header_widths
    → Placed s 0 (packed ws (version ∷ policy ∷ n ∷ 0 ∷ [])) t next → Placed s 0 (header_bits version policy n) t next
unfolding header_bits
header_placed version policy n ws ew p = rw ew at p

-- ---- the sheet of an admitted set, put into as many bytes as it has

module _ (version : ℕ) (s : TaskSet) (e : admission s ≡ Ok tt) (long : length s.tasks ≡ most_tasks) where
  -- the bits of its header and of its records
  abbrev H : List Bool
  H = header_bits version s.policy s.task_count

  abbrev R : List Bool
  R = tasks_bits (own_deadlines version) (map task_in (records_of s))

  sheet_rows : sealed_record (H ++ R) ≡ sheet_bytes version s
  unfolding sheet_bytes sheet_of
  sheet_rows = ap (λ (n : ℕ). sealed_record (header_bits version s.policy n ++ tasks_bits (own_deadlines version) (map task_in (records_of s)))) (sym (count_in_use s long e))

  rows_size : length (sheet_bytes version s) ≡ sealed_size (length (H ++ R))
  rows_size = ap length (sym sheet_rows) ∙ length_sealed (H ++ R)

  -- the room that the parts find, one behind the other
  module _ (b : List ℕ) (exact : length b ≡ length (sheet_bytes version s)) where
    room : 0 + length H + length R ≤ end_of (length b)
    room = omega (arith, exact, rows_size, length-append H R, size_most version s e long)

    pub header_room : length H ≤ end_of (length b)
    header_room = omega (arith, room)

    module _ {t : List ℕ} {at : ℕ} (p : Placed b 0 H t at) where
      pub records_room : at + length R ≤ end_of (length t)
      records_room = room_behind H (length R) room p

      -- what is closed behind them is the sheet
      pub whole : {u v : List ℕ} {end : ℕ} → Placed t at R u end → v ≡ closed u end → v ≡ sheet_bytes version s
      whole {u} {v} {end} q ev =
          let all : Placed b 0 (H ++ R) u end = placed_behind H R (omega (arith, room)) p q in
          let same : length u ≡ length b = placed_long (rw (length-append H R) (omega (arith, room))) all in
          let at_end : length (H ++ R) ≡ end = omega (arith, all.behind) in
          ev ∙ closed_is u end (H ++ R) (placed_first (H ++ R) all) (same ∙ exact ∙ rows_size ∙ ap sealed_size at_end) ∙ sheet_rows
