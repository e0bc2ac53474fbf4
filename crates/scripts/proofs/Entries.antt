-- The entries of a script, one by one: what is read for entry j, and which entry of the script it is.
use mathlib.Core.Bool.{Bool, true, false, ◌&&◌, cond}
use mathlib.Core.List.{List}
use mathlib.Core.Path.{◌≡◌, refl, sym, ap, ap₂, ◌∙◌}
use Prim.Native.Nat.{ℕ, zero, suc, min, ◌+◌, ◌*◌, ◌^◌, ◌≤◌, ◌<◌}
use native.Mathlib.Nat.{suc-mul, min-eq_left, min-le_right}
use native.Mathlib.Omega.{arith}
use borrow.Author.Tests.{le-leb}
use lib.ListN.{length, get_or, take, drop, replicate, length-replicate}
use lib.Seq.{drop-drop, take_at}
use Rattle.bits.specs.Packed.{bits_of}
use Rattle.bits.proofs.Laws.{length_bits}
use Rattle.bits.proofs.Tests.{leb_iff}
use Rattle.check_word.specs.Division.{body}
use Rattle.lent.specs.Lent.{laid}
use Rattle.records.specs.Rows.{unpacked, total}
use Rattle.records.specs.Faces.{end_of, lawful, row_there, row_has_slots, taken_row}
use Rattle.records.proofs.Packing.{length_unpacked}
use Rattle.records.proofs.Parts.{laid_whole, take_replicate}
use Rattle.sheet.specs.Constants.{most_tasks}
use Rattle.plays.specs.Script.{no_entry}
use Rattle.plays.specs.declared.Entry.{Entry}
use Rattle.scripts.specs.Format.{first_frame_widths, entry_widths, script_width}
use Rattle.scripts.specs.Reading.{firsts_in, entry_count_in, entry_with, entry_at_start, entries_in, script_in, there, first_frames, entry_count, entry_at, well_made}
use Rattle.scripts.proofs.Widths.{firsts_width, entry_width, width_is, width_more, width_at, body_length, body_bits}
use Rattle.scripts.proofs.Made.{made, count_small}

-- ---- entry j as its bits lie

module _ (s : List ℕ) (n j : ℕ) (few : n < 2 ^ 32) (near : j < 2 ^ 32) where
  abbrev bits : List Bool
  bits = bits_of (body s)

  row_is : row_has_slots (length (body s)) (script_width n j) entry_widths 4 ≡ there n (suc j) s
  unfolding row_has_slots row_there lawful there
  row_is =
      and_so _ _
      (leb_iff (script_width n j + total entry_widths) (end_of (length (body s))) (script_width n (suc j)) (length bits)
      (λ h. omega (arith, width_more n j, length_bits (body s)))
      (λ h. omega (arith, width_more n j, length_bits (body s), width_is n j, entry_width)))
    where
      and_so : (b d : Bool) → b ≡ d → (true && b && true) ≡ d
      and_so true d e = e
      and_so false d e = e

  numbers_are : taken_row (body s) (script_width n j) entry_widths (replicate 4 0)
      ≡ cond (there n (suc j) s) (unpacked entry_widths (drop (script_width n j) bits)) (replicate 4 0)
  unfolding taken_row
  numbers_are =
      ap₂ (λ (b : Bool) (l : List ℕ). cond b l (replicate 4 0)) row_is
      (laid_whole (unpacked entry_widths (drop (script_width n j) bits)) (replicate 4 0) (sym (length_unpacked entry_widths (drop (script_width n j) bits))))

  pub entry_taken : (numbers : List ℕ) → numbers ≡ taken_row (body s) (script_width n j) entry_widths (replicate 4 0) → entry_with numbers ≡ entry_at n s j
  unfolding entry_with entry_at entry_at_start
  entry_taken numbers g = ap entry_with (g ∙ numbers_are) ∙ go (there n (suc j) s)
    where
      go : (b : Bool) → entry_with (cond b (unpacked entry_widths (drop (script_width n j) bits)) (replicate 4 0))
          ≡ cond b (entry_with (unpacked entry_widths (drop (script_width n j) bits))) no_entry
      go true = refl
      go false = refl

-- ---- the entries of a script

pub length_entries : (m : ℕ) (bits : List Bool) → length (entries_in m bits) ≡ m
unfolding entries_in
length_entries zero bs = refl
length_entries (suc m) bs = ap suc (length_entries m (drop (total entry_widths) bs))

pub entry_in : (m j : ℕ) (bits : List Bool) → j < m → get_or (entries_in m bits) j no_entry ≡ entry_at_start (drop (j * total entry_widths) bits)
unfolding entries_in
entry_in zero j bits h = absurd (omega arith)
entry_in (suc m) zero bits h =
    let none_before : 0 ≡ 0 * total entry_widths = omega arith in
    ap (λ (k : ℕ). entry_at_start (drop k bits)) none_before
entry_in (suc m) (suc j) bits h =
    let w = total entry_widths in
    let one_more : w + j * w ≡ suc j * w = omega (arith, suc-mul j w) in
    entry_in m j (drop w bits) (omega arith) ∙ ap entry_at_start (drop-drop (j * w) w bits ∙ ap (λ (k : ℕ). drop k bits) one_more)

module _ (n : ℕ) (s : List ℕ) (w : well_made n s ≡ true) where
  -- the count of a script is that of its entries
  pub count_of_entries : entry_count n s ≡ length (script_in n s).entries
  unfolding entry_count script_in
  count_of_entries =
      ap (λ (b : Bool). cond b (entry_count_in n (bits_of (body s))) 0) (made s n w).counted_there
      ∙ sym (length_entries (entry_count_in n (bits_of (body s))) (drop (script_width n 0) (bits_of (body s))))

  pub few_entries : length (script_in n s).entries < 2 ^ 24
  unfolding script_in
  few_entries =
      rw (length_entries (entry_count_in n (bits_of (body s))) (drop (script_width n 0) (bits_of (body s)))) (count_small n (bits_of (body s)))

  -- what is read for entry j is entry j
  pub entry_is : (j : ℕ) → j < length (script_in n s).entries → entry_at n s j ≡ get_or (script_in n s).entries j no_entry
  unfolding entry_at there script_in
  entry_is j h =
      let bits = bits_of (body s) in
      let m = entry_count_in n bits in
      let in_count : j < m = omega (arith, length_entries m (drop (script_width n 0) bits)) in
      let inside : script_width n (suc j) ≤ length bits = omega (arith, (made s n w).size, body_bits s, width_is n (suc j), width_is n m) in
      ap (λ (b : Bool). cond b (entry_at_start (drop (script_width n j) bits)) no_entry) (le-leb (script_width n (suc j)) (length bits) inside)
      ∙ sym (entry_in m j (drop (script_width n 0) bits) in_count
      ∙ ap entry_at_start (drop-drop (j * total entry_widths) (script_width n 0) bits ∙ ap (λ (k : ℕ). drop k bits) (width_at n j)))

  -- so of an entry below the count that is read
  pub read_is : {m j : ℕ} {e : Entry} → m ≡ entry_count n s → j < m → e ≡ entry_at n s j → (j < length (script_in n s).entries) × (e ≡ get_or (script_in n s).entries j no_entry)
  read_is {m} {j} {e} c h r = let there : j < length (script_in n s).entries = omega (arith, count_of_entries) in (there, r ∙ entry_is j there)

-- ---- the first frames of a script

module _ (n : ℕ) (s : List ℕ) where
  pub length_firsts : length (firsts_in n (bits_of (body s))) ≡ n
  unfolding firsts_in
  length_firsts = length_unpacked (first_frame_widths n) (bits_of (body s)) ∙ length-replicate n 4

  -- in slots of which n are in use
  pub firsts_in_slots : (slots : List ℕ) → slots ≡ laid (firsts_in n (bits_of (body s))) (replicate most_tasks 0) → take n slots ≡ firsts_in n (bits_of (body s))
  unfolding laid
  firsts_in_slots slots e = ap (take n) e ∙ take_at (firsts_in n (bits_of (body s))) _ n length_firsts

  all_lawful : (m : ℕ) → lawful (first_frame_widths m) ≡ true
  unfolding lawful
  all_lawful zero = refl
  all_lawful (suc m) = all_lawful m

  pub firsts_taken : (count : ℕ) (ws : List ℕ) → count ≡ min n most_tasks → ws ≡ first_frame_widths most_tasks
      → taken_row (body s) 0 (take count ws) (replicate most_tasks 0) ≡ first_frames n s
  unfolding first_frames
  firsts_taken count ws c v =
      ap (λ (us : List ℕ). taken_row (body s) 0 us (replicate most_tasks 0)) (ap₂ take c v ∙ take_replicate (min n most_tasks) most_tasks 4 (min-le_right n most_tasks))

  -- of a script they are its first frames
  pub firsts_there : n ≤ most_tasks → well_made n s ≡ true → first_frames n s ≡ laid (firsts_in n (bits_of (body s))) (replicate most_tasks 0)
  unfolding first_frames taken_row row_has_slots row_there firsts_in
  firsts_there few w =
      let inside : 4 * n ≤ 8 * length (body s) = omega (arith, (made s n w).size, body_length s, width_is n (entry_count_in n (bits_of (body s)))) in
      ap (λ (k : ℕ). taken_row (body s) 0 (first_frame_widths k) (replicate most_tasks 0)) (min-eq_left few)
      ∙ ap (λ (b : Bool). cond b (laid (firsts_in n (bits_of (body s))) (replicate most_tasks 0)) (replicate most_tasks 0))
      (ap₂ ◌&&◌
      (ap₂ ◌&&◌ (all_lawful n) (le-leb (0 + total (first_frame_widths n)) (end_of (length (body s))) (omega (arith, firsts_width n))))
      (le-leb (length (first_frame_widths n)) 16 (omega (arith, length-replicate {A = ℕ} n 4))))
