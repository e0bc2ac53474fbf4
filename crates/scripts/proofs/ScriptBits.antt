-- The parts of a script in bits, both ways: what was written is found where the layout says, and what is found writes to the same bits.
use mathlib.Core.Bool.{Bool}
use mathlib.Core.List.{List, [], ◌∷◌, ◌++◌, append_assoc}
use mathlib.Core.Path.{◌≡◌, refl, sym, ap, ap₂, ◌∙◌}
use Prim.Native.Nat.{ℕ, zero, suc, ◌+◌, ◌*◌, ◌^◌, ◌≤◌, ◌<◌}
use native.Mathlib.Nat.{suc-mul}
use native.Mathlib.Omega.{arith}
use lib.ListN.{length, get_or, take, drop, replicate, length-append, length-drop, length-replicate, get_or-replicate}
use lib.Seq.{drop_at, take-add}
use Rattle.bits.specs.Packed.{field}
use Rattle.records.specs.Rows.{packed, unpacked, total}
use Rattle.records.proofs.Packing.{Fit, no_field, one_more, length_packed, unpacked_packed, packed_unpacked, value_taken, number_in}
use Rattle.plays.specs.Script.{no_entry}
use Rattle.plays.specs.declared.Entry.{Entry}
use Rattle.scripts.specs.Format.{first_frame_width, first_frame_widths, entry_widths}
use Rattle.scripts.specs.Reading.{firsts_in, entry_with, entry_at_start, entries_in}
use Rattle.scripts.specs.Writing.{entry_numbers, entries_bits, EntryFits}

-- numbers in fields of one width
pub fit_alike : (w : ℕ) (vs : List ℕ) → ((i : ℕ) → i < length vs → get_or vs i 0 < 2 ^ w) → Fit (replicate (length vs) w) vs
fit_alike w [] h = no_field
fit_alike w (v ∷ vs) h = one_more (h 0 (omega arith)) (fit_alike w vs (λ i l. h (suc i) (omega arith)))

-- a first frame that was found fits
pub first_found_fits : (n : ℕ) (bits : List Bool) (i : ℕ) → i < n → get_or (firsts_in n bits) i 0 < 2 ^ first_frame_width
unfolding firsts_in field
first_found_fits n bits i h =
    rw (number_in (first_frame_widths n) bits i (omega (arith, length-replicate {A = ℕ} n 4)), get_or-replicate {A = ℕ} n i 4 0 h)
    (value_taken 4 (drop (total (take i (first_frame_widths n))) bits))

-- ---- one entry

module _ (e : Entry) where
  pub fit_entry : EntryFits e → Fit entry_widths (entry_numbers e)
  fit_entry f =
      let task : e.task < 2 ^ 4 = omega (arith, f.task_fits) in
      let tick : e.tick < 2 ^ 20 = omega (arith, f.tick_fits) in
      let work : e.work < 2 ^ 20 = omega (arith, f.work_fits) in
      let lock : e.lock < 2 ^ 20 = omega (arith, f.lock_fits) in
      one_more task (one_more tick (one_more work (one_more lock no_field)))

  pub length_entry : length (packed entry_widths (entry_numbers e)) ≡ total entry_widths
  length_entry = length_packed entry_widths (entry_numbers e) refl

  entry_written : EntryFits e → (rest : List Bool) → entry_at_start (packed entry_widths (entry_numbers e) ++ rest) ≡ e
  unfolding entry_at_start entry_with
  entry_written f rest = ap entry_with (unpacked_packed (fit_entry f) rest)

-- the numbers of an entry that was found fit, and write to the bits that they were in
pub entry_found_fits : (bits : List Bool) → EntryFits (entry_at_start bits)
unfolding entry_at_start entry_with unpacked
entry_found_fits bits =
    record {
      task_fits = value_taken 4 bits;
      tick_fits = omega (arith, value_taken 20 (drop 4 bits));
      work_fits = omega (arith, value_taken 20 (drop 20 (drop 4 bits)));
      lock_fits = omega (arith, value_taken 20 (drop 20 (drop 20 (drop 4 bits))));
    }

entry_read : (bits : List Bool) → total entry_widths ≤ length bits → packed entry_widths (entry_numbers (entry_at_start bits)) ≡ take (total entry_widths) bits
unfolding entry_at_start entry_with unpacked
entry_read bits h = packed_unpacked entry_widths bits h

-- ---- entries one behind the other

pub length_entries_bits : (es : List Entry) → length (entries_bits es) ≡ length es * total entry_widths
unfolding entries_bits
length_entries_bits [] = omega arith
length_entries_bits (e ∷ es) =
    length-append (packed entry_widths (entry_numbers e)) (entries_bits es)
    ∙ ap₂ ◌+◌ (length_entry e) (length_entries_bits es)
    ∙ omega (arith, suc-mul (length es) (total entry_widths))

pub entries_written : (es : List Entry) → ((j : ℕ) → j < length es → EntryFits (get_or es j no_entry)) → (rest : List Bool)
    → entries_in (length es) (entries_bits es ++ rest) ≡ es
unfolding entries_in entries_bits
entries_written [] f rest = refl
entries_written (e ∷ es) f rest =
    let one = packed entry_widths (entry_numbers e) in
    ap (λ (bs : List Bool). entry_at_start bs ∷ entries_in (length es) (drop (total entry_widths) bs)) (append_assoc one (entries_bits es) rest)
    ∙ ap₂ ◌∷◌
    (entry_written e (f 0 (omega arith)) (entries_bits es ++ rest))
    (ap (entries_in (length es)) (drop_at one (entries_bits es ++ rest) (total entry_widths) (length_entry e))
    ∙ entries_written es (λ j h. f (suc j) (omega arith)) rest)

pub entries_read : (m : ℕ) (bits : List Bool) → m * total entry_widths ≤ length bits → entries_bits (entries_in m bits) ≡ take (m * total entry_widths) bits
unfolding entries_in entries_bits
entries_read zero bits h = let none : 0 ≡ 0 * total entry_widths = omega arith in ap (λ (k : ℕ). take k bits) none
entries_read (suc m) bits h =
    let w = total entry_widths in
    let more = suc-mul m w in
    let widths : w + m * w ≡ suc m * w = omega arith in
    ap₂ ◌++◌ (entry_read bits (omega arith)) (entries_read m (drop w bits) (rw (length-drop w bits) (omega arith)))
    ∙ sym (take-add w (m * w) bits)
    ∙ ap (λ (k : ℕ). take k bits) widths
