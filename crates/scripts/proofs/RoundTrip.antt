-- A script that was written is read back, one that was read writes to the same bytes, and the numbers of every script fit their fields.
use mathlib.Core.Bool.{Bool, true, false, not, ◌&&◌}
use mathlib.Core.List.{List, [], ◌∷◌, ◌++◌, append_assoc}
use mathlib.Core.Path.{◌≡◌, refl, sym, ap, ap₂, ◌∙◌}
use Prim.Native.Nat.{ℕ, ◌+◌, ◌-◌, ◌*◌, ◌≤◌, ◌<◌}
use native.Mathlib.Omega.{arith}
use borrow.Author.Tests.{le-leb, eq-eqb}
use lib.ListN.{length, get_or, take, drop, replicate, length-append, length-drop, take-append-drop}
use lib.Seq.{drop_at, drop-drop, take-add}
use Rattle.bits.specs.Packed.{Bytes, bits_of}
use Rattle.bits.proofs.Laws.{bytes_take}
use Rattle.check_word.specs.Division.{seal, body, sealed}
use Rattle.check_word.proofs.Sealing.{sealed_seal, seal_body}
use Rattle.records.specs.Rows.{packed, unpacked, total}
use Rattle.records.specs.Sealed.{sealed_size, sealed_record, whole_bytes, some_set}
use Rattle.records.proofs.Filling.{fill_of, length_sealed, whole_of, zeros_unset, unset_zeros}
use Rattle.records.proofs.Packing.{Fit, no_field, one_more, fit_length, length_packed, unpacked_packed, packed_unpacked}
use Rattle.records.proofs.RoundTrip.{sealed_bits}
use Rattle.plays.specs.Script.{Script}
use Rattle.scripts.specs.Format.{first_frame_widths, count_widths, entry_widths, script_width}
use Rattle.scripts.specs.Reading.{firsts_in, entry_count_in, entries_in, script_in, there, well_made}
use Rattle.scripts.specs.Writing.{entries_bits, script_bits, script_of, Fits}
use Rattle.scripts.proofs.Widths.{firsts_width, width_is, width_before, width_at, body_bits}
use Rattle.scripts.proofs.Made.{made, count_small}
use Rattle.scripts.proofs.Entries.{length_entries, entry_in, length_firsts}
use Rattle.scripts.proofs.ScriptBits.{fit_alike, first_found_fits, entry_found_fits, length_entries_bits, entries_written, entries_read}

-- ---- a script first

module _ (n : ℕ) (sc : Script) (f : Fits n sc) where
  abbrev m : ℕ
  m = length sc.entries

  abbrev frames : List Bool
  frames = packed (first_frame_widths n) sc.firsts

  abbrev count : List Bool
  count = packed count_widths (m ∷ [])

  abbrev releases : List Bool
  releases = entries_bits sc.entries

  frames_fit : Fit (first_frame_widths n) sc.firsts
  frames_fit = rw f.as_many at (fit_alike 4 sc.firsts (λ i h. f.firsts_fit i (rw f.as_many at h)))

  frames_long : length frames ≡ total (first_frame_widths n)
  frames_long = length_packed (first_frame_widths n) sc.firsts (fit_length frames_fit)

  count_long : length count ≡ total count_widths
  count_long = length_packed count_widths (m ∷ []) refl

  bits_are : script_bits sc ≡ (frames ++ count) ++ releases
  unfolding script_bits
  bits_are = rw f.as_many

  -- a script has the bits of its parts
  pub script_long : length (script_bits sc) ≡ script_width n m
  unfolding script_width
  script_long =
      ap length bits_are
      ∙ length-append (frames ++ count) releases
      ∙ ap₂ ◌+◌ (length-append frames count ∙ ap₂ ◌+◌ frames_long count_long) (length_entries_bits sc.entries)

  fill : List Bool
  fill = replicate (fill_of (script_bits sc)) false

  written : List ℕ
  written = script_of sc

  -- the bits before the check word, part by part
  behind_count : List Bool
  behind_count = releases ++ fill

  behind_frames : List Bool
  behind_frames = count ++ behind_count

  body_is : bits_of (body written) ≡ script_bits sc ++ fill
  unfolding written script_of fill
  body_is = sealed_bits (script_bits sc)

  parts : bits_of (body written) ≡ frames ++ behind_frames
  unfolding behind_frames behind_count
  parts =
      body_is
      ∙ ap (λ (bs : List Bool). bs ++ fill) bits_are
      ∙ append_assoc (frames ++ count) releases fill
      ∙ append_assoc frames count (releases ++ fill)

  firsts_read : firsts_in n (bits_of (body written)) ≡ sc.firsts
  unfolding firsts_in
  firsts_read = ap (unpacked (first_frame_widths n)) parts ∙ unpacked_packed frames_fit behind_frames

  from_count : drop (total (first_frame_widths n)) (bits_of (body written)) ≡ behind_frames
  from_count = ap (drop (total (first_frame_widths n))) parts ∙ drop_at frames behind_frames (total (first_frame_widths n)) frames_long

  count_read : entry_count_in n (bits_of (body written)) ≡ m
  unfolding entry_count_in behind_frames
  count_read =
      ap (λ (bs : List Bool). get_or (unpacked count_widths bs) 0 0) from_count
      ∙ ap (λ (vs : List ℕ). get_or vs 0 0) (unpacked_packed (one_more f.few_entries no_field) behind_count)

  from_entries : drop (script_width n 0) (bits_of (body written)) ≡ behind_count
  unfolding behind_frames
  from_entries =
      ap (λ (k : ℕ). drop k (bits_of (body written))) (sym (width_before n))
      ∙ sym (drop-drop (total count_widths) (total (first_frame_widths n)) (bits_of (body written)))
      ∙ ap (drop (total count_widths)) from_count
      ∙ drop_at count behind_count (total count_widths) count_long

  entries_back : entries_in (entry_count_in n (bits_of (body written))) (drop (script_width n 0) (bits_of (body written))) ≡ sc.entries
  unfolding behind_count
  entries_back = ap₂ entries_in count_read from_entries ∙ entries_written sc.entries f.entries_fit fill

  -- A script whose numbers fit their fields is read back from its bytes.
  pub script_reads_back : script_in n (script_of sc) ≡ sc
  unfolding script_in written
  script_reads_back = λ k. record { firsts = firsts_read k; entries = entries_back k }

  width_back : script_width n (entry_count_in n (bits_of (body written))) ≡ length (script_bits sc)
  width_back = ap (script_width n) count_read ∙ sym script_long

  rest_unset : some_set (drop (script_width n (entry_count_in n (bits_of (body written)))) (bits_of (body written))) ≡ false
  unfolding fill
  rest_unset =
      ap₂ (λ (k : ℕ) (bs : List Bool). some_set (drop k bs)) width_back body_is
      ∙ ap some_set (drop_at (script_bits sc) fill (length (script_bits sc)) refl)
      ∙ zeros_unset (fill_of (script_bits sc))

  long_enough : script_width n 0 ≤ length (bits_of (body written))
  long_enough =
      omega (arith, ap length body_is, length-append (script_bits sc) fill, script_long, width_is n 0, width_is n m)

  size : length written ≡ sealed_size (script_width n (entry_count_in n (bits_of (body written))))
  unfolding written script_of
  size = length_sealed (script_bits sc) ∙ ap sealed_size (sym width_back)

  is_sealed : sealed written ≡ true
  unfolding written script_of sealed_record
  is_sealed = sealed_seal (whole_bytes (script_bits sc))

  -- Those bytes are made as a script of so many tasks is.
  pub script_is_well_made : well_made n (script_of sc) ≡ true
  unfolding well_made there written
  script_is_well_made =
      ap₂ ◌&&◌
      (ap₂ ◌&&◌ (ap₂ ◌&&◌ (le-leb (script_width n 0) (length (bits_of (body written))) long_enough) (eq-eqb (length written) _ size)) is_sealed)
      (ap not rest_unset)

-- ---- bytes first

-- The numbers of what a byte string says as a script fit their fields.
pub numbers_fit : (n : ℕ) (s : List ℕ) → Fits n (script_in n s)
unfolding script_in
numbers_fit n s =
    let bits = bits_of (body s) in
    let m = entry_count_in n bits in
    record {
      as_many = length_firsts n s;
      firsts_fit = first_found_fits n bits;
      few_entries = rw (length_entries m (drop (script_width n 0) bits)) (count_small n bits);
      entries_fit = λ j h. let in_count : j < m = rw (length_entries m (drop (script_width n 0) bits)) at h in
          rw (entry_in m j (drop (script_width n 0) bits) in_count) (entry_found_fits _);
    }

module _ (n : ℕ) (s : List ℕ) (bytes : Bytes s) (w : well_made n s ≡ true) where
  abbrev bits : List Bool
  bits = bits_of (body s)

  abbrev entries : ℕ
  entries = entry_count_in n bits

  all_there : script_width n entries ≤ length bits
  all_there = omega (arith, (made s n w).size, body_bits s)

  frames_bits : packed (first_frame_widths (length (firsts_in n bits))) (firsts_in n bits) ≡ take (total (first_frame_widths n)) bits
  unfolding firsts_in
  frames_bits =
      ap (λ (k : ℕ). packed (first_frame_widths k) (firsts_in n bits)) (length_firsts n s)
      ∙ packed_unpacked (first_frame_widths n) bits (omega (arith, all_there, firsts_width n, width_is n entries))

  count_bits : packed count_widths (entries ∷ []) ≡ take (total count_widths) (drop (total (first_frame_widths n)) bits)
  unfolding entry_count_in unpacked
  count_bits =
      packed_unpacked count_widths (drop (total (first_frame_widths n)) bits)
      (rw (length-drop (total (first_frame_widths n)) bits) (omega (arith, all_there, width_before n, width_is n 0, width_is n entries)))

  entries_room : entries * total entry_widths ≤ length (drop (script_width n 0) bits)
  entries_room = rw (length-drop (script_width n 0) bits) (omega (arith, all_there, width_at n entries))

  written_bits : script_bits (script_in n s) ≡ take (script_width n entries) bits
  unfolding script_bits script_in
  written_bits =
      ap₂ ◌++◌
      (ap₂ ◌++◌ frames_bits (ap (λ (k : ℕ). packed count_widths (k ∷ [])) (length_entries entries (drop (script_width n 0) bits)) ∙ count_bits)
      ∙ sym (take-add (total (first_frame_widths n)) (total count_widths) bits)
      ∙ ap (λ (k : ℕ). take k bits) (width_before n))
      (entries_read entries (drop (script_width n 0) bits) entries_room)
      ∙ sym (take-add (script_width n 0) (entries * total entry_widths) bits)
      ∙ ap (λ (k : ℕ). take k bits) (width_at n entries)

  rest : List Bool
  rest = drop (script_width n entries) bits

  whole_bits : bits ≡ script_bits (script_in n s) ++ replicate (length rest) false
  unfolding rest
  whole_bits =
      sym (ap₂ ◌++◌ written_bits (sym (unset_zeros rest (made s n w).unset)) ∙ take-append-drop (script_width n entries) bits)

  short : length rest < 8
  unfolding rest
  short = rw (length-drop (script_width n entries) bits) (omega (arith, (made s n w).size, body_bits s))

  -- A byte string that is made as a script is the script of what it says.
  pub script_writes_back : script_of (script_in n s) ≡ s
  unfolding script_of sealed_record body
  script_writes_back =
      ap seal (whole_of (body s) (script_bits (script_in n s)) (length rest) (bytes_take (length s - 2) s bytes) short whole_bits)
      ∙ seal_body s bytes (made s n w).right
