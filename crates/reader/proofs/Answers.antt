-- The returns of the reader's parts, one law for each, by the tests that lead there.
use Rattle.std.specs.Prelude.{Err, None, Ok, Result, Some, cond}
use mathlib.Core.Bool.{Bool, true, false, not}
use mathlib.Core.List.{List, [], ◌∷◌, ◌++◌}
use mathlib.Core.Path.{◌≡◌, refl, sym, ap, ap₂, ◌∙◌}
use Prim.Native.Nat.{ℕ, ◌+◌, ◌-◌, ◌*◌, ◌≤◌, ◌<◌}
use native.Mathlib.Nat.{add_assoc}
use native.Mathlib.Omega.{arith}
use borrow.Author.Tests.{lt-ltb, le-ltb, eq-eqb, ne_eqb}
use lib.Dec.{ltb, eqb, lit≤}
use lib.ListN.{length, get_or, take, drop, replicate, length-drop, length-replicate}
use lib.Seq.{drop-drop, take_at}
use Rattle.bits.specs.Packed.{bits_of}
use Rattle.bits.proofs.Laws.{length_bits}
use Rattle.lent.specs.Checks.{Check, ◌⇒◌}
use Rattle.lent.specs.Lent.{laid}
use Rattle.records.specs.Rows.{unpacked, total}
use Rattle.records.specs.Faces.{last_position, lawful, ends, row_has_slots, taken_row}
use Rattle.records.proofs.Looking.{row_found, row_missing, row_numbers}
use Rattle.records.proofs.Parts.{laid_whole}
use Rattle.records.proofs.Packing.{length_unpacked, total_replicate}
use Rattle.sheet.specs.Constants.{fixed_room, time_width, most_tasks, most_frames, greatest_size}
use Rattle.sheet.specs.Fields.{header_widths, version_field, policy_field, task_count_field, spare_field}
use Rattle.sheet.specs.Fields.{own_deadlines, fixed_widths, frame_count_field, frame_fields, frame_widths}
use Rattle.sheet.specs.Tasks.{record_of}
use Rattle.sheet.specs.Layout.{header_in, behind_header, frame_count_in, record_width, task_from, task_at_start}
use Rattle.sheet.specs.Admission.{decided, known_policy, miscounted, policy_check, task_count_check, frame_count_check}
use Rattle.sheet.specs.Reading.{layout_checks, version_among, reading_of}
use Rattle.sheet.proofs.Checks.{applies, passed_over, no_check}
use Rattle.sheet.proofs.Counts.{count_passed}
use Rattle.sheet.proofs.Turns.{length_frame_widths}
use Rattle.sheet.proofs.Lawful.{header_lawful, fixed_lawful, frames_lawful, some_header, some_fixed}
use Rattle.sheet.specs.declared.Refusal.{Refusal}
use Rattle.sheet.specs.declared.Refusal.TheVariants.{Version, Policy, BitSet, TaskCount, FrameCount, Records}
use Rattle.reader.specs.Inside.Parts.{row_at, frame_slots, record_checks, found_by, found_at, records_reading, body_checks, set_in, body_reading}
use Rattle.reader.specs.declared.Found.{Found}
use Rattle.reader.specs.declared.Row.{Row}
use Rattle.sheet.specs.declared.Task.{Task as Record}
use Rattle.reader.proofs.Rows.{fields_few, some_fields}

-- ---- one record, over the bits that it is looked for in

module _ (own : Bool) (i at : ℕ) (bs : List Bool) where
  from_frames : List (Check Refusal)
  from_frames = (ltb (length bs) (record_width own bs) ⇒ Records) ∷ []

  from_frame_count : List (Check Refusal)
  from_frame_count = frame_count_check i (frame_count_in own bs) ∷ from_frames

  not_found_by : (why : Refusal) → decided (record_checks own i bs) ≡ Err why → Err why ≡ found_at own i at bs
  unfolding found_at found_by
  not_found_by why e = sym (ap (λ (a : Result Unit Refusal). found_by own a at bs) e)

  fixed_bits_missing : length bs < total (fixed_widths own) → Err Records ≡ found_at own i at bs
  unfolding record_checks
  fixed_bits_missing h = not_found_by Records (applies _ Records _ (lt-ltb (length bs) (total (fixed_widths own)) h))

  module _ (h : total (fixed_widths own) ≤ length bs) where
    to_frame_count : decided (record_checks own i bs) ≡ decided from_frame_count
    unfolding record_checks from_frame_count from_frames
    to_frame_count = passed_over _ Records _ (le-ltb (length bs) (total (fixed_widths own)) h)

    count_wrong : miscounted (frame_count_in own bs) most_frames ≡ true → Err (FrameCount i) ≡ found_at own i at bs
    unfolding frame_count_check from_frame_count
    count_wrong f = not_found_by (FrameCount i) (to_frame_count ∙ applies _ (FrameCount i) _ f)

    module _ (f : miscounted (frame_count_in own bs) most_frames ≡ false) where
      to_frames : decided (record_checks own i bs) ≡ decided from_frames
      unfolding frame_count_check from_frame_count
      to_frames = to_frame_count ∙ passed_over _ (FrameCount i) _ f

      frame_bits_missing : length bs < record_width own bs → Err Records ≡ found_at own i at bs
      unfolding from_frames
      frame_bits_missing g = not_found_by Records (to_frames ∙ applies _ Records [] (lt-ltb (length bs) (record_width own bs) g))

      all_there : record_width own bs ≤ length bs → found_by own (Ok tt) at bs ≡ found_at own i at bs
      unfolding from_frames found_at
      all_there g =
          sym (ap (λ (a : Result Unit Refusal). found_by own a at bs) (to_frames ∙ passed_over _ Records [] (le-ltb (length bs) (record_width own bs) g) ∙ no_check))

-- ---- a row of fields

module _ (n : ℕ) (s : List ℕ) (at : ℕ) (ws : List ℕ) (widths : lawful ws ≡ true) (near : 8 * length s ≤ last_position) (slots : length ws ≤ n) (some : 1 ≤ total ws) where
  abbrev blank : List ℕ
  blank = replicate n 0

  room : length ws ≤ length blank
  room = rw (length-replicate {A = ℕ} n 0) slots

  has : (b : Bool) → row_has_slots (length s) at ws n ≡ b → row_has_slots (length s) at ws (length blank) ≡ b
  has b e = rw (length-replicate {A = ℕ} n 0) e

  -- a row that is not there
  row_none : (why : Refusal) → row_at n s at ws ≡ Err why → (why ≡ Records) × (length (drop at (bits_of s)) < total ws)
  unfolding row_at
  row_none why e = go (row_has_slots (length s) at ws n) refl e
    where
      go : (b : Bool) → row_has_slots (length s) at ws n ≡ b
          → ◌≡◌ {A = Result (Row n) Refusal} (cond b (Ok (record { numbers = taken_row s at ws (replicate n 0); end = at + total ws })) (Err Records)) (Err why)
          → (why ≡ Records) × (length (drop at (bits_of s)) < total ws)
      go true eb f = let z : ⊥ = cc in absurd z
      go false eb f = (cc, row_missing s at ws blank widths near room some None (sym (ap (λ (b : Bool). ends b at ws) (has false eb))) refl)

  -- and one that is there
  pub record There (r : Row n) : Type 0 where
    pub whole : total ws ≤ length (drop at (bits_of s))
    pub behind : r.end ≡ at + total ws
    pub numbers : r.numbers ≡ laid (unpacked ws (drop at (bits_of s))) (replicate n 0)

  row_some : (r : Row n) → row_at n s at ws ≡ Ok r → There r
  unfolding row_at
  row_some r e = go (row_has_slots (length s) at ws n) refl e
    where
      go : (b : Bool) → row_has_slots (length s) at ws n ≡ b
          → ◌≡◌ {A = Result (Row n) Refusal} (cond b (Ok (record { numbers = taken_row s at ws (replicate n 0); end = at + total ws })) (Err Records)) (Ok r)
          → There r
      go false eb f = let z : ⊥ = cc in absurd z
      go true eb f =
          let is : ◌≡◌ {A = Row n} (record { numbers = taken_row s at ws (replicate n 0); end = at + total ws }) r = cc in
          let found = row_found s at ws blank widths near room some (Some (at + total ws)) (sym (ap (λ (b : Bool). ends b at ws) (has true eb))) (at + total ws) refl in
          record {
            whole = found.0;
            behind = sym (ap (λ (x : Row n). x.end) is);
            numbers = sym (ap (λ (x : Row n). x.numbers) is) ∙ row_numbers s at ws blank widths near room some found.0;
          }

-- ---- one record, by the rows that were taken

pub near : (s : List ℕ) → length s ≤ greatest_size → 8 * length s ≤ last_position
near s h = omega arith

fixed_enough : (own : Bool) → length (fixed_widths own) ≤ fixed_room
fixed_enough false = lit≤ tt
fixed_enough true = lit≤ tt

-- a record's task depends on the fields of its fixed part alone
task_from_first : (own : Bool) (bits : List Bool) (rest row : List ℕ) → task_from own (unpacked (fixed_widths own) bits ++ rest) row ≡ task_from own (unpacked (fixed_widths own) bits) row
unfolding task_from unpacked
task_from_first false bits rest row = refl
task_from_first true bits rest row = refl

count_first : (own : Bool) (bits : List Bool) (rest : List ℕ) → get_or (unpacked (fixed_widths own) bits ++ rest) (frame_count_field own) 0 ≡ frame_count_in own bits
unfolding frame_count_in unpacked
count_first false bits rest = refl
count_first true bits rest = refl

module _ (s : List ℕ) (small : length s ≤ greatest_size) (own : Bool) (i at : ℕ) where
  -- the bits that the record is looked for in
  abbrev bits : List Bool
  bits = drop at (bits_of s)

  pub fixed_missing : (why : Refusal) → row_at fixed_room s at (fixed_widths own) ≡ Err why → Err why ≡ found_at own i at bits
  fixed_missing why u =
      let no = row_none fixed_room s at (fixed_widths own) (fixed_lawful own) (near s small) (fixed_enough own) (some_fixed own) why u in
      rw no.0 (fixed_bits_missing own i at bits no.1)

  module _ (fixed : Row fixed_room) (ef : row_at fixed_room s at (fixed_widths own) ≡ Ok fixed) where
    fixed_there : There fixed_room s at (fixed_widths own) (fixed_lawful own) (near s small) (fixed_enough own) (some_fixed own) fixed
    fixed_there = row_some fixed_room s at (fixed_widths own) (fixed_lawful own) (near s small) (fixed_enough own) (some_fixed own) fixed ef

    behind_numbers : List ℕ
    behind_numbers = drop (length (unpacked (fixed_widths own) bits)) (replicate fixed_room 0)

    numbers_are : fixed.numbers ≡ unpacked (fixed_widths own) bits ++ behind_numbers
    unfolding laid behind_numbers
    numbers_are = fixed_there.numbers

    module _ (count : ℕ) (ec : count ≡ get_or fixed.numbers (frame_count_field own) 0) where
      counts : count ≡ frame_count_in own bits
      counts = ec ∙ ap (λ (ns : List ℕ). get_or ns (frame_count_field own) 0) numbers_are ∙ count_first own bits behind_numbers

      pub frame_count_wrong : miscounted count most_frames ≡ true → Err (FrameCount i) ≡ found_at own i at bits
      frame_count_wrong f = count_wrong own i at bits fixed_there.whole (ap (λ (n : ℕ). miscounted n most_frames) (sym counts) ∙ f)

      module _ (f : miscounted count most_frames ≡ false) where
        counted : (1 ≤ count) × (count ≤ most_frames)
        counted = count_passed count most_frames f

        in_bits : miscounted (frame_count_in own bits) most_frames ≡ false
        in_bits = ap (λ (n : ℕ). miscounted n most_frames) (sym counts) ∙ f

        n : ℕ
        n = frame_count_in own bits

        start : ℕ
        start = at + total (fixed_widths own)

        row_is : row_at frame_slots s fixed.end (frame_widths own count) ≡ row_at frame_slots s start (frame_widths own n)
        unfolding n start
        row_is = ap₂ (λ (k m : ℕ). row_at frame_slots s k (frame_widths own m)) fixed_there.behind counts

        enough : length (frame_widths own n) ≤ frame_slots
        unfolding n
        enough = rw (length_frame_widths own n) (fields_few own n (omega (arith, counted.1, counts)))

        some_frames : 1 ≤ total (frame_widths own n)
        unfolding n
        some_frames = rw (total_replicate (frame_fields own * frame_count_in own bits) time_width) (some_fields own _ (omega (arith, counted.0, counts)))

        behind_fixed : drop start (bits_of s) ≡ drop (total (fixed_widths own)) bits
        unfolding start
        behind_fixed = sym (drop-drop (total (fixed_widths own)) at (bits_of s))

        behind_long : length (drop start (bits_of s)) ≡ length bits - total (fixed_widths own)
        behind_long = ap length behind_fixed ∙ length-drop (total (fixed_widths own)) bits

        pub frames_missing : (why : Refusal) → row_at frame_slots s fixed.end (frame_widths own count) ≡ Err why → Err why ≡ found_at own i at bits
        unfolding record_width n
        frames_missing why u =
            let no = row_none frame_slots s start (frame_widths own n) (frames_lawful own n) (near s small) enough some_frames why (sym row_is ∙ u) in
            rw no.0 (frame_bits_missing own i at bits fixed_there.whole in_bits (omega (arith, no.1, behind_long, fixed_there.whole)))

        module _ (frames : Row frame_slots) (eq : row_at frame_slots s fixed.end (frame_widths own count) ≡ Ok frames) where
          frames_there : There frame_slots s start (frame_widths own n) (frames_lawful own n) (near s small) enough some_frames frames
          frames_there = row_some frame_slots s start (frame_widths own n) (frames_lawful own n) (near s small) enough some_frames frames (sym row_is ∙ eq)

          next_is : frames.end ≡ at + record_width own bits
          unfolding record_width n start
          next_is = frames_there.behind ∙ add_assoc at (total (fixed_widths own)) (total (frame_widths own (frame_count_in own bits)))

          row : List ℕ
          row = unpacked (frame_widths own n) (drop (total (fixed_widths own)) bits)

          row_long : length row ≡ frame_fields own * count
          unfolding row n
          row_long = length_unpacked (frame_widths own n) _ ∙ length_frame_widths own n ∙ ap (λ (m : ℕ). frame_fields own * m) (sym counts)

          -- the numbers in use are the row's
          row_taken : take (frame_fields own * count) frames.numbers ≡ row
          unfolding laid row
          row_taken =
              ap (take (frame_fields own * count))
              (frames_there.numbers ∙ ap (λ (bs : List Bool). laid (unpacked (frame_widths own n) bs) (replicate frame_slots 0)) behind_fixed)
              ∙ take_at row _ (frame_fields own * count) row_long

          whole : record_width own bits ≤ length bits
          unfolding record_width n
          whole = omega (arith, behind_long, fixed_there.whole, frames_there.whole)

          task_is : task_from own fixed.numbers (take (frame_fields own * count) frames.numbers) ≡ task_at_start own bits
          unfolding task_at_start row n
          task_is = ap₂ (task_from own) numbers_are row_taken ∙ task_from_first own bits behind_numbers row

          pub record_there : (task : Record) → task ≡ record_of (task_from own fixed.numbers (take (frame_fields own * count) frames.numbers))
              → ◌≡◌ {A = Result Found Refusal} (Ok (record { task = task; next = frames.end })) (found_at own i at bits)
          unfolding found_by
          record_there task et =
              let same = et ∙ ap record_of task_is in
              (λ k. Ok (record { task = same k; next = next_is k }))
              ∙ all_there own i at bits fixed_there.whole in_bits whole

-- ---- the header

module _ (bs : List Bool) where
  from_records : List (Check Refusal)
  from_records = layout_checks (own_deadlines (header_in bs).version) 0 (header_in bs).task_count (behind_header bs)

  from_task_count : List (Check Refusal)
  from_task_count = task_count_check (header_in bs).task_count ∷ from_records

  from_spare : List (Check Refusal)
  from_spare = (not (eqb (header_in bs).spare 0) ⇒ BitSet) ∷ from_task_count

  from_policy : List (Check Refusal)
  from_policy = policy_check (header_in bs).policy ∷ from_spare

  body_refused : (least most : ℕ) (why : Refusal) → decided (body_checks least most bs) ≡ Err why → Err why ≡ body_reading least most bs
  unfolding body_reading reading_of
  body_refused least most why e = sym (ap (λ (a : Result Unit Refusal). reading_of a (header_in bs).version (set_in bs)) e)

-- by the row that was taken
module _ (least most : ℕ) (s : List ℕ) (small : length s ≤ greatest_size) (long : total header_widths ≤ 8 * length s) where
  -- the header is there
  pub header_missing : (why : Refusal) → row_at fixed_room s 0 header_widths ≡ Err why → ⊥
  header_missing why u =
      let no = row_none fixed_room s 0 header_widths header_lawful (near s small) (lit≤ tt) some_header why u in
      omega (arith, length_bits s, no.1)

  module _ (header : Row fixed_room) (eh : row_at fixed_room s 0 header_widths ≡ Ok header) where
    header_there : There fixed_room s 0 header_widths header_lawful (near s small) (lit≤ tt) some_header header
    header_there = row_some fixed_room s 0 header_widths header_lawful (near s small) (lit≤ tt) some_header header eh

    starts_at : header.end ≡ total header_widths
    starts_at = omega (arith, header_there.behind)

    numbers_are_header : header.numbers ≡ unpacked header_widths (bits_of s)
    numbers_are_header =
        header_there.numbers
        ∙ laid_whole (unpacked header_widths (bits_of s)) (replicate fixed_room 0) (sym (length_unpacked header_widths (bits_of s)))

    version_is : get_or header.numbers version_field 0 ≡ (header_in (bits_of s)).version
    unfolding header_in
    version_is = ap (λ (ns : List ℕ). get_or ns version_field 0) numbers_are_header

    policy_is : get_or header.numbers policy_field 0 ≡ (header_in (bits_of s)).policy
    unfolding header_in
    policy_is = ap (λ (ns : List ℕ). get_or ns policy_field 0) numbers_are_header

    task_count_is : get_or header.numbers task_count_field 0 ≡ (header_in (bits_of s)).task_count
    unfolding header_in
    task_count_is = ap (λ (ns : List ℕ). get_or ns task_count_field 0) numbers_are_header

    spare_is : get_or header.numbers spare_field 0 ≡ (header_in (bits_of s)).spare
    unfolding header_in
    spare_is = ap (λ (ns : List ℕ). get_or ns spare_field 0) numbers_are_header

    pub version_wrong : version_among least most (get_or header.numbers version_field 0) ≡ false → Err Version ≡ body_reading least most (bits_of s)
    unfolding body_checks
    version_wrong f =
        body_refused (bits_of s) least most Version
        (applies _ Version _ (ap (λ (v : ℕ). not (version_among least most v)) (sym version_is) ∙ ap not f))

    module _ (v : version_among least most (get_or header.numbers version_field 0) ≡ true) where
      to_policy : decided (body_checks least most (bits_of s)) ≡ decided (from_policy (bits_of s))
      unfolding body_checks from_policy from_spare from_task_count from_records
      to_policy = passed_over _ Version _ (ap (λ (x : ℕ). not (version_among least most x)) (sym version_is) ∙ ap not v)

      pub policy_wrong : known_policy (get_or header.numbers policy_field 0) ≡ false → Err Policy ≡ body_reading least most (bits_of s)
      unfolding from_policy policy_check
      policy_wrong e = body_refused (bits_of s) least most Policy (to_policy ∙ applies _ Policy _ (ap (λ (p : ℕ). not (known_policy p)) (sym policy_is) ∙ ap not e))

      module _ (p : known_policy (get_or header.numbers policy_field 0) ≡ true) where
        to_spare : decided (body_checks least most (bits_of s)) ≡ decided (from_spare (bits_of s))
        unfolding from_policy policy_check
        to_spare = to_policy ∙ passed_over _ Policy _ (ap (λ (p : ℕ). not (known_policy p)) (sym policy_is) ∙ ap not p)

        pub spare_set : (get_or header.numbers spare_field 0 ≡ 0 → ⊥) → Err BitSet ≡ body_reading least most (bits_of s)
        unfolding from_spare
        spare_set f = body_refused (bits_of s) least most BitSet (to_spare ∙ applies _ BitSet _ (ap not (ne_eqb _ 0 (λ e. f (spare_is ∙ e)))))

        module _ (z : get_or header.numbers spare_field 0 ≡ 0) where
          to_task_count : decided (body_checks least most (bits_of s)) ≡ decided (from_task_count (bits_of s))
          unfolding from_spare
          to_task_count = to_spare ∙ passed_over _ BitSet _ (ap not (eq-eqb _ 0 (sym spare_is ∙ z)))

          pub task_count_wrong : miscounted (get_or header.numbers task_count_field 0) most_tasks ≡ true → Err TaskCount ≡ body_reading least most (bits_of s)
          unfolding from_task_count task_count_check
          task_count_wrong f =
              body_refused (bits_of s) least most TaskCount (to_task_count ∙ applies _ TaskCount _ (ap (λ (n : ℕ). miscounted n most_tasks) (sym task_count_is) ∙ f))

          pub header_right : miscounted (get_or header.numbers task_count_field 0) most_tasks ≡ false
              → records_reading (get_or header.numbers version_field 0) (get_or header.numbers policy_field 0) (get_or header.numbers task_count_field 0) (drop header.end (bits_of s))
              ≡ body_reading least most (bits_of s)
          unfolding from_task_count from_records task_count_check records_reading body_reading set_in behind_header
          header_right f =
              ap₂ (λ (v k : ℕ). records_reading v (get_or header.numbers policy_field 0) (get_or header.numbers task_count_field 0) (drop k (bits_of s))) version_is starts_at
              ∙ ap₂ (λ (p n : ℕ). records_reading (header_in (bits_of s)).version p n (behind_header (bits_of s))) policy_is task_count_is
              ∙ ap (λ (a : Result Unit Refusal). reading_of a (header_in (bits_of s)).version (set_in (bits_of s)))
              (sym (to_task_count ∙ passed_over _ TaskCount _ (ap (λ (n : ℕ). miscounted n most_tasks) (sym task_count_is) ∙ f)))
