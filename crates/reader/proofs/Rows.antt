-- The numbers of a record: how many there are, and which is which.
use mathlib.Core.Bool.{Bool, true, false}
use mathlib.Core.List.{List}
use mathlib.Core.Path.{◌≡◌, refl, sym, ap, ◌∙◌}
use Prim.Native.Nat.{ℕ, suc, ◌*◌, ◌≤◌, ◌<◌}
use native.Mathlib.Nat.{one-mul}
use native.Mathlib.Numerals.{add-one}
use native.Mathlib.Omega.{arith}
use lib.ListN.{length, get_or, take, get_or-replicate}
use lib.Seq.{get_or-take, length-take-le}
use Rattle.records.proofs.Parts.{take_replicate}
use Rattle.sheet.specs.Constants.{most_frames, time_width}
use Rattle.sheet.specs.Fields.{period_field, lock_field, frame_fields, frame_widths}
use Rattle.sheet.specs.Tasks.{in_slots, record_of}
use Rattle.sheet.specs.Layout.{task_from}
use Rattle.sheet.specs.declared.Task.{Task as Record}
use Rattle.sheet.proofs.Filled.{filled, all_filled}
use Rattle.sheet.proofs.Turns.{first_at, second_at}
use Rattle.sheet.proofs.RecordBits.{length_from, as_many_from}
use Rattle.reader.specs.Inside.Parts.{frame_slots, deadline_in}

-- frames that fit eight slots have fields that fit theirs, and some frame has some
pub fields_few : (own : Bool) (n : ℕ) → n ≤ most_frames → frame_fields own * n ≤ frame_slots
fields_few false n h = omega arith
fields_few true n h = omega arith

pub some_fields : (own : Bool) (n : ℕ) → 1 ≤ n → 1 ≤ frame_fields own * n * time_width
some_fields false n h = omega arith
some_fields true n h = omega arith

-- the widths of n frames are the first of those of eight
pub frames_first : (own : Bool) (n m : ℕ) (ws : List ℕ) → n ≤ most_frames → m ≡ frame_fields own → ws ≡ frame_widths true most_frames → take (m * n) ws ≡ frame_widths own n
frames_first own n m ws h e f = rw (e, f) (take_replicate (frame_fields own * n) frame_slots time_width (fields_few own n h))

-- ---- the task of the numbers

module _ (own : Bool) (fixed row : List ℕ) (count : ℕ) (room : length row ≡ frame_slots) (few : count ≤ most_frames) where
  used : List ℕ
  used = take (frame_fields own * count) row

  used_long : length used ≡ frame_fields own * count
  unfolding used
  used_long = length-take-le (frame_fields own * count) row (omega (arith, fields_few own count few))

  pub frames_many : length (task_from own fixed (take (frame_fields own * count) row)).frames ≡ count
  unfolding used
  frames_many = length_from own count fixed used used_long

  pub deadlines_many : length (task_from own fixed (take (frame_fields own * count) row)).deadlines ≡ count
  unfolding used
  deadlines_many = as_many_from own fixed used ∙ frames_many

-- frame k's time and deadline
pub time_at : (own : Bool) (fixed row : List ℕ) (count k : ℕ) → length row ≡ frame_slots → count ≤ most_frames → k < count
    → get_or row (frame_fields own * k) 0 ≡ get_or (task_from own fixed (take (frame_fields own * count) row)).frames k 0
unfolding task_from
time_at false fixed row count k room few h =
    let one : 1 * k ≡ k = one-mul k in
    rw one (sym (get_or-take (1 * count) row k 0 (omega arith)))
time_at true fixed row count k room few h =
    sym (first_at (take (2 * count) row) k (rw (frames_many true fixed row count room few) h) ∙ get_or-take (2 * count) row (2 * k) 0 (omega arith))

pub deadline_at : (own : Bool) (fixed row : List ℕ) (count k : ℕ) → length row ≡ frame_slots → count ≤ most_frames → k < count
    → deadline_in own fixed row k ≡ get_or (task_from own fixed (take (frame_fields own * count) row)).deadlines k 0
unfolding task_from deadline_in
deadline_at false fixed row count k room few h =
    sym (get_or-replicate (length (take (1 * count) row)) k _ 0 (rw (frames_many false fixed row count room few) h))
deadline_at true fixed row count k room few h =
    ap (λ (n : ℕ). get_or row n 0) (add-one (2 * k))
    ∙ sym (second_at (take (2 * count) row) k (rw (frames_many true fixed row count room few) h) ∙ get_or-take (2 * count) row (suc (2 * k)) 0 (omega arith))

-- the record that was filled
module _ (own : Bool) (numbers row : List ℕ) (count : ℕ) (room : length row ≡ frame_slots) (few : count ≤ most_frames) where
  lock_from : (at : ℕ) → at ≡ lock_field own → get_or numbers at 0 ≡ (task_from own numbers (take (frame_fields own * count) row)).lock
  unfolding task_from
  lock_from at e = ap (λ (n : ℕ). get_or numbers n 0) e ∙ by_form own
    where
      by_form : (b : Bool) → get_or numbers (lock_field b) 0 ≡ (task_from b numbers (take (frame_fields own * count) row)).lock
      by_form false = refl
      by_form true = refl

  period_from : get_or numbers period_field 0 ≡ (task_from own numbers (take (frame_fields own * count) row)).period
  unfolding task_from
  period_from = by_form own
    where
      by_form : (b : Bool) → get_or numbers period_field 0 ≡ (task_from b numbers (take (frame_fields own * count) row)).period
      by_form false = refl
      by_form true = refl

  pub task_made : (at : ℕ) (frames deadlines : List ℕ) (k : ℕ) → count ≡ k
      → frames ≡ filled most_frames 0 (task_from own numbers (take (frame_fields own * count) row)).frames k → deadlines ≡ filled most_frames 0 (task_from own numbers (take (frame_fields own * count) row)).deadlines k → at ≡ lock_field own
      → ◌≡◌ {A = Record} (record { period = get_or numbers period_field 0; lock = get_or numbers at 0; frame_count = count; frames = frames; deadlines = deadlines }) (record_of (task_from own numbers (take (frame_fields own * count) row)))
  unfolding record_of in_slots
  task_made at frames deadlines k e ef ed el =
      let fs = ef ∙ all_filled most_frames 0 (task_from own numbers (take (frame_fields own * count) row)).frames k (frames_many own numbers row count room few ∙ e) in
      let ds = ed ∙ all_filled most_frames 0 (task_from own numbers (take (frame_fields own * count) row)).deadlines k (deadlines_many own numbers row count room few ∙ e) in
      let n = sym (frames_many own numbers row count room few) in
      let q = lock_from at el in
      λ j. record { period = period_from j; lock = q j; frame_count = n j; frames = fs j; deadlines = ds j }
