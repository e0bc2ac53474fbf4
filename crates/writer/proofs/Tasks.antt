-- The fields of a task: its numbers fit them, and its bits are those of its two rows.
use mathlib.Core.Bool.{Bool, true, false}
use mathlib.Core.List.{List, ◌++◌}
use mathlib.Core.Path.{◌≡◌, refl, sym, ap, ap₂, ◌∙◌}
use Prim.Native.Nat.{ℕ, ◌+◌, ◌-◌, ◌*◌, ◌≤◌}
use native.Mathlib.Omega.{arith}
use borrow.Author.Tests.{leb-true}
use lib.ListN.{length, take, replicate, length-append}
use lib.Seq.{length-take-le, take_at}
use Rattle.records.specs.Rows.{packed, total}
use Rattle.records.specs.Faces.{last_position, end_of, row_fits, width_of}
use Rattle.records.specs.Inside.Steps.{Placed}
use Rattle.records.proofs.Packing.{total_replicate}
use Rattle.records.proofs.Parts.{take_replicate}
use Rattle.records.proofs.Placing.{placed_behind}
use Rattle.records.proofs.Putting.{row_can, room_behind}
use Rattle.sheet.specs.Constants.{time_width, fixed_room, most_frames, greatest_time}
use Rattle.sheet.specs.Fields.{fixed_widths, frame_fields, frame_widths}
use Rattle.sheet.specs.Tasks.{task_in}
use Rattle.sheet.specs.Admission.{in_range}
use Rattle.sheet.specs.Writing.{fixed_numbers, frame_numbers, task_bits}
use Rattle.sheet.specs.declared.Task.{Task as Record}
use Rattle.sheet.proofs.Records.{AsMany, as_many_slots}
use Rattle.sheet.proofs.InFields.{InFields, range_of, time_fits, times_fit}
use Rattle.sheet.proofs.RecordBits.{fixed_fit, frames_fit_in, length_task_bits}
use Rattle.sheet.proofs.Lawful.{fixed_lawful, frames_lawful}

-- ---- the arrays of a record have their eight slots

pub record Slots (r : Record) : Type 0 where
  pub frames : length r.frames ≡ most_frames
  pub deadlines : length r.deadlines ≡ most_frames

-- ---- the rows in use are the first of what there is

-- the room for the frames of a record
abbrev pub frame_slots : ℕ
frame_slots = 2 * most_frames

pub fields_few : (own : Bool) (n : ℕ) → n ≤ most_frames → frame_fields own * n ≤ frame_slots
fields_few false n h = omega arith
fields_few true n h = omega arith

-- so many of the slots are in use
pub fields_long : (own : Bool) (n m : ℕ) → n ≤ most_frames → m ≡ frame_fields own * n → length (take m (replicate {A = ℕ} frame_slots 0)) ≡ m
fields_long own n m h e = length-take-le m (replicate {A = ℕ} frame_slots 0) (omega (arith, fields_few own n h, e))

fixed_first : (own : Bool) (n : ℕ) (ws : List ℕ) → n ≡ length (fixed_widths own) → ws ≡ fixed_widths own ++ replicate (fixed_room - length (fixed_widths own)) 0
    → take n ws ≡ fixed_widths own
fixed_first own n ws e f = ap₂ take e f ∙ take_at (fixed_widths own) _ (length (fixed_widths own)) refl

pub frames_first : (own : Bool) (n m : ℕ) (ws : List ℕ) → n ≤ most_frames → m ≡ frame_fields own * n → ws ≡ frame_widths true most_frames → take m ws ≡ frame_widths own n
frames_first own n m ws h e f = ap₂ take e f ∙ take_replicate (frame_fields own * n) frame_slots time_width (fields_few own n h)

numbers_long : (own : Bool) (r : Record) → length (fixed_numbers own (task_in r)) ≡ length (fixed_widths own)
unfolding fixed_numbers
numbers_long false r = refl
numbers_long true r = refl

numbers_first : (own : Bool) (r : Record) (n : ℕ) (xs : List ℕ) → n ≡ length (fixed_widths own)
    → xs ≡ fixed_numbers own (task_in r) ++ replicate (fixed_room - length (fixed_widths own)) 0 → take n xs ≡ fixed_numbers own (task_in r)
numbers_first own r n xs e f = ap₂ take e f ∙ take_at (fixed_numbers own (task_in r)) _ (length (fixed_widths own)) (numbers_long own r)

-- ---- a record

-- the rows of widths and of numbers that stand for it: fixed part first, in room for the longest
pub record Widths (own : Bool) (r : Record) (n m : ℕ) (ws fs : List ℕ) : Type 0 where
  pub fixed_fields : n ≡ length (fixed_widths own)
  pub fixed : ws ≡ fixed_widths own ++ replicate (fixed_room - length (fixed_widths own)) 0
  pub frame_fields_of : m ≡ frame_fields own * r.frame_count
  pub frames : fs ≡ frame_widths true most_frames

pub record Numbers (own : Bool) (r : Record) (xs ys : List ℕ) : Type 0 where
  pub fixed : xs ≡ fixed_numbers own (task_in r) ++ replicate (fixed_room - length (fixed_widths own)) 0
  pub frames : take (frame_fields own * r.frame_count) ys ≡ frame_numbers own (task_in r)

module _ (own : Bool) (r : Record) (few : r.frame_count ≤ most_frames) (slots : Slots r) where
  pub count_is : length (task_in r).frames ≡ r.frame_count
  unfolding task_in
  count_is = length-take-le r.frame_count r.frames (rw slots.frames few)

  many : AsMany (task_in r)
  many = as_many_slots r slots.frames slots.deadlines

  -- how many bits it takes
  record_width : length (task_bits own (task_in r)) ≡ total (fixed_widths own) + total (frame_widths own r.frame_count)
  record_width = length_task_bits own (task_in r) many ∙ ap (λ (n : ℕ). total (fixed_widths own) + total (frame_widths own n)) count_is

  -- counted by rows of widths
  module _ {n m : ℕ} {ws fs : List ℕ} (w : Widths own r n m ws fs) (a b : ℕ) (ea : a ≡ width_of (take n ws)) (eb : b ≡ width_of (take m fs)) where
    fixed_small : (o : Bool) → total (fixed_widths o) ≤ 64
    unfolding total
    fixed_small false = omega arith
    fixed_small true = omega arith

    frames_small : total (frame_widths own r.frame_count) ≤ 320
    frames_small = rw (total_replicate (frame_fields own * r.frame_count) time_width) (omega (arith, fields_few own r.frame_count few))

    widths_are : (a ≡ total (fixed_widths own)) × (b ≡ total (frame_widths own r.frame_count))
    widths_are = (
      ea ∙ ap width_of (fixed_first own n ws w.fixed_fields w.fixed) ∙ omega (arith, fixed_small own),
      eb ∙ ap width_of (frames_first own r.frame_count m fs few w.frame_fields_of w.frames) ∙ omega (arith, frames_small),
    )

    pub width_small : a + b ≤ last_position
    width_small = omega (arith, widths_are.0, widths_are.1, fixed_small own, frames_small)

    pub width_is : a + b ≡ length (task_bits own (task_in r))
    width_is = ap₂ ◌+◌ widths_are.0 widths_are.1 ∙ sym record_width

  module _ (some : 1 ≤ r.frame_count) (e : in_range (task_in r) ≡ true) where
    in_fields : InFields (task_in r)
    in_fields =
        let h = (range_of (task_in r)).0 e in
        record {
          period_fits = time_fits _ h.period_time;
          lock_fits = omega (arith, leb-true (task_in r).lock greatest_time h.lock_time);
          frames_fit = times_fit (task_in r).frames h.frame_times;
          deadlines_fit = times_fit (task_in r).deadlines h.deadline_times;
          as_many = many;
          some_frame = omega (arith, count_is);
          few_frames = omega (arith, count_is);
        }

    -- the bits of a record, put by its rows
    module _ {n m : ℕ} {ws fs xs ys : List ℕ} (w : Widths own r n m ws fs) (v : Numbers own r xs ys)
        (s : List ℕ) (at : ℕ) (room : at + length (task_bits own (task_in r)) ≤ end_of (length s)) where
      abbrev F : List Bool
      F = packed (fixed_widths own) (fixed_numbers own (task_in r))

      abbrev G : List Bool
      G = packed (frame_widths own (length (task_in r).frames)) (frame_numbers own (task_in r))

      fixed_row : packed (take n ws) (take n xs) ≡ F
      fixed_row = ap₂ packed (fixed_first own n ws w.fixed_fields w.fixed) (numbers_first own r n xs w.fixed_fields v.fixed)

      frame_row : packed (take m fs) (take m ys) ≡ G
      frame_row =
          ap₂ packed
          (frames_first own r.frame_count m fs few w.frame_fields_of w.frames ∙ ap (frame_widths own) (sym count_is))
          (ap (λ (k : ℕ). take k ys) w.frame_fields_of ∙ v.frames)

      rows_room : at + length F + length G ≤ end_of (length s)
      unfolding task_bits
      rows_room = omega (arith, length-append F G)

      pub fixed_can : row_fits (length s) at (take n ws) (take n xs) ≡ true
      fixed_can =
          rw (fixed_first own n ws w.fixed_fields w.fixed, numbers_first own r n xs w.fixed_fields v.fixed)
          (row_can (length s) at (fixed_lawful own) (fixed_fit own (task_in r) in_fields) (omega (arith, rows_room)))

      module _ {t : List ℕ} {next : ℕ} (p : Placed s at (packed (take n ws) (take n xs)) t next) where
        first : Placed s at F t next
        first = rw fixed_row at p

        pub frames_can : row_fits (length t) next (take m fs) (take m ys) ≡ true
        frames_can =
            rw (frames_first own r.frame_count m fs few w.frame_fields_of w.frames ∙ ap (frame_widths own) (sym count_is), ap (λ (k : ℕ). take k ys) w.frame_fields_of ∙ v.frames)
            (row_can (length t) next (frames_lawful own (length (task_in r).frames)) (frames_fit_in own (task_in r) in_fields) (room_behind F _ rows_room first))

        pub rows_placed : {u : List ℕ} {end : ℕ} → Placed t next (packed (take m fs) (take m ys)) u end → Placed s at (task_bits own (task_in r)) u end
        unfolding task_bits
        rows_placed q =
            let second = rw frame_row at q in
            placed_behind F G (omega (arith, rows_room)) first second
