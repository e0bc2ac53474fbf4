-- Header and task records in bits, both ways: what was written is found where the layout says, and what is found writes to the same bits.
use Rattle.std.specs.Prelude.{Ok}
use Rattle.std.proofs.Common.{◌≡◌, ℕ, zero, suc, ◌+◌, ◌*◌, ◌%◌, ◌^◌, ◌<◌, ◌≤◌, Bool, true, false, ◌||◌, eqb, List, [], ◌∷◌, ◌++◌, length, get_or, take, drop, replicate, sym, refl, ap, ◌∙◌, ap₂, append_assoc, mod-lt, one-mul, arith, lit<, length-append, length-drop, take-append-drop, take-add, drop_at, ltb-false, le-ltb, eq-eqb, eqb-true, leb-false}
use mathlib.Core.Bool.{and-eq-true_iff}
use borrow.Author.Tests.{lt-leb}
use lib.ListN.{length-replicate, get_or-replicate}
use Rattle.theory.specs.Tasks.{Task, frame_count, deadline_of}
use Rattle.theory.proofs.Laws.{deadline_at}
use Rattle.sheet.specs.Constants.{most_frames, version_width, policy_width, task_count_width, frame_count_width, time_width}
use Rattle.records.specs.Rows.{packed, unpacked, total}
use Rattle.sheet.specs.Fields.{header_widths, version_field, policy_field, task_count_field, spare_field}
use Rattle.sheet.specs.Fields.{fixed_widths, deadline_field, frame_count_field, frame_fields, frame_widths}
use Rattle.sheet.specs.Layout.{Header, header_in, behind_header, frame_count_in, record_width, task_from, task_at_start, tasks_in}
use Rattle.sheet.specs.Admission.{all, decided, frame_count_check}
use Rattle.sheet.specs.Reading.{layout_checks}
use Rattle.sheet.specs.Writing.{header_bits, fixed_numbers, frame_numbers, task_bits, tasks_bits, one_deadline, one_deadline_each}
use Rattle.records.proofs.Packing.{Fit, no_field, one_more, length_packed, length_unpacked, unpacked_packed, packed_unpacked}
use Rattle.records.proofs.Filling.{zeros_unset, unset_zeros}
use Rattle.sheet.proofs.Checks.{passed_over, passed, no_check}
use Rattle.sheet.proofs.Counts.{count_passes, count_passed}
use Rattle.sheet.proofs.Each.{Each, no_task, task_more}
use Rattle.sheet.proofs.Records.{AsMany}
use Rattle.sheet.proofs.InFields.{InFields, FramesCounted}
use Rattle.sheet.proofs.Turns.{length_turns, firsts_turns, seconds_turns, turns_again, length_firsts, as_many_seconds, one_each, length_frame_widths, time_at, turns_fit}

-- ---- the header

header_unpacked : (v p n : ℕ) (rest : List Bool) → v < 2 ^ version_width → p < 2 ^ policy_width → n < 2 ^ task_count_width
    → unpacked header_widths (header_bits v p n ++ rest) ≡ v ∷ p ∷ n ∷ 0 ∷ []
unfolding header_bits
header_unpacked v p n rest hv hp hn = unpacked_packed (one_more hv (one_more hp (one_more hn (one_more (lit< tt) no_field)))) rest

pub header_written : (v p n : ℕ) (rest : List Bool) → v < 2 ^ version_width → p < 2 ^ policy_width → n < 2 ^ task_count_width
    → header_in (header_bits v p n ++ rest) ≡ record { version = v; policy = p; task_count = n; spare = 0 }
unfolding header_in
header_written v p n rest hv hp hn =
    ap (λ (f : List ℕ). let h : Header = record { version = get_or f version_field 0; policy = get_or f policy_field 0; task_count = get_or f task_count_field 0; spare = get_or f spare_field 0 } in h)
    (header_unpacked v p n rest hv hp hn)

pub length_header : (v p n : ℕ) → length (header_bits v p n) ≡ total header_widths
unfolding header_bits
length_header v p n = length_packed header_widths (v ∷ p ∷ n ∷ 0 ∷ []) refl

pub records_written : (v p n : ℕ) (rest : List Bool) → behind_header (header_bits v p n ++ rest) ≡ rest
unfolding behind_header
records_written v p n rest = drop_at (header_bits v p n) rest (total header_widths) (length_header v p n)

-- a header with no spare bit set writes to the bits that it was in
pub header_read : (bits : List Bool) → total header_widths ≤ length bits → (header_in bits).spare ≡ 0
    → header_bits (header_in bits).version (header_in bits).policy (header_in bits).task_count ≡ take (total header_widths) bits
unfolding header_bits header_in unpacked
header_read bits h s =
    ap (λ (y : ℕ). packed header_widths ((header_in bits).version ∷ (header_in bits).policy ∷ (header_in bits).task_count ∷ y ∷ [])) (sym s)
    ∙ packed_unpacked header_widths bits h

-- ---- one task record

-- the form can hold the task: each frame has its own deadline there, or all have the same
abbrev pub Held : Bool → Task → Type 0
Held own t = (own || one_deadline t) ≡ true

fixed_length : (own : Bool) (t : Task) → length (fixed_widths own) ≡ length (fixed_numbers own t)
unfolding fixed_numbers
fixed_length false t = refl
fixed_length true t = refl

pub frames_length : (own : Bool) (t : Task) → AsMany t → length (frame_widths own (length t.frames)) ≡ length (frame_numbers own t)
unfolding frame_numbers
frames_length false t same = length_frame_widths false (length t.frames) ∙ one-mul (length t.frames)
frames_length true t same = length_frame_widths true (length t.frames) ∙ sym (length_turns t.frames t.deadlines same)

pub length_task_bits : (own : Bool) (t : Task) → AsMany t → length (task_bits own t) ≡ total (fixed_widths own) + total (frame_widths own (length t.frames))
unfolding task_bits
length_task_bits own t same =
    length-append (packed (fixed_widths own) (fixed_numbers own t)) _
    ∙ ap₂ ◌+◌
    (length_packed (fixed_widths own) (fixed_numbers own t) (fixed_length own t))
    (length_packed (frame_widths own (length t.frames)) (frame_numbers own t) (frames_length own t same))

-- the bits of its frames
frame_bits : Bool → Task → List Bool
frame_bits own t = packed (frame_widths own (length t.frames)) (frame_numbers own t)

first_deadline : (t : Task) → InFields t → deadline_of t 0 < 2 ^ time_width
unfolding frame_count
first_deadline t h = rw (deadline_at t 0 h.some_frame) (time_at t.deadlines 0 h.deadlines_fit (omega (arith, h.as_many, h.some_frame)))

pub fixed_fit : (own : Bool) (t : Task) → InFields t → Fit (fixed_widths own) (fixed_numbers own t)
unfolding fixed_numbers
fixed_fit false t h =
    let few : length t.frames < 2 ^ frame_count_width = omega (arith, h.few_frames) in
    one_more h.period_fits (one_more (first_deadline t h) (one_more h.lock_fits (one_more few no_field)))
fixed_fit true t h =
    let few : length t.frames < 2 ^ frame_count_width = omega (arith, h.few_frames) in
    one_more h.period_fits (one_more h.lock_fits (one_more few no_field))

pub frames_fit_in : (own : Bool) (t : Task) → InFields t → Fit (frame_widths own (length t.frames)) (frame_numbers own t)
unfolding frame_numbers
frames_fit_in false t h = rw (one_each (length t.frames)) h.frames_fit
frames_fit_in true t h = turns_fit t.frames t.deadlines h.as_many h.frames_fit h.deadlines_fit

record_bits : (own : Bool) (t : Task) (rest : List Bool) → task_bits own t ++ rest ≡ packed (fixed_widths own) (fixed_numbers own t) ++ (frame_bits own t ++ rest)
unfolding task_bits frame_bits
record_bits own t rest = append_assoc (packed (fixed_widths own) (fixed_numbers own t)) (frame_bits own t) rest

counted_so : (own : Bool) (t : Task) → get_or (fixed_numbers own t) (frame_count_field own) 0 ≡ length t.frames
unfolding fixed_numbers
counted_so false t = refl
counted_so true t = refl

-- deadlines that are all the same are so many times the first
all_same : (d : ℕ) (ds : List ℕ) → all (λ x. eqb x d) ds ≡ true → replicate (length ds) d ≡ ds
unfolding all
all_same d [] e = refl
all_same d (x ∷ ds) e =
    let both = (and-eq-true_iff (eqb x d) (all (λ y. eqb y d) ds)).0 e in
    ap₂ ◌∷◌ (sym (eqb-true x d both.0)) (all_same d ds both.1)

-- the task of the numbers that are written of it
task_again : (own : Bool) (t : Task) → AsMany t → Held own t → task_from own (fixed_numbers own t) (frame_numbers own t) ≡ t
unfolding task_from fixed_numbers frame_numbers one_deadline
task_again false t same held =
    ap (λ (ds : List ℕ). let u : Task = record { period = t.period; lock = t.lock; frames = t.frames; deadlines = ds } in u)
    (ap (λ (n : ℕ). replicate n (deadline_of t 0)) (sym same) ∙ all_same (deadline_of t 0) t.deadlines held)
task_again true t same held =
    ap₂ (λ (fs ds : List ℕ). let u : Task = record { period = t.period; lock = t.lock; frames = fs; deadlines = ds } in u)
    (firsts_turns t.frames t.deadlines same)
    (seconds_turns t.frames t.deadlines same)

module _ (own : Bool) (t : Task) (rest : List Bool) (h : InFields t) where
  fixed_written : unpacked (fixed_widths own) (task_bits own t ++ rest) ≡ fixed_numbers own t
  fixed_written = ap (unpacked (fixed_widths own)) (record_bits own t rest) ∙ unpacked_packed (fixed_fit own t h) (frame_bits own t ++ rest)

  pub frame_count_written : frame_count_in own (task_bits own t ++ rest) ≡ length t.frames
  unfolding frame_count_in
  frame_count_written = ap (λ (f : List ℕ). get_or f (frame_count_field own) 0) fixed_written ∙ counted_so own t

  pub width_written : record_width own (task_bits own t ++ rest) ≡ length (task_bits own t)
  unfolding record_width
  width_written = ap (λ (n : ℕ). total (fixed_widths own) + total (frame_widths own n)) frame_count_written ∙ sym (length_task_bits own t h.as_many)

  behind_fixed : drop (total (fixed_widths own)) (task_bits own t ++ rest) ≡ frame_bits own t ++ rest
  behind_fixed =
      ap (drop (total (fixed_widths own))) (record_bits own t rest)
      ∙ drop_at (packed (fixed_widths own) (fixed_numbers own t)) (frame_bits own t ++ rest) (total (fixed_widths own))
      (length_packed (fixed_widths own) (fixed_numbers own t) (fixed_length own t))

  frames_written : unpacked (frame_widths own (frame_count_in own (task_bits own t ++ rest))) (drop (total (fixed_widths own)) (task_bits own t ++ rest)) ≡ frame_numbers own t
  unfolding frame_bits
  frames_written =
      ap₂ (λ (n : ℕ) (bs : List Bool). unpacked (frame_widths own n) bs) frame_count_written behind_fixed ∙ unpacked_packed (frames_fit_in own t h) rest

  pub task_written : Held own t → task_at_start own (task_bits own t ++ rest) ≡ t
  unfolding task_at_start
  task_written held = ap₂ (task_from own) fixed_written frames_written ∙ task_again own t h.as_many held

  pub next_written : drop (record_width own (task_bits own t ++ rest)) (task_bits own t ++ rest) ≡ rest
  next_written = drop_at (task_bits own t) rest (record_width own (task_bits own t ++ rest)) (sym width_written)

-- ---- a task that was found

-- has a deadline for each frame
pub as_many_from : (own : Bool) (fixed row : List ℕ) → AsMany (task_from own fixed row)
unfolding task_from
as_many_from false fixed row = length-replicate (length row) _
as_many_from true fixed row = as_many_seconds row

-- as many frames as its record says
pub length_from : (own : Bool) (n : ℕ) (fixed row : List ℕ) → length row ≡ frame_fields own * n → length (task_from own fixed row).frames ≡ n
unfolding task_from
length_from false n fixed row e = e ∙ one-mul n
length_from true n fixed row e = length_firsts n row e

row_length : (own : Bool) (bits : List Bool) → length (unpacked (frame_widths own (frame_count_in own bits)) (drop (total (fixed_widths own)) bits)) ≡ frame_fields own * frame_count_in own bits
row_length own bits =
    length_unpacked (frame_widths own (frame_count_in own bits)) (drop (total (fixed_widths own)) bits) ∙ length_frame_widths own (frame_count_in own bits)

pub frames_read : (own : Bool) (bits : List Bool) → length (task_at_start own bits).frames ≡ frame_count_in own bits
unfolding task_at_start
frames_read own bits = length_from own (frame_count_in own bits) _ _ (row_length own bits)

-- a deadline that its form can hold
same_all : (d n : ℕ) → all (λ x. eqb x d) (replicate n d) ≡ true
unfolding all
same_all d zero = refl
same_all d (suc n) = (and-eq-true_iff (eqb d d) (all (λ x. eqb x d) (replicate n d))).1 (eq-eqb d d refl, same_all d n)

held_from : (own : Bool) (fixed row : List ℕ) → Held own (task_from own fixed row)
unfolding one_deadline deadline_of frame_count task_from all
held_from false fixed [] = refl
held_from false fixed (c ∷ cs) =
    let d = get_or fixed deadline_field 0 in
    ap (λ (x : ℕ). all (λ y. eqb y x) (replicate (length (c ∷ cs)) d)) (get_or-replicate (length (c ∷ cs)) (0 % length (c ∷ cs)) d 0 (mod-lt 0 (omega arith)))
    ∙ same_all d (length (c ∷ cs))
held_from true fixed row = refl

pub held_read : (own : Bool) (bits : List Bool) → Held own (task_at_start own bits)
unfolding task_at_start
held_read own bits = held_from own _ _

-- and the numbers that it was found by
deadline_again : (fixed row : List ℕ) → 1 ≤ length row → deadline_of (task_from false fixed row) 0 ≡ get_or fixed deadline_field 0
unfolding deadline_of frame_count task_from
deadline_again fixed row h = get_or-replicate (length row) (0 % length row) _ 0 (mod-lt 0 h)

frames_again : (own : Bool) (n : ℕ) (fixed row : List ℕ) → length row ≡ frame_fields own * n → frame_numbers own (task_from own fixed row) ≡ row
unfolding frame_numbers task_from
frames_again false n fixed row e = refl
frames_again true n fixed row e = turns_again n row e

fixed_again : (own : Bool) (bits : List Bool) → 1 ≤ frame_count_in own bits → fixed_numbers own (task_at_start own bits) ≡ unpacked (fixed_widths own) bits
unfolding fixed_numbers task_at_start task_from frame_count_in unpacked
fixed_again false bits h =
    ap₂ (λ (d n : ℕ). (task_at_start false bits).period ∷ d ∷ (task_at_start false bits).lock ∷ n ∷ [])
    (deadline_again (unpacked (fixed_widths false) bits) _ (omega (arith, row_length false bits)))
    (frames_read false bits)
fixed_again true bits h = ap (λ (n : ℕ). (task_at_start true bits).period ∷ (task_at_start true bits).lock ∷ n ∷ []) (frames_read true bits)

numbers_read : (own : Bool) (bits : List Bool)
    → frame_numbers own (task_at_start own bits) ≡ unpacked (frame_widths own (frame_count_in own bits)) (drop (total (fixed_widths own)) bits)
unfolding task_at_start
numbers_read own bits = frames_again own (frame_count_in own bits) _ _ (row_length own bits)

-- so it writes to the bits that it was in
pub task_read : (own : Bool) (bits : List Bool) → 1 ≤ frame_count_in own bits → record_width own bits ≤ length bits
    → task_bits own (task_at_start own bits) ≡ take (record_width own bits) bits
unfolding task_bits record_width
task_read own bits some h =
    let n = frame_count_in own bits in
    let behind = drop (total (fixed_widths own)) bits in
    ap₂ (λ (fs : List ℕ) (m : ℕ). packed (fixed_widths own) fs ++ packed (frame_widths own m) (frame_numbers own (task_at_start own bits)))
    (fixed_again own bits some) (frames_read own bits)
    ∙ ap (λ (ns : List ℕ). packed (fixed_widths own) (unpacked (fixed_widths own) bits) ++ packed (frame_widths own n) ns) (numbers_read own bits)
    ∙ ap₂ ◌++◌
    (packed_unpacked (fixed_widths own) bits (omega arith))
    (packed_unpacked (frame_widths own n) behind (rw length-drop (omega arith)))
    ∙ sym (take-add (total (fixed_widths own)) (total (frame_widths own n)) bits)

-- ---- task records one after another

pub tasks_written : (own : Bool) (ts : List Task) (rest : List Bool) → Each InFields ts → Each (Held own) ts → tasks_in own (length ts) (tasks_bits own ts ++ rest) ≡ ts
unfolding tasks_in tasks_bits
tasks_written own [] rest no_task no_task = refl
tasks_written own (t ∷ ts) rest (task_more h hs) (task_more k ks) =
    ap (tasks_in own (suc (length ts))) (append_assoc (task_bits own t) (tasks_bits own ts) rest)
    ∙ ap₂ ◌∷◌ (task_written own t (tasks_bits own ts ++ rest) h k)
    (ap (tasks_in own (length ts)) (next_written own t (tasks_bits own ts ++ rest) h) ∙ tasks_written own ts rest hs ks)

pub length_tasks_in : (own : Bool) (n : ℕ) (bits : List Bool) → length (tasks_in own n bits) ≡ n
unfolding tasks_in
length_tasks_in own zero bits = refl
length_tasks_in own (suc n) bits = ap suc (length_tasks_in own n (drop (record_width own bits) bits))

-- tasks that were found have a deadline for each frame, and their form can hold them
pub as_many_read : (own : Bool) (n : ℕ) (bits : List Bool) → Each AsMany (tasks_in own n bits)
unfolding tasks_in task_at_start
as_many_read own zero bits = no_task
as_many_read own (suc n) bits = task_more (as_many_from own _ _) (as_many_read own n (drop (record_width own bits) bits))

pub all_held_read : (own : Bool) (n : ℕ) (bits : List Bool) → Each (Held own) (tasks_in own n bits)
unfolding tasks_in
all_held_read own zero bits = no_task
all_held_read own (suc n) bits = task_more (held_read own bits) (all_held_read own n (drop (record_width own bits) bits))

-- the tasks that a form can hold, as a test and each by itself
pub each_held : (own : Bool) (ts : List Task) → (own || one_deadline_each ts) ≡ true → Each (Held own) ts
unfolding one_deadline_each
each_held own [] e = no_task
each_held true (t ∷ ts) e = task_more refl (each_held true ts refl)
each_held false (t ∷ ts) e =
    let both = (and-eq-true_iff (one_deadline t) (one_deadline_each ts)).0 e in
    task_more both.0 (each_held false ts both.1)

pub held_each : (own : Bool) (ts : List Task) → Each (Held own) ts → (own || one_deadline_each ts) ≡ true
unfolding one_deadline_each
held_each true ts h = refl
held_each false [] no_task = refl
held_each false (t ∷ ts) (task_more h hs) = (and-eq-true_iff (one_deadline t) (one_deadline_each ts)).1 (h, held_each false ts hs)

-- ---- the layout

-- bits that are laid out well: the records of n tasks with 1 to 8 frames each, and fewer than eight zeros behind them
pub record LaidOut (own : Bool) (n : ℕ) (bits : List Bool) : Type 0 where
  pub fill : ℕ
  pub short : fill < 8
  pub bits_are : bits ≡ tasks_bits own (tasks_in own n bits) ++ replicate fill false
  pub counted : Each FramesCounted (tasks_in own n bits)

pub layout_read : (own : Bool) (i n : ℕ) (bits : List Bool) → decided (layout_checks own i n bits) ≡ Ok tt → LaidOut own n bits
unfolding layout_checks frame_count_check tasks_in tasks_bits
layout_read own i zero bits e =
    let few = passed _ _ e in
    let unset = passed _ _ few.1 in
    record { fill = length bits; short = leb-false 8 (length bits) few.0; bits_are = unset_zeros bits unset.0; counted = no_task }
layout_read own i (suc n) bits e =
    let fixed = passed _ _ e in
    let frames = passed _ _ fixed.1 in
    let whole = passed _ _ frames.1 in
    let next = drop (record_width own bits) bits in
    let later : LaidOut own n next = layout_read own (suc i) n next whole.1 in
    let count = count_passed (frame_count_in own bits) most_frames frames.0 in
    record {
      fill = later.fill;
      short = later.short;
      bits_are =
          sym (take-append-drop (record_width own bits) bits)
          ∙ ap₂ ◌++◌ (sym (task_read own bits count.0 (ltb-false (length bits) (record_width own bits) whole.0))) later.bits_are
          ∙ sym (append_assoc (task_bits own (task_at_start own bits)) (tasks_bits own (tasks_in own n next)) (replicate later.fill false));
      counted = task_more {t = task_at_start own bits} (rw (frames_read own bits) count) later.counted;
    }

-- the checks of a record that was written pass
first_written : (own : Bool) (i n : ℕ) (t : Task) (rest : List Bool) → InFields t
    → decided (layout_checks own i (suc n) (task_bits own t ++ rest)) ≡ decided (layout_checks own (suc i) n rest)
unfolding layout_checks frame_count_check
first_written own i n t rest h =
    let bits = task_bits own t ++ rest in
    let all_there : length (task_bits own t) ≤ length bits = rw length-append (omega arith) in
    passed_over _ _ _ (le-ltb (length bits) (total (fixed_widths own)) (omega (arith, length_task_bits own t h.as_many)))
    ∙ passed_over _ _ _ (count_passes (frame_count_in own bits) most_frames (omega (arith, frame_count_written own t rest h, h.some_frame)) (omega (arith, frame_count_written own t rest h, h.few_frames)))
    ∙ passed_over _ _ _ (le-ltb (length bits) (record_width own bits) (omega (arith, width_written own t rest h)))
    ∙ ap (λ (bs : List Bool). decided (layout_checks own (suc i) n bs)) (next_written own t rest h)

-- records that were written, with fewer than eight zeros behind them, are laid out well
pub layout_written : (own : Bool) (i : ℕ) (ts : List Task) (fill : ℕ) → Each InFields ts → fill < 8
    → decided (layout_checks own i (length ts) (tasks_bits own ts ++ replicate fill false)) ≡ Ok tt
unfolding layout_checks tasks_bits
layout_written own i [] fill no_task h =
    let short : length (replicate fill false) < 8 = rw length-replicate h in
    passed_over _ _ _ (lt-leb 8 (length (replicate fill false)) short) ∙ passed_over _ _ _ (zeros_unset fill) ∙ no_check
layout_written own i (t ∷ ts) fill (task_more f fs) h =
    ap (λ (bs : List Bool). decided (layout_checks own i (suc (length ts)) bs)) (append_assoc (task_bits own t) (tasks_bits own ts) (replicate fill false))
    ∙ first_written own i (length ts) t (tasks_bits own ts ++ replicate fill false) f
    ∙ layout_written own (suc i) ts fill fs h
