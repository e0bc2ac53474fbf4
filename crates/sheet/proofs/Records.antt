-- Tasks put into records and taken out again, and the slots of a record and of a set that are in use.
use Rattle.std.proofs.Common.{◌≡◌, ℕ, ◌<◌, ◌≤◌, min, List, ◌∷◌, map, length, get_or, take, sym, refl, ap, ◌∙◌, ap₂, arith, length-take, take_all, get_or-take, take_at}
use native.Mathlib.Decide.{dec_le}
use native.Mathlib.Nat.{min-eq_left, min-eq_right}
use lib.ListN.{length-map}
use Rattle.theory.specs.Tasks.{Task, frame_count, frame, deadline_of}
use Rattle.theory.proofs.Laws.{frame_at, deadline_at}
use Rattle.sheet.specs.Constants.{most_tasks, most_frames}
use Rattle.sheet.specs.Tasks.{task_in, in_slots, record_of, records_of, set_with}
use Rattle.sheet.specs.declared.Task.{Task as Record}
use Rattle.sheet.specs.declared.TaskSet.{TaskSet}
use Rattle.sheet.proofs.Each.{Each, no_task, task_more}

-- each frame of a task has a deadline
abbrev pub AsMany : Task → Type 0
AsMany t = length t.deadlines ≡ length t.frames

pub task_in_record : (t : Task) → AsMany t → task_in (record_of t) ≡ t
unfolding task_in record_of in_slots
task_in_record t same =
    ap₂ (λ (fs ds : List ℕ). let u : Task = record { period = t.period; lock = t.lock; frames = fs; deadlines = ds } in u)
    (take_at t.frames _ (length t.frames) refl)
    (take_at t.deadlines _ (length t.frames) same)

pub tasks_in_records : {ts : List Task} → Each AsMany ts → map task_in (map record_of ts) ≡ ts
tasks_in_records no_task = refl
tasks_in_records (task_more {t} same rest) = ap₂ ◌∷◌ (task_in_record t same) (tasks_in_records rest)

pub records_with : (policy : ℕ) (ts : List Task) → records_of (set_with policy ts) ≡ map record_of ts
unfolding records_of set_with
records_with policy ts = take_at (map record_of ts) _ (length ts) (length-map ts record_of)

-- a set by value holds the tasks that it was made with
pub tasks_with : (policy : ℕ) (ts : List Task) → Each AsMany ts → map task_in (records_of (set_with policy ts)) ≡ ts
tasks_with policy ts same = ap (map task_in) (records_with policy ts) ∙ tasks_in_records same

-- ---- slots in use

-- an array of structs is as long as the list of their values
pub mapped_length : (X Y : Type 0) (f : X → Y) (l : List X) (n : ℕ) → length (map f l) ≡ n → length l ≡ n
mapped_length X Y f l n e = sym (length-map l f) ∙ e

-- a count takes no more slots than there are
pub taken_slots {ℓ} : {A : Type ℓ} (xs : List A) (n slots : ℕ) → length xs ≡ slots → take (min n slots) xs ≡ take n xs
taken_slots xs n slots e = go (dec_le n slots)
  where
    go : Dec (n ≤ slots) → take (min n slots) xs ≡ take n xs
    go (yes h) = rw (min-eq_left h)
    go (no h) = let le : slots ≤ n = omega arith in rw (min-eq_right le, take_all slots xs (omega arith), take_all n xs (omega arith))

-- the frames in use are those of the task
pub frames_used : (r : Record) (count : ℕ) → (count ≡ min r.frame_count most_frames) × (length r.frames ≡ most_frames)
    → take count r.frames ≡ (task_in r).frames
unfolding task_in
frames_used r count e = rw e.0 (taken_slots r.frames r.frame_count most_frames e.1)

-- the count of frames in use is the task's
pub frames_counted : (r : Record) (n : ℕ) → (n ≡ min r.frame_count most_frames) × (length r.frames ≡ most_frames) → n ≡ frame_count (task_in r)
unfolding frame_count task_in
frames_counted r n used = used.0 ∙ sym (length-take r.frame_count r.frames ∙ ap (min r.frame_count) used.1)

-- which is no more than there are slots
pub frames_few : (r : Record) → length r.frames ≡ most_frames → frame_count (task_in r) ≤ most_frames
frames_few r room = omega (arith, frames_counted r (min r.frame_count most_frames) (refl, room))

-- a frame of the task has its slot
pub frame_there : (r : Record) (k : ℕ) → k < frame_count (task_in r) → k < length r.frames
unfolding frame_count task_in
frame_there r k h = omega (arith, length-take r.frame_count r.frames)

-- the number in it is the task's, and so is that in the slot of its deadline
pub frame_slot : (r : Record) (k : ℕ) → k < length (task_in r).frames → get_or (task_in r).frames k 0 ≡ get_or r.frames k 0
unfolding task_in
frame_slot r k h = get_or-take r.frame_count r.frames k 0 (omega (arith, length-take r.frame_count r.frames))

pub deadline_slot : (r : Record) (k : ℕ) → k < length (task_in r).frames → get_or (task_in r).deadlines k 0 ≡ get_or r.deadlines k 0
unfolding task_in
deadline_slot r k h = get_or-take r.frame_count r.deadlines k 0 (omega (arith, length-take r.frame_count r.frames))

-- its time stands in its slot
pub frame_is : (r : Record) (k : ℕ) → k < frame_count (task_in r) → get_or r.frames k 0 ≡ frame (task_in r) k
unfolding frame_count
frame_is r k h = sym (frame_at (task_in r) k h ∙ frame_slot r k h)

-- the deadlines in use are those of the task
pub deadlines_used : (r : Record) (count : ℕ) → (count ≡ min r.frame_count most_frames) × (length r.deadlines ≡ most_frames)
    → take count r.deadlines ≡ (task_in r).deadlines
unfolding task_in
deadlines_used r count e = rw e.0 (taken_slots r.deadlines r.frame_count most_frames e.1)

-- a record has as many slots for deadlines as for frames
pub as_many_slots : (r : Record) → length r.frames ≡ most_frames → length r.deadlines ≡ most_frames → AsMany (task_in r)
unfolding task_in
as_many_slots r e f = length-take r.frame_count r.deadlines ∙ ap (min r.frame_count) (f ∙ sym e) ∙ sym (length-take r.frame_count r.frames)

-- a frame's deadline stands in its slot
pub deadline_is : (r : Record) (k : ℕ) → k < frame_count (task_in r) → get_or r.deadlines k 0 ≡ deadline_of (task_in r) k
unfolding frame_count
deadline_is r k h = sym (deadline_at (task_in r) k h ∙ deadline_slot r k h)

-- the records in use
pub records_used : (s : TaskSet) (count : ℕ) → (count ≡ min s.task_count most_tasks) × (length s.tasks ≡ most_tasks)
    → take count s.tasks ≡ records_of s
unfolding records_of
records_used s count e = rw e.0 (taken_slots s.tasks s.task_count most_tasks e.1)
