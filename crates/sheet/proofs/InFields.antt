-- The numbers of a task that passes fit their fields: what 7, 9, 10 and 11 test, and what follows for the widths.
use Rattle.std.specs.Prelude.{Ok}
use Rattle.std.proofs.Common.{◌≡◌, ℕ, zero, suc, ◌^◌, ◌<◌, ◌≤◌, Bool, true, ◌&&◌, leb, ◌↔◌, List, [], ◌∷◌, length, get_or, refl, ap, arith, leb-true}
use mathlib.Core.Bool.{and-eq-true_iff, false≢true}
use borrow.Author.Tests.{not-false}
use Rattle.theory.specs.First.{first, found}
use Rattle.theory.specs.Tasks.{Task, frame_count, frame, deadline_of, qualifies}
use Rattle.theory.proofs.Laws.{frame_at, deadline_at}
use Rattle.sheet.specs.Constants.{most_frames, greatest_time, time_width}
use Rattle.sheet.specs.Admission.{decided, all, is_time, in_range, none_above, well_formed, lock_fits, monotonic, task_checks}
use Rattle.sheet.proofs.Checks.{passed}
use Rattle.records.proofs.Packing.{no_field, one_more}
pub use Rattle.sheet.proofs.Each.{Each, no_task, task_more, each_map, each_both}
use Rattle.sheet.proofs.Records.{AsMany}
use Rattle.sheet.proofs.Turns.{Times}

-- a task whose numbers fit their fields
pub record InFields (t : Task) : Type 0 where
  pub period_fits : t.period < 2 ^ time_width
  pub lock_fits : t.lock < 2 ^ time_width
  pub frames_fit : Times t.frames
  pub deadlines_fit : Times t.deadlines
  pub as_many : AsMany t
  pub some_frame : 1 ≤ length t.frames
  pub few_frames : length t.frames ≤ most_frames

-- a number in range fits the field of a time
pub time_fits : (n : ℕ) → is_time n ≡ true → n < 2 ^ time_width
unfolding is_time
time_fits n e = omega (arith, leb-true n greatest_time ((and-eq-true_iff (leb 1 n) (leb n greatest_time)).0 e).1)

pub times_fit : (ns : List ℕ) → all is_time ns ≡ true → Times ns
unfolding all
times_fit [] e = no_field
times_fit (n ∷ ns) e =
    let h = (and-eq-true_iff (is_time n) (all is_time ns)).0 e in
    one_more (time_fits n h.0) (times_fit ns h.1)

pub some_searched : (n : ℕ) (test : ℕ → Bool) → found (first 0 n test) ≡ true → 1 ≤ n
unfolding first found
some_searched zero test e = absurd (false≢true e)
some_searched (suc n) test e = omega arith

-- what a task in range has
pub record Ranged (t : Task) : Type 0 where
  pub period_time : is_time t.period ≡ true
  pub lock_time : leb t.lock greatest_time ≡ true
  pub frame_times : all is_time t.frames ≡ true
  pub deadline_times : all is_time t.deadlines ≡ true

pub range_of : (t : Task) → (in_range t ≡ true) ↔ Ranged t
unfolding in_range
range_of t =
    let p = is_time t.period in
    let q = leb t.lock greatest_time in
    let f = all is_time t.frames in
    let d = all is_time t.deadlines in (
      λ e.
          let pqf_d = (and-eq-true_iff (p && q && f) d).0 e in
          let pq_f = (and-eq-true_iff (p && q) f).0 pqf_d.0 in
          let p_q = (and-eq-true_iff p q).0 pq_f.0 in
          record { period_time = p_q.0; lock_time = p_q.1; frame_times = pq_f.1; deadline_times = pqf_d.1 },
      λ r.
          (and-eq-true_iff (p && q && f) d).1 (
            (and-eq-true_iff (p && q) f).1 ((and-eq-true_iff p q).1 (r.period_time, r.lock_time), r.frame_times),
            r.deadline_times,
          ),
    )

-- a number of a list of which all pass a test passes it
pub all_at : (test : ℕ → Bool) (ns : List ℕ) → all test ns ≡ true → (i : ℕ) → i < length ns → test (get_or ns i 0) ≡ true
unfolding all
all_at test [] e i h = let z : ⊥ = omega arith in absurd z
all_at test (n ∷ ns) e zero h = ((and-eq-true_iff (test n) (all test ns)).0 e).0
all_at test (n ∷ ns) e (suc i) h = all_at test ns ((and-eq-true_iff (test n) (all test ns)).0 e).1 i (omega arith)

-- ---- what a well-formed task has

pub as_long : (cs ds : List ℕ) → none_above cs ds ≡ true → length ds ≡ length cs
unfolding none_above
as_long [] [] e = refl
as_long [] (d ∷ ds) e = absurd (false≢true e)
as_long (c ∷ cs) [] e = absurd (false≢true e)
as_long (c ∷ cs) (d ∷ ds) e = ap suc (as_long cs ds ((and-eq-true_iff (leb c d) (none_above cs ds)).0 e).1)

pub below_at : (cs ds : List ℕ) → none_above cs ds ≡ true → (i : ℕ) → i < length cs → get_or cs i 0 ≤ get_or ds i 0
unfolding none_above
below_at [] ds e i h = let z : ⊥ = omega arith in absurd z
below_at (c ∷ cs) [] e i h = absurd (false≢true e)
below_at (c ∷ cs) (d ∷ ds) e zero h = leb-true c d ((and-eq-true_iff (leb c d) (none_above cs ds)).0 e).0
below_at (c ∷ cs) (d ∷ ds) e (suc i) h = below_at cs ds ((and-eq-true_iff (leb c d) (none_above cs ds)).0 e).1 i (omega arith)

-- the two parts of the test
pub well_both : (t : Task) → (well_formed t ≡ true) ↔ ((none_above t.frames t.deadlines ≡ true) × (all (λ d. leb d t.period) t.deadlines ≡ true))
unfolding well_formed
well_both t = and-eq-true_iff (none_above t.frames t.deadlines) (all (λ d. leb d t.period) t.deadlines)

pub frame_below : (t : Task) → well_formed t ≡ true → (k : ℕ) → k < frame_count t → frame t k ≤ deadline_of t k
unfolding frame_count
frame_below t e k h = rw (frame_at t k h, deadline_at t k h) (below_at t.frames t.deadlines ((well_both t).0 e).0 k h)

pub deadline_below : (t : Task) → well_formed t ≡ true → (k : ℕ) → k < frame_count t → deadline_of t k ≤ t.period
unfolding frame_count
deadline_below t e k h =
    let both = (well_both t).0 e in
    rw (deadline_at t k h)
    (leb-true _ _ (all_at (λ d. leb d t.period) t.deadlines both.1 k (omega (arith, as_long t.frames t.deadlines both.0))))

pub as_many_formed : (t : Task) → well_formed t ≡ true → AsMany t
as_many_formed t e = as_long t.frames t.deadlines ((well_both t).0 e).0

-- a task with at most eight frames that is in range and well formed and has a start frame
pub task_in_fields : (t : Task) → in_range t ≡ true → well_formed t ≡ true → monotonic t ≡ true → length t.frames ≤ most_frames → InFields t
unfolding monotonic frame_count
task_in_fields t e w m h =
    let r : Ranged t = (range_of t).0 e in
    record {
      period_fits = time_fits t.period r.period_time;
      lock_fits = omega (arith, leb-true t.lock greatest_time r.lock_time);
      frames_fit = times_fit t.frames r.frame_times;
      deadlines_fit = times_fit t.deadlines r.deadline_times;
      as_many = as_many_formed t w;
      some_frame = some_searched (length t.frames) (qualifies t) m;
      few_frames = h;
    }

-- at most eight frames; and at least one
abbrev pub FewFrames : Task → Type 0
FewFrames t = length t.frames ≤ most_frames

abbrev pub FramesCounted : Task → Type 0
FramesCounted t = (1 ≤ length t.frames) × (length t.frames ≤ most_frames)

-- what 9, 10 and 11 test
pub record Formed (t : Task) : Type 0 where
  pub ranged : in_range t ≡ true
  pub well : well_formed t ≡ true
  pub locked : lock_fits t ≡ true
  pub starts : monotonic t ≡ true

pub each_formed : (i : ℕ) (ts : List Task) → decided (task_checks i ts) ≡ Ok tt → Each Formed ts
unfolding task_checks
each_formed i [] e = no_task
each_formed i (t ∷ ts) e =
    let nine = passed _ _ e in
    let ten = passed _ _ nine.1 in
    let eleven = passed _ _ ten.1 in
    let both = (and-eq-true_iff (in_range t) (well_formed t)).0 (not-false (in_range t && well_formed t) nine.0) in
    task_more
    (record { ranged = both.0; well = both.1; locked = not-false (lock_fits t) ten.0; starts = not-false (monotonic t) eleven.0 })
    (each_formed (suc i) ts eleven.1)

-- tasks with at most eight frames each that pass 9, 10 and 11
pub tasks_in_fields : (i : ℕ) (ts : List Task) → decided (task_checks i ts) ≡ Ok tt → Each FewFrames ts → Each InFields ts
tasks_in_fields i ts e few = each_both (λ t f h. task_in_fields t f.ranged f.well f.starts h) (each_formed i ts e) few
