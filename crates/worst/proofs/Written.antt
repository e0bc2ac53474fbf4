-- The loop over the entries: those before a tick and, in that tick, before a task are written.
use mathlib.Core.List.{List, [], ◌∷◌, ◌++◌}
use mathlib.Core.Path.{◌≡◌, refl, sym, ap, ◌∙◌}
use Prim.Native.Nat.{ℕ, suc, ◌+◌, ◌-◌, ◌*◌, ◌^◌, ◌≤◌, ◌<◌}
use native.Mathlib.Decide.{dec_lt, ℕ_discrete}
use native.Mathlib.Nat.{mul-le-mul_right}
use native.Mathlib.Omega.{arith}
use lib.ListN.{length, get_or, set, take, length-append, length-set}
use lib.Seq.{get_or-take, length-take-le}
use Rattle.theory.specs.Tasks.{frame_count}
use Rattle.records.specs.Rows.{packed, total}
use Rattle.records.specs.Faces.{end_of}
use Rattle.records.specs.Inside.Steps.{Placed}
use Rattle.records.proofs.Placing.{placed_none, placed_behind}
use Rattle.records.proofs.Putting.{room_behind}
use Rattle.sheet.specs.Constants.{most_tasks, greatest_time}
use Rattle.plays.specs.declared.Entry.{Entry}
use Rattle.scripts.specs.Format.{entry_widths}
use Rattle.scripts.specs.Writing.{entry_numbers, entries_bits, EntryFits}
use Rattle.scripts.proofs.ScriptBits.{length_entry, length_entries_bits}
use Rattle.worst.specs.declared.Plan.{Plan}
use Rattle.worst.specs.declared.Series.{Series}
use Rattle.worst.specs.Inside.Plans.{next_entry, behind, no_series, plan_task, SoundPlan, plan_row, plan_entries}
use Rattle.worst.specs.Inside.Steps.{opens_at, Soonest}
use Rattle.worst.proofs.JobWork.{work_small}
use Rattle.worst.proofs.Putting.{entry_behind}
use Rattle.worst.proofs.Done.{done, done_none, done_more, done_part, skip_here, skip_later, skip_all}
use Rattle.worst.proofs.Standing.{Stand, entry_now, stand_start, stand_opens, stand_step, stand_lock, stand_later, stand_quiet, stand_in, stand_row, stand_moved, stand_other}

-- the task that is released next, among the first so many
record First (count : ℕ) (series : List Series) (i : ℕ) : Type 0 where
  in_count : i < count
  least : (j : ℕ) → j < count → opens_at series i ≤ opens_at series j
  lowest : (j : ℕ) → j < i → opens_at series i < opens_at series j

first_of : (count : ℕ) (series : List Series) (i : ℕ) → count ≤ length series → Soonest (take count series) i → First count series i
first_of count series i h s =
    let long : length (take count series) ≡ count = length-take-le count series h in
    let inside : i < count = omega (arith, s.in_count) in
    let same : (j : ℕ) → j < count → opens_at (take count series) j ≡ opens_at series j = λ j l. ap (λ (x : Series). x.opens) (get_or-take count series j no_series l) in
    record {
      in_count = inside;
      least = λ j l. omega (arith, s.least j (omega arith), same i inside, same j l);
      lowest = λ j l. omega (arith, s.lowest j l, same i inside, same j (omega arith));
    }

-- the entries before task j of tick t stand where they belong, and the next release of each task is not behind that
pub record WrittenTo (pl : Plan) (b : List ℕ) (at : ℕ) (bytes : List ℕ) (series : List Series) (end t j : ℕ) : Type 0 where
  pub in_time : t ≤ pl.end
  pub in_count : j ≤ pl.count
  pub put : Placed b at (entries_bits (done pl t j)) bytes end
  pub same : length bytes ≡ length b
  pub long : length series ≡ most_tasks
  pub passed : (q : ℕ) → q < j → Stand pl series (suc t) q
  pub ahead : (q : ℕ) → j ≤ q → q < pl.count → Stand pl series t q

-- .. of some tick and task
pub record Written (pl : Plan) (b : List ℕ) (at : ℕ) (bytes : List ℕ) (series : List Series) (end : ℕ) : Type 0 where
  pub tick : ℕ
  pub task : ℕ
  pub to : WrittenTo pl b at bytes series end tick task

-- .. and task i is released next
pub record Ready (pl : Plan) (b : List ℕ) (at : ℕ) (bytes : List ℕ) (series : List Series) (end i : ℕ) : Type 0 where
  pub written : Written pl b at bytes series end
  pub next : Soonest (take pl.count series) i

module _ (pl : Plan) (sound : SoundPlan pl) (b : List ℕ) (at : ℕ) where
  -- at the start nothing is written
  pub written_none : Written pl b at b pl.series at
  unfolding entries_bits
  written_none =
      record {
        tick = 0;
        task = 0;
        to = record {
          in_time = omega arith;
          in_count = omega arith;
          put = rw (done_none pl) (placed_none b at);
          same = refl;
          long = sound.room;
          passed = λ q h. let z : ⊥ = omega arith in absurd z;
          ahead = λ q _ h. stand_start pl q (sound.each q h);
        };
      }

  module _ {bytes : List ℕ} {series : List Series} {end t j : ℕ} (w : WrittenTo pl b at bytes series end t j) where
    -- the next release of a task is not before that tick, and behind it where the task comes earlier
    opens_passed : (q : ℕ) → q < j → t < opens_at series q
    opens_passed q l = let s = w.passed q l in omega (arith, stand_opens pl q (sound.each q (omega (arith, w.in_count))) s, s.reached.ahead)

    opens_ahead : (q : ℕ) → q < pl.count → t ≤ opens_at series q
    opens_ahead q h = go (dec_lt q j)
      where
        go : Dec (q < j) → t ≤ opens_at series q
        go (yes l) = let d = opens_passed q l in omega arith
        go (no n) = let s = w.ahead q (omega arith) h in omega (arith, stand_opens pl q (sound.each q h) s, s.reached.ahead)

    -- nothing is released of it before that
    quiet : (q : ℕ) → q < pl.count → (u : ℕ) → t ≤ u → (q < j → t < u) → u < opens_at series q → plan_row pl u q ≡ []
    quiet q h u l m d = go (dec_lt q j)
      where
        go : Dec (q < j) → plan_row pl u q ≡ []
        go (yes a) = stand_quiet pl q (sound.each q h) (w.passed q a) u (m a) d
        go (no n) = stand_quiet pl q (sound.each q h) (w.ahead q (omega arith) h) u l d

    later : (q : ℕ) → q < pl.count → (v : ℕ) → t ≤ v → (q < j → t < v) → v ≤ opens_at series q → Stand pl series v q
    later q h v l m d = go (dec_lt q j)
      where
        go : Dec (q < j) → Stand pl series v q
        go (yes a) = stand_later pl q (sound.each q h) (w.passed q a) v (m a) d
        go (no n) = stand_later pl q (sound.each q h) (w.ahead q (omega arith) h) v l d

    -- the next entry is that of the task that is released next
    module _ {i : ℕ} (found : Soonest (take pl.count series) i) where
      s : First pl.count series i
      s = first_of pl.count series i (omega (arith, w.long, sound.few_tasks)) found

      moved : done pl t j ≡ done pl (opens_at series i) i
      moved = go (dec_lt t (opens_at series i))
        where
          go : Dec (t < opens_at series i) → done pl t j ≡ done pl (opens_at series i) i
          go (yes l) = skip_later pl t j (λ q. opens_at series q) quiet w.in_count (opens_at series i) i l (omega (arith, s.in_count)) s.least s.lowest
          go (no n) =
              let here : t ≡ opens_at series i = omega (arith, opens_ahead i s.in_count) in
              let not_passed : ¬ (i < j) = λ l. let d = opens_passed i l in omega arith in
              skip_here pl t j (λ q. opens_at series q) quiet i (omega arith) (omega (arith, s.in_count)) (λ q l. let d = s.lowest q l in omega arith)
              ∙ ap (λ (v : ℕ). done pl v i) here

      advanced : opens_at series i ≤ pl.end → WrittenTo pl b at bytes series end (opens_at series i) i
      advanced h =
          let l = opens_ahead i s.in_count in
          record {
            in_time = h;
            in_count = omega (arith, s.in_count);
            put = rw moved at w.put;
            same = w.same;
            long = w.long;
            passed = λ q a. let d = s.lowest q a in later q (omega (arith, s.in_count)) (suc (opens_at series i)) (omega arith) (λ _. omega arith) (omega arith);
            ahead = λ q a c. later q c (opens_at series i) l (λ e. go q a e) (s.least q c);
          }
        where
          go : (q : ℕ) → i ≤ q → q < j → t < opens_at series i
          go q a e = opens_passed i (omega arith)

      -- behind the last release all entries are written
      ended : pl.end < opens_at series i → Placed b at (entries_bits (plan_entries pl)) bytes end
      ended h =
          rw (skip_all pl t j (λ q. opens_at series q) quiet w.in_count w.in_time (λ q a. let d = s.least q a in omega arith)) at w.put

  -- the same of some tick and task
  module _ {bytes : List ℕ} {series : List Series} {end i : ℕ} (r : Ready pl b at bytes series end i) where
    -- the room keeps its size
    pub ready_same : length bytes ≡ length b
    ready_same = r.written.to.same

    -- there are sixteen series
    pub ready_long : length series ≡ most_tasks
    ready_long = r.written.to.long

    ready_inside : i < pl.count
    ready_inside = (first_of pl.count series i (omega (arith, ready_long, sound.few_tasks)) r.next).in_count

    -- behind the last release all entries are written
    pub ready_all : pl.end < opens_at series i → Placed b at (entries_bits (plan_entries pl)) bytes end
    ready_all h = ended r.written.to r.next h

  -- one entry
  module _ (room : at + length (entries_bits (plan_entries pl)) ≤ end_of (length b))
      {bytes : List ℕ} {series : List Series} {end i : ℕ} (r : Ready pl b at bytes series end i) (in_time : opens_at series i ≤ pl.end) where
    -- all entries before the next one are written
    w : WrittenTo pl b at bytes series end (opens_at series i) i
    w = advanced r.written.to r.next in_time

    inside : i < pl.count
    inside = ready_inside r

    abbrev entry : Entry
    entry = entry_now pl series i

    here : Stand pl series (opens_at series i) i
    here = w.ahead i (omega arith) inside

    -- the frame of the next job is a frame of its task
    pub next_in : (get_or series i no_series).next < frame_count (plan_task pl i)
    next_in = stand_in pl i (sound.each i inside) here

    -- its series can go on
    pub step_fits : (get_or series i no_series).opens + (get_or series i no_series).step < 2 ^ 32
    step_fits = let s = sound.each i inside in omega (arith, in_time, sound.end_fits, stand_step pl i s here, s.step_small)

    fits : EntryFits entry
    unfolding next_entry
    fits =
        let s = sound.each i inside in
        let lock = stand_lock pl i s here in
        let lock_fits : (get_or series i no_series).lock ≤ greatest_time = omega (arith, s.lock_fits) in
        record {
          task_fits = omega (arith, inside, sound.few_tasks);
          tick_fits = omega (arith, in_time, sound.end_fits);
          work_fits = work_small (plan_task pl i) (get_or series i no_series).next (get_or series i no_series).lock greatest_time (s.frames_fit (get_or series i no_series).next next_in) lock_fits;
          lock_fits = lock_fits;
        }

    done_entry : done pl (opens_at series i) (suc i) ≡ done pl (opens_at series i) i ++ (entry ∷ [])
    done_entry = done_more pl (opens_at series i) i ∙ ap (λ (l : List Entry). done pl (opens_at series i) i ++ l) (stand_row pl i (sound.each i inside) here)

    part : length (entries_bits (done pl (opens_at series i) i)) + length (packed entry_widths (entry_numbers entry)) ≤ length (entries_bits (plan_entries pl))
    part =
        let few = done_part pl (opens_at series i) (suc i) in_time inside in
        let bits : length (entries_bits (done pl (opens_at series i) i)) + length (packed entry_widths (entry_numbers entry)) ≡ length (entries_bits (done pl (opens_at series i) (suc i))) =
        sym (ap (λ (l : List Entry). length (entries_bits l)) done_entry ∙ ap length (entry_behind (done pl (opens_at series i) i) entry) ∙ length-append (entries_bits (done pl (opens_at series i) i)) (packed entry_widths (entry_numbers entry)))
        in
        let fewer : length (done pl (opens_at series i) (suc i)) * total entry_widths ≤ length (plan_entries pl) * total entry_widths = mul-le-mul_right (total entry_widths) few in
        omega (arith, length_entries_bits (done pl (opens_at series i) (suc i)), length_entries_bits (plan_entries pl))

    space : at + length (entries_bits (done pl (opens_at series i) i)) + length (packed entry_widths (entry_numbers entry)) ≤ end_of (length b)
    space = omega (arith, part)

    -- as it is made
    module _ (e : Entry) (given : e ≡ entry) where
      -- the next entry fits its fields
      pub entry_fits : EntryFits e
      entry_fits = rw given fits

      -- it finds its room
      pub entry_room : end + length (packed entry_widths (entry_numbers e)) ≤ end_of (length bytes)
      entry_room = rw given (room_behind (entries_bits (done pl (opens_at series i) i)) (length (packed entry_widths (entry_numbers entry))) space w.put)

      module _ {bytes' : List ℕ} {end' : ℕ} (p : Placed bytes end (packed entry_widths (entry_numbers e)) bytes' end') where
        placed_so : Placed bytes end (packed entry_widths (entry_numbers entry)) bytes' end'
        placed_so = rw given at p

        -- it ends within all entries, and further on
        pub entry_within : at + length (entries_bits (plan_entries pl)) - end' < at + length (entries_bits (plan_entries pl)) - end
        unfolding total
        entry_within = omega (arith, placed_so.behind, w.put.behind, part, length_entry entry)

        -- behind it one entry more is written
        pub written_more : (x : Series) → length bytes' ≡ length bytes → x ≡ behind (plan_task pl i) (get_or series i no_series) → Written pl b at bytes' (set series i x) end'
        written_more x l ex =
            record {
              tick = opens_at series i;
              task = suc i;
              to =
                  record {
                    in_time = in_time;
                    in_count = inside;
                    put = rw (done_entry, entry_behind (done pl (opens_at series i) i) entry) (placed_behind (entries_bits (done pl (opens_at series i) i)) (packed entry_widths (entry_numbers entry)) (omega (arith, space)) w.put placed_so);
                    same = l ∙ w.same;
                    long = length-set series i x ∙ w.long;
                    passed = λ q h. go q h (ℕ_discrete q i);
                    ahead = λ q h c. stand_other i x (λ z. omega arith) (w.ahead q (omega arith) c);
                  };
            }
          where
            go : (q : ℕ) → q < suc i → Dec (q ≡ i) → Stand pl (set series i x) (suc (opens_at series i)) q
            go q h (yes z) = rw (z, ex) (stand_moved pl i (sound.each i inside) here (omega (arith, inside, w.long, sound.few_tasks)) refl)
            go q h (no n) = stand_other i x n (w.passed q (omega arith))
