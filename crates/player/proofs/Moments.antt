-- The course of a play, moment by moment: the player's state shows the run's, and the entries up to now are released.
use Rattle.std.specs.Prelude.{None, Some, IfSome}
use mathlib.Core.Bool.{true, false}
use mathlib.Core.List.Memᴰ
use mathlib.Core.List.{List, [], ◌∷◌, Memᴰ}
use mathlib.Core.Logic.{◌⊎◌, inl, inr}
use mathlib.Core.Path.{◌≡◌, refl, sym, ap, subst, ◌∙◌}
use Prim.Native.Nat.{ℕ, zero, suc, ◌≤◌, ◌<◌}
use native.Mathlib.Decide.{dec_lt}
use native.Mathlib.Nat.{le_refl, le_trans}
use native.Mathlib.Omega.{arith}
use lib.ListN.{length, get_or, take, drop, set, replicate, length-replicate, length-set, drop_of_length-le}
use lib.Seq.{take_all, take-suc, drop-cons}
use Rattle.theory.specs.First.{first}
use Rattle.theory.specs.Tasks.{Task, task_at, frame_count, next_frame, deadline_of}
use Rattle.theory.specs.Runs.{State, oldest_left, release, pick, tick, step, Legal}
use Rattle.theory.proofs.Search.{first_same}
use Rattle.theory.proofs.Steps.{oldest, Picked, in_stretch, highest, idle, picked, Held, held, held_seen}
use Rattle.theory.proofs.Lanes.{total, oldest_none}
use Rattle.sheet.specs.Constants.{most_tasks}
use Rattle.order.specs.Claims.{Permutes}
use Rattle.analysis.specs.Times.{number_at, place_of}
use Rattle.analysis.proofs.Numbering.{number_back}
use Rattle.plays.specs.Script.{Script, no_entry}
use Rattle.plays.specs.ScriptRun.{by_place, released_at, choice, script_state, script_run, new_stretch}
use Rattle.plays.specs.Play.{script_seen, task_misses, misser, all_done, shown}
use Rattle.plays.specs.declared.Entry.{Entry}
use Rattle.plays.proofs.States.{run_seen}
use Rattle.plays.proofs.ScriptLegal.{script_legal}
use Rattle.plays.proofs.ScriptFacts.{member_at, NoneAt, entry_in_set, behind_no_sooner}
use Rattle.plays.specs.OnePending.{Calm}
use Rattle.plays.proofs.OnePending.{released_alone, oldest_at_most}
use Rattle.plays.proofs.ScriptLanes.{by_place_length, place_found, number_found, task_of_number, by_place_admitted, script_next_in}
use Rattle.plays.specs.Says.{AllReleased}
use Rattle.plays.proofs.AllDone.{done_is, undone_is}
use Rattle.player.specs.State.{at_rest, released, picked_by, ticked, no_job, late, misser_in, looking_ahead, shown_byte}
use Rattle.player.specs.Shows.{Shows, rests}
use Rattle.player.specs.Inside.Course.{Ready, InPlay, Seen, NextFrames}
use Rattle.player.specs.declared.state.Job.{Job as Kept}
use Rattle.player.specs.declared.state.Player.{Player}
use Rattle.player.proofs.Slots.{slot_late}
use Rattle.player.proofs.Soonest.{misser_is}
use Rattle.player.proofs.Steps.{numbered, pick_shows, picked_shows, ahead_shows, tick_shows, tick_byte}
use Rattle.player.proofs.Releases.{Seeing, Turning, seeing_none, turning_none, seeing_more, frame_here, turning_more, seeing_all, turning_all, release_there}

-- in a row of empty slots each is empty, and so behind its end
no_jobs : (n i : ℕ) → get_or (replicate n no_job) i no_job ≡ no_job
no_jobs zero i = refl
no_jobs (suc n) zero = refl
no_jobs (suc n) (suc i) = no_jobs n i

module _ (order : List ℕ) (tasks : List Task) (sc : Script) where
  -- in the middle of the releases of tick t
  pub record Releasing (t j : ℕ) (player : Player) (frames : List ℕ) : Type 0 where
    pub seeing : Seeing order tasks sc t (script_state order tasks sc t) j player
    pub turning : Turning order tasks sc t (script_state order tasks sc t) j frames
    pub room : length frames ≡ most_tasks
    pub released_by : (d : Entry) → Memᴰ d (take j sc.entries) → d.tick ≤ t
    pub rest_from : (d : Entry) → Memᴰ d (drop j sc.entries) → t ≤ d.tick
    pub within : j ≤ length sc.entries

  -- ---- the start

  pub starts : InPlay order tasks sc 0 0 at_rest
  unfolding script_state oldest_left
  starts =
      record {
        shows =
            record {
              slots = λ i h. rests refl (zeros i);
              coming = refl;
              holder = λ h. let z : ⊥ = omega arith in absurd z;
              no_sooner = λ i h l. let z : ⊥ = omega (arith, zeros i) in absurd z;
              room = length-replicate {A = Kept} most_tasks no_job;
            };
        released_before = λ d m. absurd (Memᴰ.not-nil m);
        rest_from = λ d m. omega arith;
        within = omega arith;
      }
    where
      zeros : (i : ℕ) → (get_or at_rest.jobs i no_job).left ≡ 0
      zeros i = ap (λ j. j.left) (no_jobs most_tasks i)

  -- the first frames are kept
  pub first_kept : Permutes (length tasks) order → (frames : List ℕ) → length frames ≡ most_tasks → ((i : ℕ) → i < length tasks → get_or frames i 0 ≡ get_or sc.firsts i 0)
      → NextFrames order tasks sc 0 frames
  unfolding script_state
  first_kept permutes frames room first =
      record { room = room; frame_is = λ i h. first i h ∙ ap (λ n. get_or sc.firsts n 0) (sym (number_back (length tasks) order permutes i h)) }

  -- ---- misses

  -- the player finds the task that misses
  pub finds_misser : (t : ℕ) (player : Player) → Shows order tasks sc (script_state order tasks sc t) player
      → misser_in player (length tasks) t ≡ misser order tasks sc t
  unfolding misser task_misses
  finds_misser t player shows =
      misser_is player (length tasks) t shows.no_sooner
      ∙ first_same 0 (length tasks) (λ i. late (get_or player.jobs i no_job) t) (task_misses order tasks sc t) (λ i h. sym (slot_late t (shows.slots i (omega arith))))

  module _ (ready : Ready order tasks sc) where
    -- looking ahead changes nothing of what is shown
    pub ahead_in_play : (t j : ℕ) (player : Player) → InPlay order tasks sc t j player → InPlay order tasks sc t j (looking_ahead player t)
    ahead_in_play t j player at =
        record {
          shows = ahead_shows order tasks sc ready.permutes ready.few (script_state order tasks sc t) player t at.shows;
          released_before = at.released_before;
          rest_from = at.rest_from;
          within = at.within;
        }

    abbrev by : List Task
    by = by_place order tasks

    pub legal : (n : ℕ) → Legal by (script_run order tasks sc n)
    legal = script_legal order tasks sc ready.permutes ready.as_many ready.kept

    -- ---- releases

    pub releases_start : (t j : ℕ) (player : Player) (frames : List ℕ) → InPlay order tasks sc t j player → NextFrames order tasks sc t frames → Releasing t j player frames
    releases_start t j player frames at nexts =
        let earlier : NoneAt t (take j sc.entries) = λ d m e. let l = at.released_before d m in let z : ⊥ = omega arith in absurd z in
        record {
          seeing = seeing_none order tasks sc t j (script_state order tasks sc t) player earlier at.shows;
          turning = turning_none order tasks sc t j (script_state order tasks sc t) frames earlier nexts.frame_is;
          room = nexts.room;
          released_by = λ d m. let l = at.released_before d m in omega arith;
          rest_from = at.rest_from;
          within = at.within;
        }

    module _ (t j : ℕ) (player : Player) (frames : List ℕ) (at : Releasing t j player frames) where
      turning_at : {u : ℕ} → u ≡ t → Turning order tasks sc u (script_state order tasks sc t) j frames
      turning_at now = subst (λ u. Turning order tasks sc u (script_state order tasks sc t) j frames) (sym now) at.turning

      -- the frame kept for the task of an entry of the tick is that of its job
      kept_frame : (in_row : j < length sc.entries) → (get_or sc.entries j no_entry).tick ≡ t
          → get_or frames (get_or sc.entries j no_entry).task 0 ≡ ((script_state order tasks sc t).lanes (place_of order (get_or sc.entries j no_entry).task)).next
      kept_frame in_row now = frame_here order tasks sc ready.kept ready.few (script_state order tasks sc t) j in_row frames (turning_at now)

      -- and so one of the task's frames
      pub frame_in : (in_row : j < length sc.entries) → (get_or sc.entries j no_entry).tick ≡ t
          → get_or frames (get_or sc.entries j no_entry).task 0 < frame_count (task_at tasks (get_or sc.entries j no_entry).task)
      frame_in in_row now =
          let i = (get_or sc.entries j no_entry).task in
          let in_set : i < length tasks = entry_in_set tasks sc ready.kept j in_row in
          rw (kept_frame in_row now, ← task_of_number order tasks ready.permutes i in_set)
          (script_next_in order tasks sc (by_place_admitted order tasks ready.permutes ready.admitted) legal (place_of order i) (place_found order tasks ready.permutes i in_set) t)

      -- an entry of the tick more
      pub releases_more : Calm order tasks sc t → (in_row : j < length sc.entries) → (get_or sc.entries j no_entry).tick ≡ t
          → (deadline k : ℕ) → deadline ≡ deadline_of (task_at tasks (get_or sc.entries j no_entry).task) (get_or frames (get_or sc.entries j no_entry).task 0)
          → k ≡ next_frame (task_at tasks (get_or sc.entries j no_entry).task) (get_or frames (get_or sc.entries j no_entry).task 0)
          → Releasing t (suc j) (released player (get_or sc.entries j no_entry) deadline) (set frames (get_or sc.entries j no_entry).task k)
      releases_more calm in_row now deadline k its behind =
          record {
            seeing = subst (λ u. Seeing order tasks sc u (script_state order tasks sc t) (suc j) (released player e deadline)) now
                (seeing_more order tasks sc ready.kept ready.few (script_state order tasks sc t) j in_row player deadline (its ∙ ap (deadline_of (task_at tasks e.task)) (kept_frame in_row now)) alone
                (subst (λ u. Seeing order tasks sc u (script_state order tasks sc t) j player) (sym now) at.seeing));
            turning = subst (λ u. Turning order tasks sc u (script_state order tasks sc t) (suc j) (set frames e.task k)) now
                (turning_more order tasks sc ready.kept ready.few (script_state order tasks sc t) j in_row frames (turning_at now) at.room k behind);
            room = length-set frames e.task k ∙ at.room;
            released_by = λ d m. one_more d (Memᴰ.append_cases (take j sc.entries) (subst (Memᴰ d) (take-suc sc.entries j no_entry in_row) m));
            rest_from = λ d m. omega (arith, behind_no_sooner tasks sc ready.kept j in_row ready.few d m);
            within = omega arith;
          }
        where
          e : Entry
          e = get_or sc.entries j no_entry

          alone : total ((script_state order tasks sc t).lanes (place_of order e.task)).jobs ≡ 0
          alone =
              released_alone order tasks sc ready.permutes ready.admitted legal (place_of order e.task)
              (place_found order tasks ready.permutes e.task (entry_in_set tasks sc ready.kept j in_row)) t calm
              (subst (λ u. released_at order sc u (place_of order e.task) ≡ Some e.work) now
              (release_there order tasks sc ready.kept ready.few (script_state order tasks sc t) j in_row ready.permutes))

          one_more : (d : Entry) → Memᴰ d (take j sc.entries) ⊎ Memᴰ d (e ∷ []) → d.tick ≤ t
          one_more d (inl m) = at.released_by d m
          one_more d (inr m) = let same : d ≡ e = Memᴰ.eq_of_singleton m in omega (arith, ap (λ x. x.tick) same)

      -- no entry of the tick is left
      pub releases_end : (j < length sc.entries → ¬ ((get_or sc.entries j no_entry).tick ≡ t)) → Seen order tasks sc t j player × NextFrames order tasks sc (suc t) frames
      releases_end not_now = (
        record {
          shows = seeing_all order tasks sc ready.permutes t j none_left player at.seeing;
          released_by = at.released_by;
          rest_after = later;
          within = at.within;
        },
        record { room = at.room; frame_is = turning_all order tasks sc ready.permutes t j none_left frames at.turning },
      )
        where
          behind : (d : Entry) → (in_row : j < length sc.entries) → (d ≡ get_or sc.entries j no_entry) ⊎ Memᴰ d (drop (suc j) sc.entries) → t < d.tick
          behind d in_row m =
              let e = get_or sc.entries j no_entry in
              let from : t ≤ e.tick = at.rest_from e (subst (Memᴰ e) (sym (drop-cons sc.entries j no_entry in_row)) (Memᴰ.head refl)) in
              let after : t < e.tick = omega (arith, not_now in_row) in
              go after m
            where
              go : t < (get_or sc.entries j no_entry).tick → (d ≡ get_or sc.entries j no_entry) ⊎ Memᴰ d (drop (suc j) sc.entries) → t < d.tick
              go after (inl same) = omega (arith, ap (λ x. x.tick) same)
              go after (inr m) = omega (arith, behind_no_sooner tasks sc ready.kept j in_row ready.few d m)

          later : (d : Entry) → Memᴰ d (drop j sc.entries) → t < d.tick
          later d m = go (dec_lt j (length sc.entries))
            where
              go : Dec (j < length sc.entries) → t < d.tick
              go (yes in_row) = behind d in_row (Memᴰ.cases_cons (subst (Memᴰ d) (drop-cons sc.entries j no_entry in_row) m))
              go (no past) = absurd (Memᴰ.not-nil (subst (Memᴰ d) (drop_of_length-le sc.entries {i = j} (omega arith)) m))

          none_left : NoneAt t (drop j sc.entries)
          none_left d m e = let l = later d m in let z : ⊥ = omega arith in absurd z

    -- ---- the tick

    pub held_at : (t : ℕ) → Held by (script_seen order tasks sc t)
    unfolding script_run
    held_at t =
        subst (Held by) (run_seen order tasks sc t t)
        (held_seen by (script_run order tasks sc t) t (held by (script_run order tasks sc t) (legal t) t (le_refl t)))

    next_state : (t : ℕ) → script_state order tasks sc (suc t)
        ≡ tick (pick by (script_seen order tasks sc t)) (new_stretch order sc (script_seen order tasks sc t) (pick by (script_seen order tasks sc t))) (script_seen order tasks sc t)
    unfolding script_state step choice script_seen release
    next_state t = refl

    module _ (t j : ℕ) (player : Player) (at : Seen order tasks sc t j player) where
      abbrev seen : State
      seen = script_seen order tasks sc t

      abbrev now : Player
      now = picked_by order player

      -- a task with work left has the tick, or none has work left
      abbrev TickGoes : Type 0
      TickGoes = ((p : ℕ) × (pick by seen ≡ Some p) × (p < length order) × (1 ≤ oldest seen p)) ⊎ ((pick by seen ≡ None) × ((p : ℕ) → p < length order → oldest seen p ≡ 0))

      tick_goes : TickGoes
      tick_goes = go (picked by seen)
        where
          go : Picked by seen → TickGoes
          go (in_stretch m e is) = inl (seen.owner, is, omega (arith, (held_at t).in_set (omega arith), by_place_length order tasks), (held_at t).job_pending (omega arith))
          go (highest p e is l pend first) = inl (p, is, omega (arith, by_place_length order tasks), pend)
          go (idle e is none_pending) = inr (is, λ p h. none_pending p (omega (arith, by_place_length order tasks)))

      -- the player picks the task that has the tick
      pub picks : (picked_by order player).picked ≡ numbered order (pick by (script_seen order tasks sc t))
      picks = pick_shows order tasks sc ready.permutes ready.few seen player at.shows (held_at t)

      shows_picked : Shows order tasks sc seen now
      shows_picked = picked_shows order tasks sc ready.permutes ready.few seen player at.shows

      -- the state after the tick
      pub goes_on : InPlay order tasks sc (suc t) j (ticked (picked_by order player))
      goes_on =
          record {
            shows = rw (next_state t) (tick_shows order tasks sc ready.permutes ready.few seen now shows_picked (held_at t) picks);
            released_before = λ d m. let l = at.released_by d m in omega arith;
            rest_from = at.rest_after;
            within = at.within;
          }

      -- what the tick shows
      pub tick_shown : shown_byte (picked_by order player) ≡ shown order tasks sc t
      unfolding shown
      tick_shown = tick_byte order tasks sc ready.permutes ready.few seen now shows_picked (held_at t) picks

      -- a task that has the tick is one of the set
      pub picked_in : IfSome (picked_by order player).picked (λ i. i < most_tasks)
      picked_in = go tick_goes
        where
          go : TickGoes → IfSome now.picked (λ i. i < most_tasks)
          go (inl (p, is, l, pend)) = rw (picks ∙ ap (numbered order) is) (omega (arith, number_found order tasks ready.permutes p l, ready.few))
          go (inr (is, none_pending)) = rw (picks ∙ ap (numbered order) is) tt

      -- ---- the end

      -- all entries are released and no task has the tick: all jobs are done
      pub all_are_done : j ≡ length sc.entries → (picked_by order player).picked ≡ None → all_done order tasks sc t ≡ true
      all_are_done last none_picked = go tick_goes
        where
          all : AllReleased sc.entries t
          all d m = at.released_by d (subst (λ l. Memᴰ d l) (sym (take_all j sc.entries (omega arith))) m)

          go : TickGoes → all_done order tasks sc t ≡ true
          go (inl (p, is, l, pend)) = let z : None ≡ Some (number_at order p) = sym none_picked ∙ picks ∙ ap (numbered order) is in let y : ⊥ = cc in absurd y
          go (inr (is, none_pending)) = (done_is order tasks sc t).1 (record { released = all; complete = λ p h. oldest_none _ (none_pending p h) })

      -- an entry is left, or a task has the tick: they are not
      pub not_all_released : j < length sc.entries → all_done order tasks sc t ≡ false
      not_all_released in_row =
          let e = get_or sc.entries j no_entry in
          (undone_is order tasks sc t).1
          (inl (e, member_at sc.entries j in_row, at.rest_after e (subst (Memᴰ e) (sym (drop-cons sc.entries j no_entry in_row)) (Memᴰ.head refl))))

      pub not_all_done : (i : ℕ) → (picked_by order player).picked ≡ Some i → all_done order tasks sc t ≡ false
      not_all_done i is_picked = go tick_goes
        where
          go : TickGoes → all_done order tasks sc t ≡ false
          go (inl (p, is, l, pend)) = (undone_is order tasks sc t).1 (inr (p, l, le_trans pend (oldest_at_most (seen.lanes p).jobs)))
          go (inr (is, none_pending)) = let z : None ≡ Some i = sym (picks ∙ ap (numbered order) is) ∙ is_picked in let y : ⊥ = cc in absurd y
