-- The releases of a tick, entry by entry, go the way of the theory's, which sees all of them at once.
use Rattle.std.specs.Prelude.{None, Option, Some}
use mathlib.Core.List.{List, [], ◌∷◌, ◌++◌}
use mathlib.Core.Path.{◌≡◌, refl, sym, ap, ◌∙◌}
use Prim.Native.Nat.{ℕ, suc, ◌+◌, ◌≤◌, ◌<◌}
use native.Mathlib.Decide.{ℕ_discrete}
use native.Mathlib.Omega.{arith}
use lib.ListN.{length, get_or, take, drop, set, length-set}
use lib.Seq.{get_or-set_same, get_or-set_other}
use Rattle.lent.specs.Checks.{first_refusal}
use Rattle.theory.specs.Tasks.{Task, task_at, next_frame, deadline_of}
use Rattle.theory.specs.Runs.{job, Lane, State, release_lane, release}
use Rattle.theory.proofs.Lanes.{total, serve_lane_next}
use Rattle.sheet.specs.Constants.{most_tasks}
use Rattle.order.specs.Claims.{Permutes}
use Rattle.analysis.specs.Times.{number_at, place_of}
use Rattle.analysis.proofs.Numbering.{number_back}
use Rattle.plays.specs.Script.{Script, no_entry, entry_of}
use Rattle.plays.specs.Items.{item_checks}
use Rattle.plays.specs.ScriptRun.{work_of, lock_of, released_at, script_state}
use Rattle.plays.specs.Play.{script_seen}
use Rattle.plays.specs.declared.Entry.{Entry}
use Rattle.plays.proofs.Ledgers.{entry_is}
use Rattle.plays.proofs.ScriptLegal.{entries_in_order}
use Rattle.plays.proofs.ScriptFacts.{member_at, NoneAt, none_yet, none_more, entry_in_set, not_yet, now_there, others_stay}
use Rattle.plays.proofs.ScriptLanes.{task_of_number, seen_by_release, state_by_serve}
use Rattle.player.specs.State.{no_job, released}
use Rattle.player.specs.declared.state.Job.{Job as Kept}
use Rattle.player.specs.Shows.{SlotOf, ShowsJobs, Shows, locks_of}
use Rattle.player.specs.declared.state.Player.{Player}
use Rattle.player.proofs.Slots.{slot_released}
use Rattle.player.proofs.Soonest.{sooner_released}

-- the release of task i
released_of : (order : List ℕ) (sc : Script) (t p : ℕ) {i : ℕ} → number_at order p ≡ i → released_at order sc t p ≡ work_of (entry_of sc.entries i t)
unfolding released_at
released_of order sc t p e = rw e

module _ (order : List ℕ) (tasks : List Task) (sc : Script) where
  -- the lane of task i with the releases of tick t that are among the first j entries
  abbrev pub lane_with : ℕ → State → ℕ → ℕ → Lane
  lane_with t s j i = release_lane (task_at tasks i) t (work_of (entry_of (take j sc.entries) i t)) (s.lanes (place_of order i))

  -- the player's state shows the run's with these releases seen
  abbrev pub Seeing : ℕ → State → ℕ → Player → Type 0
  Seeing t s j player = ShowsJobs order tasks sc (λ i. (lane_with t s j i).jobs) s player

  -- and these frames are those of the next jobs
  abbrev pub Turning : ℕ → State → ℕ → List ℕ → Type 0
  Turning t s j frames = (i : ℕ) → i < length tasks → get_or frames i 0 ≡ (lane_with t s j i).next

  nothing_released : {o : Option Entry} (t i : ℕ) (l : Lane) → o ≡ None → release_lane (task_at tasks i) t (work_of o) l ≡ l
  unfolding release_lane work_of
  nothing_released t i l e = rw e

  one_released : {o : Option Entry} {e : Entry} (t i : ℕ) (l : Lane) → o ≡ Some e
      → (release_lane (task_at tasks i) t (work_of o) l).jobs ≡ l.jobs ++ (job t l.next e.work ∷ [])
  unfolding release_lane work_of
  one_released t i l e = rw e

  then_next : {o : Option Entry} {e : Entry} (t i : ℕ) (l : Lane) → o ≡ Some e → (release_lane (task_at tasks i) t (work_of o) l).next ≡ next_frame (task_at tasks i) l.next
  unfolding release_lane work_of
  then_next t i l e = rw e

  -- before the first entry of the tick none is seen
  pub seeing_none : (t j : ℕ) (s : State) (player : Player) → NoneAt t (take j sc.entries) → Shows order tasks sc s player → Seeing t s j player
  seeing_none t j s player none_at shows =
      record {
        slots = λ i h. rw (nothing_released t i (s.lanes (place_of order i)) (none_yet sc.entries j i t none_at)) (shows.slots i h);
        coming = shows.coming;
        holder = shows.holder;
        no_sooner = shows.no_sooner;
        room = shows.room;
      }

  pub turning_none : (t j : ℕ) (s : State) (frames : List ℕ) → NoneAt t (take j sc.entries)
      → ((i : ℕ) → i < length tasks → get_or frames i 0 ≡ (s.lanes (place_of order i)).next) → Turning t s j frames
  turning_none t j s frames none_at kept i h =
      rw (nothing_released t i (s.lanes (place_of order i)) (none_yet sc.entries j i t none_at)) (kept i h)

  module _ (kept : first_refusal (item_checks tasks sc) ≡ None) (few : length tasks ≤ most_tasks) (s : State) (j : ℕ) (in_row : j < length sc.entries) where
    abbrev e : Entry
    e = get_or sc.entries j no_entry

    abbrev lane : Lane
    lane = s.lanes (place_of order e.task)

    -- it is the entry of its task at its tick
    its_own : entry_of sc.entries e.task e.tick ≡ Some e
    its_own = entry_is 0 sc.entries (entries_in_order tasks sc kept) e (member_at sc.entries j in_row)

    locks_it : e.lock ≡ locks_of sc e.task e.tick
    unfolding lock_of
    locks_it = rw its_own

    -- its task is released at its tick with its work
    pub release_there : Permutes (length tasks) order
        → released_at order sc (get_or sc.entries j no_entry).tick (place_of order (get_or sc.entries j no_entry).task) ≡ Some (get_or sc.entries j no_entry).work
    unfolding work_of
    release_there permutes =
        released_of order sc e.tick (place_of order e.task) (number_back (length tasks) order permutes e.task (entry_in_set tasks sc kept j in_row))
        ∙ rw its_own

    module _ (frames : List ℕ) (before : Turning (get_or sc.entries j no_entry).tick s j frames) where
      -- the frame of its job is the one kept for its task
      pub frame_here : get_or frames (get_or sc.entries j no_entry).task 0 ≡ (s.lanes (place_of order (get_or sc.entries j no_entry).task)).next
      frame_here =
          before e.task (entry_in_set tasks sc kept j in_row)
          ∙ ap (λ l. l.next) (nothing_released e.tick e.task lane (not_yet tasks sc kept j in_row))

      -- the frame behind it is that of the task's next job
      pub turning_more : length frames ≡ most_tasks → (k : ℕ) → k ≡ next_frame (task_at tasks (get_or sc.entries j no_entry).task) (get_or frames (get_or sc.entries j no_entry).task 0)
          → Turning (get_or sc.entries j no_entry).tick s (suc j) (set frames (get_or sc.entries j no_entry).task k)
      turning_more room k behind i h = go (ℕ_discrete i e.task)
        where
          go : Dec (i ≡ e.task) → get_or (set frames e.task k) i 0 ≡ (lane_with e.tick s (suc j) i).next
          go (yes same) =
              rw (same, get_or-set_same frames e.task k 0 (omega (arith, entry_in_set tasks sc kept j in_row)), then_next e.tick e.task lane (now_there tasks sc kept j in_row))
              (behind ∙ ap (next_frame (task_at tasks e.task)) frame_here)
          go (no ne) =
              rw (get_or-set_other frames e.task i k 0 ne, others_stay tasks sc kept j in_row i e.tick (λ p _. ne (sym p))) (before i h)

    module _ (player : Player) (deadline : ℕ) (its_deadline : deadline ≡ deadline_of (task_at tasks e.task) lane.next) (alone : total lane.jobs ≡ 0)
        (before : Seeing (get_or sc.entries j no_entry).tick s j player) where
      abbrev then : Player
      then = released player e deadline

      abbrev new : Kept
      new = record { left = e.work; due = e.tick + deadline; lock = e.lock }

      own_slot : SlotOf tasks sc then e.task (lane_with e.tick s (suc j) e.task).jobs
      own_slot =
          let i_in : e.task < most_tasks = omega (arith, entry_in_set tasks sc kept j in_row) in
          rw (one_released e.tick e.task lane (now_there tasks sc kept j in_row), get_or-set_same player.jobs e.task new no_job (omega (arith, before.room)), its_deadline)
          (slot_released lane.jobs e.tick lane.next e.work e.lock alone locks_it)

      other_slot : (i : ℕ) → i < length tasks → ¬ (i ≡ e.task) → SlotOf tasks sc then i (lane_with e.tick s (suc j) i).jobs
      other_slot i h ne =
          rw (others_stay tasks sc kept j in_row i e.tick (λ p _. ne (sym p)), get_or-set_other player.jobs e.task i new no_job ne)
          (before.slots i h)

      -- a release of the player goes the way of the theory's
      pub seeing_more : Seeing (get_or sc.entries j no_entry).tick s (suc j) (released player (get_or sc.entries j no_entry) deadline)
      seeing_more =
          record {
            slots = λ i h. go i h (ℕ_discrete i e.task);
            coming = before.coming;
            holder = before.holder;
            no_sooner = sooner_released player.soonest (length tasks) player.jobs before.no_sooner e.task new (omega (arith, entry_in_set tasks sc kept j in_row, before.room));
            room = length-set player.jobs e.task new ∙ before.room;
          }
        where
          go : (i : ℕ) → i < length tasks → Dec (i ≡ e.task) → SlotOf tasks sc then i (lane_with e.tick s (suc j) i).jobs
          go i h (yes same) = rw same own_slot
          go i h (no ne) = other_slot i h ne

  -- behind its last entry all releases of the tick are seen
  module _ (permutes : Permutes (length tasks) order) (t j : ℕ) (none_at : NoneAt t (drop j sc.entries)) where
    same_release : (i : ℕ) → i < length tasks → released_at order sc t (place_of order i) ≡ work_of (entry_of (take j sc.entries) i t)
    same_release i h = released_of order sc t (place_of order i) (number_back (length tasks) order permutes i h) ∙ ap work_of (none_more sc.entries j i t none_at)

    lane_seen : (i : ℕ) → i < length tasks → (script_seen order tasks sc t).lanes (place_of order i) ≡ lane_with t (script_state order tasks sc t) j i
    lane_seen i h = seen_by_release order tasks sc t (place_of order i) ∙ rw (task_of_number order tasks permutes i h, same_release i h) refl

    pub seeing_all : (player : Player) → Seeing t (script_state order tasks sc t) j player → Shows order tasks sc (script_seen order tasks sc t) player
    unfolding script_seen release
    seeing_all player seeing =
        record {
          slots = λ i h. rw (ap (λ l. l.jobs) (lane_seen i h)) (seeing.slots i h);
          coming = seeing.coming;
          holder = seeing.holder;
          no_sooner = seeing.no_sooner;
          room = seeing.room;
        }

    -- a tick leaves the frames of the next jobs
    pub turning_all : (frames : List ℕ) → Turning t (script_state order tasks sc t) j frames
        → (i : ℕ) → i < length tasks → get_or frames i 0 ≡ ((script_state order tasks sc (suc t)).lanes (place_of order i)).next
    turning_all frames turning i h =
        let (b, after) = state_by_serve order tasks sc t (place_of order i) in
        turning i h ∙ sym (ap (λ l. l.next) after ∙ serve_lane_next b _ ∙ ap (λ l. l.next) (lane_seen i h))
