-- A pick and a tick of the player go the way of the theory's, and a look ahead changes nothing of what is shown.
use Rattle.std.specs.Prelude.{None, Option, Some}
use Rattle.std.specs.Option.{option_map}
use mathlib.Core.List.{List, [], ◌∷◌}
use mathlib.Core.Path.{◌≡◌, refl, sym, ap, ◌∙◌}
use Prim.Native.Nat.{ℕ, zero, suc, pred, ◌+◌, ◌≤◌, ◌<◌}
use native.Mathlib.Decide.{ℕ_discrete, dec_lt}
use native.Mathlib.Nat.{le_of_suc-le-suc, not-suc-le-zero}
use native.Mathlib.Omega.{arith}
use borrow.Author.Tests.{lt-ltb, le-ltb, ne_eqb}
use lib.ListN.{length, get_or, length-set, length-map}
use lib.Seq.{get_or-set_same, get_or-set_other}
use Rattle.theory.specs.Tasks.{Task, task_at}
use Rattle.theory.specs.Runs.{State, pick, stretch_now, tick}
use Rattle.theory.proofs.Steps.{oldest, Picked, in_stretch, highest, idle, picked, Held, tick_served, tick_others, tick_owner, tick_to_come, tick_idle}
use Rattle.sheet.specs.Constants.{most_tasks}
use Rattle.order.specs.Claims.{Permutes}
use Rattle.analysis.specs.Times.{number_at, place_of}
use Rattle.analysis.proofs.Numbering.{number_in, number_back, place_back}
use Rattle.plays.specs.Script.{Script}
use Rattle.plays.specs.ScriptRun.{by_place, stretch_by, stretch_at, new_stretch}
use Rattle.plays.specs.Play.{shown_task, shown_stretch}
use Rattle.player.specs.State.{no_job, first_pending, pick_task, picked_by, stretch_in, served, ticked, looking_ahead, shown_byte}
use Rattle.player.specs.Shows.{SlotOf, Shows}
use Rattle.player.specs.declared.state.Job.{Job as Kept}
use Rattle.player.specs.declared.state.Player.{Player}
use Rattle.player.proofs.Slots.{slot_left, slot_lock, slot_served}
use Rattle.player.proofs.Picking as own
use Rattle.player.proofs.Soonest.{soonest_least, sooner_served, not_reached, reached}

-- ---- the first task of an order with work left

pub pending_first : (jobs : List Kept) (order : List ℕ) (p : ℕ) → p < length order → 0 < (get_or jobs (get_or order p 0) no_job).left
    → ((u : ℕ) → u < p → (get_or jobs (get_or order u 0) no_job).left ≡ 0) → first_pending jobs order ≡ Some (get_or order p 0)
pending_first jobs [] p h l earlier = absurd (not-suc-le-zero h)
pending_first jobs (i ∷ is) zero h l earlier = rw (lt-ltb 0 (get_or jobs i no_job).left l)
pending_first jobs (i ∷ is) (suc p) h l earlier =
    rw (le-ltb 0 (get_or jobs i no_job).left (omega (arith, earlier 0 (omega arith)))) (pending_first jobs is p (le_of_suc-le-suc h) l (λ u k. earlier (suc u) (omega arith)))

pub pending_none : (jobs : List Kept) (order : List ℕ) → ((u : ℕ) → u < length order → (get_or jobs (get_or order u 0) no_job).left ≡ 0) → first_pending jobs order ≡ None
pending_none jobs [] h = refl
pending_none jobs (i ∷ is) h = rw (le-ltb 0 (get_or jobs i no_job).left (omega (arith, h 0 (omega arith)))) (pending_none jobs is (λ u k. h (suc u) (omega arith)))

-- the number of the task at a place
abbrev pub numbered : List ℕ → Option ℕ → Option ℕ
numbered order p = option_map (number_at order) p

pred_le : (n : ℕ) → pred n ≤ n
pred_le zero = omega arith
pred_le (suc n) = omega arith

module _ (order : List ℕ) (tasks : List Task) (sc : Script) (permutes : Permutes (length tasks) order) (few : length tasks ≤ most_tasks) where
  abbrev by : List Task
  by = by_place order tasks

  places : length by ≡ length tasks
  places = length-map order (task_at tasks) ∙ permutes.same_length

  module _ (s : State) (player : Player) (shows : Shows order tasks sc s player) where
    -- the slot of the task at a place
    slot_at : (p : ℕ) → p < length tasks → SlotOf tasks sc player (number_at order p) (s.lanes p).jobs
    slot_at p h =
        rw (place_back (length tasks) order permutes p h) at (shows.slots (number_at order p) (number_in (length tasks) order permutes p h))

    left_at : (p : ℕ) → p < length tasks → (get_or player.jobs (number_at order p) no_job).left ≡ oldest s p
    left_at p h = sym (slot_left (slot_at p h))

    pick_free : s.to_come ≡ 0 → pick_task order player ≡ first_pending player.jobs order
    pick_free e = rw (shows.coming, e)

    pick_held : {m : ℕ} → s.to_come ≡ suc m → pick_task order player ≡ player.picked
    pick_held {m} e = rw (shows.coming, e, ne_eqb (suc m) 0 (λ z. absurd (omega arith)))

    -- the task that the player picks is that of the place that has the tick
    pub pick_shows : Held by s → pick_task order player ≡ numbered order (pick by s)
    unfolding number_at
    pick_shows held = go (picked by s)
      where
        go : Picked by s → pick_task order player ≡ numbered order (pick by s)
        go (in_stretch m e q) = rw q (pick_held e ∙ sym (shows.holder (omega arith)))
        go (highest p e q l pend first) =
            rw q
            (pick_free e
            ∙ pending_first player.jobs order p (omega (arith, places, permutes.same_length)) (omega (arith, left_at p (omega (arith, places))))
            (λ u k. left_at u (omega (arith, places)) ∙ first u k))
        go (idle e q none_pending) =
            rw q (pick_free e ∙ pending_none player.jobs order (λ u k. left_at u (omega (arith, permutes.same_length)) ∙ none_pending u (omega (arith, places, permutes.same_length))))

    -- the picked state shows the same
    pub picked_shows : Shows order tasks sc s (picked_by order player)
    picked_shows =
        record {
          slots = shows.slots;
          coming = shows.coming;
          holder = λ h. go s.to_come refl h;
          no_sooner = shows.no_sooner;
          room = shows.room;
        }
      where
        go : (n : ℕ) → s.to_come ≡ n → 1 ≤ n → Some (number_at order s.owner) ≡ pick_task order player
        go zero e h = absurd (not-suc-le-zero h)
        go (suc m) e h = shows.holder (omega arith) ∙ sym (pick_held e)

  -- ---- looking ahead

  -- the state shows the same
  pub ahead_shows : (s : State) (player : Player) (t : ℕ) → Shows order tasks sc s player → Shows order tasks sc s (looking_ahead player t)
  ahead_shows s player t shows = go (dec_lt t player.soonest)
    where
      go : Dec (t < player.soonest) → Shows order tasks sc s (looking_ahead player t)
      go (yes h) = rw (not_reached player t h) shows
      go (no h) =
          rw (reached player t (omega arith))
          (record {
            slots = shows.slots;
            coming = shows.coming;
            holder = shows.holder;
            no_sooner = λ i h l. soonest_least player.jobs i (omega (arith, shows.room)) l;
            room = shows.room;
          })

  -- ---- a tick

  module _ (s : State) (player : Player) (shows : Shows order tasks sc s player) (p new : ℕ) (p_in : p < length tasks) (pend : 1 ≤ oldest s p)
      (has_it : player.picked ≡ Some (number_at order p)) (same_stretch : stretch_in player (number_at order p) ≡ stretch_now s.to_come new) where
    abbrev after : State
    after = tick (Some p) new s

    abbrev i : ℕ
    i = number_at order p

    abbrev slot : Kept
    slot = get_or player.jobs i no_job

    abbrev then : Kept
    then = record { left = pred slot.left; due = slot.due; lock = slot.lock }

    i_in : i < length player.jobs
    i_in = omega (arith, number_in (length tasks) order permutes p p_in, shows.room)

    -- the task that has the tick, and the others
    own_slot : SlotOf tasks sc (served player i) i (after.lanes p).jobs
    own_slot =
        rw (tick_served p new s, get_or-set_same player.jobs i then no_job i_in)
        (slot_served (omega (arith, left_at s player shows p p_in)) (slot_at s player shows p p_in))

    other_slot : (u : ℕ) → u < length tasks → ¬ (u ≡ i) → SlotOf tasks sc (served player i) u (after.lanes (place_of order u)).jobs
    other_slot u h ne =
        let elsewhere : ¬ (place_of order u ≡ p) = λ e. ne (sym (number_back (length tasks) order permutes u h) ∙ ap (number_at order) e) in
        rw (tick_others p new s (place_of order u) elsewhere, get_or-set_other player.jobs i u then no_job ne) (shows.slots u h)

    served_slot : (u : ℕ) → u < length tasks → SlotOf tasks sc (served player i) u (after.lanes (place_of order u)).jobs
    served_slot u h = go (ℕ_discrete u i)
      where
        go : Dec (u ≡ i) → SlotOf tasks sc (served player i) u (after.lanes (place_of order u)).jobs
        go (yes e) = rw (e, place_back (length tasks) order permutes p p_in) own_slot
        go (no ne) = other_slot u h ne

    less : pred (get_or player.jobs (number_at order p) no_job).left ≤ (get_or player.jobs (number_at order p) no_job).left
    less = pred_le _

    served_shows : Shows order tasks sc (tick (Some p) new s) (served player (number_at order p))
    served_shows =
        record {
          slots = served_slot;
          coming = rw (left_at s player shows p p_in, same_stretch) (sym (tick_to_come p new s));
          holder = λ _. ap (λ q. Some (number_at order q)) (tick_owner p new s) ∙ sym has_it;
          no_sooner = sooner_served player.soonest (length tasks) player.jobs shows.no_sooner i then i_in less refl;
          room = length-set player.jobs i then ∙ shows.room;
        }

  module _ (s : State) (player : Player) (shows : Shows order tasks sc s player) (held : Held by s) where
    -- the stretch at the tick: of one under way what is to come, or of the one that the script starts
    under_way : {m : ℕ} (i new : ℕ) → s.to_come ≡ suc m → stretch_in player i ≡ stretch_now s.to_come new
    unfolding stretch_now
    under_way i new e = rw (shows.coming, e)

    starts : (p : ℕ) → p < length tasks → 1 ≤ oldest s p → s.to_come ≡ 0
        → stretch_in player (number_at order p) ≡ stretch_now s.to_come (new_stretch order sc s (Some p))
    unfolding stretch_now new_stretch stretch_at
    starts p h pend e =
        rw (shows.coming, e)
        (ap stretch_by (sym (slot_lock sc (number_at order p) (slot_at s player shows p h) (omega (arith, left_at s player shows p h)))))

    -- a tick that a task has, or an idle one
    data Goes : Type 0 where
      given : (p : ℕ) → pick by s ≡ Some p → p < length tasks → 1 ≤ oldest s p
          → stretch_in player (number_at order p) ≡ stretch_now s.to_come (new_stretch order sc s (Some p)) → Goes
      idles : pick by s ≡ None → s.to_come ≡ 0 → Goes

    goes : Goes
    goes = go (picked by s)
      where
        go : Picked by s → Goes
        go (in_stretch m e q) =
            given s.owner q (omega (arith, held.in_set (omega arith), places)) (held.job_pending (omega arith)) (under_way (number_at order s.owner) (new_stretch order sc s (Some s.owner)) e)
        go (highest p e q l pend first) = let h : p < length tasks = omega (arith, places) in given p q h pend (starts p h pend e)
        go (idle e q none_pending) = idles q e

    -- a tick of the player goes the way of the theory's, with the stretch that the script chooses
    pub tick_shows : player.picked ≡ numbered order (pick by s)
        → Shows order tasks sc (tick (pick by s) (new_stretch order sc s (pick by s)) s) (ticked player)
    tick_shows has_it = go goes
      where
        go : Goes → Shows order tasks sc (tick (pick by s) (new_stretch order sc s (pick by s)) s) (ticked player)
        go (given p q h pend same) =
            let its : player.picked ≡ Some (number_at order p) = has_it ∙ ap (numbered order) q in
            rw (q, ← own.tick_served player (number_at order p) its (omega (arith, number_in (length tasks) order permutes p h))) (served_shows s player shows p (new_stretch order sc s (Some p)) h pend its same)
        go (idles q e) =
            let nobody : player.picked ≡ None = has_it ∙ ap (numbered order) q in
            rw (tick_idle (new_stretch order sc s (pick by s)) s q, ← own.tick_idle player nobody) shows

    no_stretch : s.to_come ≡ 0 → ◌≡◌ {A = ℕ} (shown_stretch (stretch_now s.to_come (new_stretch order sc s None))) 0
    unfolding shown_stretch stretch_now new_stretch stretch_at
    no_stretch e = rw e

    -- what the tick shows
    pub tick_byte : player.picked ≡ numbered order (pick by s)
        → shown_byte player ≡ shown_task order (pick by s) + shown_stretch (stretch_now s.to_come (new_stretch order sc s (pick by s)))
    unfolding shown_task
    tick_byte has_it = go goes
      where
        nothing_shown : s.to_come ≡ 0 → ◌≡◌ {A = ℕ} (most_tasks + shown_stretch (stretch_now s.to_come (new_stretch order sc s None))) most_tasks
        nothing_shown e = omega (arith, no_stretch e)

        go : Goes → shown_byte player ≡ shown_task order (pick by s) + shown_stretch (stretch_now s.to_come (new_stretch order sc s (pick by s)))
        go (given p q h pend same) =
            rw q (own.shown_some player (number_at order p) (has_it ∙ ap (numbered order) q) ∙ ap (λ n. number_at order p + shown_stretch n) same)
        go (idles q e) = rw q (sym (own.shown_none player (has_it ∙ ap (numbered order) q)) ∙ sym (nothing_shown e))
