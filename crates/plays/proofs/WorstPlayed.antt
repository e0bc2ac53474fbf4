-- The run of the worst script is the worst run.
use Rattle.std.specs.Prelude.{None, Option, Some}
use mathlib.Core.List.{List, [], ◌∷◌}
use mathlib.Core.Path.{◌≡◌, refl, sym, ◌∙◌, ap}
use Prim.Native.Nat.{ℕ, zero, suc, ◌+◌, ◌≤◌, ◌<◌}
use native.Mathlib.Decide.{dec_lt}
use native.Mathlib.Nat.{add-zero, zero-add, add-suc, suc-add}
use native.Mathlib.Omega.{arith}
use borrow.Author.Tests.{le-leb}
use lib.ListN.{length, get_or}
use Rattle.theory.specs.Tasks.{Task, task_at, frame_count, deadline_of, Admitted}
use Rattle.theory.specs.Analysis.{blocker}
use Rattle.theory.specs.Runs.{Job, job, State, Input, Run, release, pick, start_state, state_at, seen_at, Legal}
use Rattle.theory.specs.WorstRun.{role, worst_first, worst_run}
use Rattle.theory.proofs.Blocking.{IsBlocker, blocker_is}
use Rattle.theory.proofs.Steps.{oldest, Picked, in_stretch, highest, idle, picked, Held, held, held_seen}
use Rattle.theory.proofs.WorstReleases.{RoleOf, is_above, is_own, is_blocker, is_absent, once_at, role_of, role_blocks, release_blocker}
use Rattle.theory.proofs.WorstFirstTick.{blocker_lane, none_under_way, FirstTick, blocked, unblocked, first_tick, blocker_stretch, unblocked_stretch}
use Rattle.theory.proofs.WorstLegal.{no_later_stretch, worst_legal}
use Rattle.order.specs.Claims.{Permutes}
use Rattle.analysis.specs.Times.{number_at, place_of}
use Rattle.analysis.proofs.Numbering.{place_back}
use Rattle.plays.specs.Script.{Script, entry_of}
use Rattle.plays.specs.ScriptRun.{by_place, work_of, lock_of, released_at, pending_lock, stretch_by, new_stretch, choice, script_state, script_run}
use Rattle.plays.specs.Play.{script_seen}
use Rattle.plays.specs.WorstScript.{worst_lock, role_of_task, worst_firsts, worst_script, SameRun}
use Rattle.plays.proofs.ScriptLanes.{by_place_length, by_place_at, place_found, number_found}
use Rattle.plays.proofs.ScriptLegal.{stretch_under_way, stretch_idle, stretch_starts}
use Rattle.plays.proofs.SameStates.{SameState, picked_in, same_release, same_pick, same_step}
use Rattle.plays.proofs.WorstEntries.{row_entry, release_of_task, lock_of_task, worst_entry_of, worst_entry_none}
use Rattle.plays.proofs.WorstLanes.{blocker_pends}

-- ---- what a script gives, from its entries

row_work : (i t lock : ℕ) (o : Option ℕ) → work_of (row_entry i t lock o) ≡ o
unfolding work_of row_entry
row_work i t lock None = refl
row_work i t lock (Some w) = refl

row_lock : (i t lock w : ℕ) → lock_of (row_entry i t lock (Some w)) ≡ lock
unfolding lock_of row_entry
row_lock i t lock w = refl

row_no_lock : (i t : ℕ) (o : Option ℕ) → lock_of (row_entry i t 0 o) ≡ 0
unfolding lock_of row_entry
row_no_lock i t None = refl
row_no_lock i t (Some w) = refl

no_entry_lock : lock_of None ≡ 0
unfolding lock_of
no_entry_lock = refl

-- where no entry of a task has a lock, none is pending
no_pending_lock : (sc : Script) (i : ℕ) → ((r : ℕ) → lock_of (entry_of sc.entries i r) ≡ 0) → (js : List Job) → pending_lock sc i js ≡ 0
unfolding pending_lock
no_pending_lock sc i h [] = refl
no_pending_lock sc i h (job r f zero ∷ js) = no_pending_lock sc i h js
no_pending_lock sc i h (job r f (suc w) ∷ js) = h r

one_pending_lock : (sc : Script) (i r f w : ℕ) → 1 ≤ w → pending_lock sc i (job r f w ∷ []) ≡ lock_of (entry_of sc.entries i r)
unfolding pending_lock
one_pending_lock sc i r f zero h = absurd (omega arith)
one_pending_lock sc i r f (suc w) h = refl

stretch_of : (lock : ℕ) → 2 ≤ lock → stretch_by lock ≡ lock
unfolding stretch_by
stretch_of lock h = rw (le-leb 2 lock h)

module _ (order : List ℕ) (sc : Script) where
  -- the stretch that a script starts depends on the lane of the place picked alone
  same_stretch : {n : ℕ} {s s' : State} → SameState n s s' → (o : Option ℕ) → ((q : ℕ) → o ≡ Some q → q < n) → new_stretch order sc s o ≡ new_stretch order sc s' o
  same_stretch {n} {s} {s'} same o h = go s'.to_come refl o h
    where
      go : (m : ℕ) → s'.to_come ≡ m → (o : Option ℕ) → ((q : ℕ) → o ≡ Some q → q < n) → new_stretch order sc s o ≡ new_stretch order sc s' o
      go (suc m) e o h = stretch_under_way order sc s o (same.same_to_come ∙ e) ∙ sym (stretch_under_way order sc s' o e)
      go zero e None h = stretch_idle order sc s (same.same_to_come ∙ e) refl ∙ sym (stretch_idle order sc s' e refl)
      go zero e (Some q) h =
          stretch_starts order sc s (same.same_to_come ∙ e) refl
          ∙ ap (λ l. stretch_by (pending_lock sc (number_at order q) l.jobs)) (same.same_lanes q (h q refl))
          ∙ sym (stretch_starts order sc s' e refl)

-- the place of a task is one of the set
pub place_of_number : (order : List ℕ) (tasks : List Task) → Permutes (length tasks) order → (i : ℕ) → i < length tasks → place_of order i < length (by_place order tasks)
place_of_number order tasks permutes i h = omega (arith, place_found order tasks permutes i h, by_place_length order tasks)

-- the first frames, from task a on
firsts_at : (order : List ℕ) (tasks : List Task) (p k a n i : ℕ) → i < n
    → get_or (worst_firsts order tasks p k a n) i 0 ≡ worst_first (task_at tasks (a + i)) k (role_of_task order tasks p k (a + i))
unfolding worst_firsts
firsts_at order tasks p k a zero i h = absurd (omega arith)
firsts_at order tasks p k a (suc n) zero h = rw (add-zero a)
firsts_at order tasks p k a (suc n) (suc i) h = rw (add-suc a i, ← suc-add a i) (firsts_at order tasks p k (suc a) n i (omega arith))

module _ (order : List ℕ) (tasks : List Task) (permutes : Permutes (length tasks) order) (admitted : Admitted (by_place order tasks)) (p : ℕ) (in_set : p < length tasks) (k : ℕ) (k_in : k < frame_count (task_at (by_place order tasks) p)) where
  abbrev set : List Task
  set = by_place order tasks

  abbrev sc : Script
  sc = worst_script order tasks p k

  abbrev worst : Run
  worst = worst_run set p k

  abbrev D : ℕ
  D = deadline_of (task_at set p) k

  set_length : length set ≡ length tasks
  set_length = by_place_length order tasks ∙ permutes.same_length

  -- place p is one of the set
  pub place_in_set : p < length (by_place order tasks)
  place_in_set = omega (arith, set_length)

  -- the worst run is legal
  pub worst_run_is_legal : Legal (by_place order tasks) (worst_run (by_place order tasks) p k)
  worst_run_is_legal = worst_legal set admitted p place_in_set k k_in

  -- ---- the script's entries by place

  task_by_place : (q : ℕ) → q < length set → task_at set q ≡ task_at tasks (number_at order q)
  task_by_place q h = by_place_at order tasks q (omega (arith, set_length, permutes.same_length))

  number_in_set : (q : ℕ) → q < length set → number_at order q < length tasks
  number_in_set q h = number_found order tasks permutes q (omega (arith, by_place_length order tasks))

  role_by_place : (q : ℕ) → q < length set → role_of_task order tasks p k (number_at order q) ≡ role set p q
  unfolding role_of_task
  role_by_place q h = ap (role set p) (place_back (length tasks) order permutes q (omega (arith, set_length)))

  release_by_place : (t q : ℕ) → q < length set → release_of_task order tasks p k (number_at order q) t ≡ (worst.input t).release_of q
  unfolding worst_run
  release_by_place t q h = rw (role_by_place q h, task_by_place q h)

  lock_by_place : (q : ℕ) → q < length set → lock_of_task order tasks p k (number_at order q) ≡ worst_lock (task_at set q) (role set p q)
  lock_by_place q h = rw (role_by_place q h, task_by_place q h)

  -- the script releases what the worst run releases
  pub released_same : (t q : ℕ) → t < suc (deadline_of (task_at (by_place order tasks) p) k) → q < length (by_place order tasks)
      → released_at order (worst_script order tasks p k) t q ≡ ((worst_run (by_place order tasks) p k).input t).release_of q
  unfolding released_at
  released_same t q l h =
      ap work_of (worst_entry_of order tasks p k (number_at order q) t (number_in_set q h) l)
      ∙ row_work (number_at order q) t _ _
      ∙ release_by_place t q h

  -- no entry of a task but the blocker has a lock
  no_lock : (q : ℕ) → q < length set → worst_lock (task_at set q) (role set p q) ≡ 0 → (r : ℕ) → lock_of (entry_of sc.entries (number_at order q) r) ≡ 0
  no_lock q h e r = go (dec_lt r (suc D))
    where
      go : Dec (r < suc D) → lock_of (entry_of sc.entries (number_at order q) r) ≡ 0
      go (yes l) =
          ap lock_of (worst_entry_of order tasks p k (number_at order q) r (number_in_set q h) l)
          ∙ ap (λ lock. lock_of (row_entry (number_at order q) r lock (release_of_task order tasks p k (number_at order q) r))) (lock_by_place q h ∙ e)
          ∙ row_no_lock (number_at order q) r _
      go (no l) = ap lock_of (worst_entry_none order tasks p k (number_at order q) r (omega arith)) ∙ no_entry_lock

  -- the blocker's has Q
  blocker_lock : {b : ℕ} → blocker set p ≡ Some b → lock_of (entry_of sc.entries (number_at order b) 0) ≡ (task_at set b).lock
  unfolding worst_lock
  blocker_lock {b} is_b =
      let h : b < length set = (blocker_is set p is_b).in_set in
      let now : release_of_task order tasks p k (number_at order b) 0 ≡ Some (task_at set b).lock =
      release_by_place 0 b h ∙ release_blocker set p k b 0 (role_blocks set p is_b) ∙ once_at 0 (task_at set b).lock
      in
      ap lock_of (worst_entry_of order tasks p k (number_at order b) 0 (number_in_set b h) (omega arith))
      ∙ ap (λ o. lock_of (row_entry (number_at order b) 0 (lock_of_task order tasks p k (number_at order b)) o)) now
      ∙ row_lock (number_at order b) 0 _ _
      ∙ lock_by_place b h
      ∙ ap (worst_lock (task_at set b)) (role_blocks set p is_b)

  -- ---- the stretches that the script starts in the worst run's states

  abbrev seen : ℕ → State
  seen t = seen_at set worst t

  -- none but with the blocker's job
  unlocked_starts_none : (t q : ℕ) → q < length set → worst_lock (task_at set q) (role set p q) ≡ 0 → (seen t).to_come ≡ 0 → pick set (seen t) ≡ Some q
      → new_stretch order sc (seen t) (pick set (seen t)) ≡ 0
  unfolding stretch_by
  unlocked_starts_none t q h e free at =
      stretch_starts order sc (seen t) free at ∙ ap stretch_by (no_pending_lock sc (number_at order q) (no_lock q h e) ((seen t).lanes q).jobs)

  first_starts : new_stretch order sc (seen 0) (pick set (seen 0)) ≡ (worst.input 0).stretch
  first_starts = go (first_tick set p k)
    where
      go : FirstTick set p k → new_stretch order sc (seen 0) (pick set (seen 0)) ≡ (worst.input 0).stretch
      go (unblocked no_b at) = stretch_idle order sc (seen 0) (none_under_way set p k) at ∙ sym (unblocked_stretch set p k no_b)
      go (blocked b is_b at) =
          let i : IsBlocker set p b = blocker_is set p is_b in
          stretch_starts order sc (seen 0) (none_under_way set p k) at
          ∙ ap (λ js. stretch_by (pending_lock sc (number_at order b) js)) (blocker_lane set p k is_b)
          ∙ ap stretch_by (one_pending_lock sc (number_at order b) 0 _ (task_at set b).lock (omega (arith, i.locks)) ∙ blocker_lock is_b)
          ∙ stretch_of (task_at set b).lock i.locks
          ∙ sym (blocker_stretch set p k is_b)

  later_starts : (t : ℕ) → new_stretch order sc (seen (suc t)) (pick set (seen (suc t))) ≡ 0
  unfolding worst_lock
  later_starts t = go (picked set (seen (suc t)))
    where
      by_role : (q : ℕ) → q < length set → (seen (suc t)).to_come ≡ 0 → pick set (seen (suc t)) ≡ Some q → 1 ≤ oldest (seen (suc t)) q → RoleOf set p q
          → new_stretch order sc (seen (suc t)) (pick set (seen (suc t))) ≡ 0
      by_role q h free at pend (is_above l r) = unlocked_starts_none (suc t) q h (ap (worst_lock (task_at set q)) r) free at
      by_role q h free at pend (is_own l r) = unlocked_starts_none (suc t) q h (ap (worst_lock (task_at set q)) r) free at
      by_role q h free at pend (is_absent l b r) = unlocked_starts_none (suc t) q h (ap (worst_lock (task_at set q)) r) free at
      by_role q h free at pend (is_blocker l b r) =
          let z : ⊥ = omega (arith, blocker_pends set admitted p place_in_set k k_in q b t) in absurd z

      go : Picked set (seen (suc t)) → new_stretch order sc (seen (suc t)) (pick set (seen (suc t))) ≡ 0
      go (in_stretch m under_way at) = stretch_under_way order sc (seen (suc t)) _ under_way
      go (highest q free at h pend earlier) = by_role q h free at pend (role_of set p q)
      go (idle free at none_pending) = stretch_idle order sc (seen (suc t)) free at

  starts_same : (t : ℕ) → new_stretch order sc (seen t) (pick set (seen t)) ≡ (worst.input t).stretch
  starts_same zero = first_starts
  starts_same (suc t) = later_starts t ∙ sym (no_later_stretch set admitted p place_in_set k k_in t)

  -- ---- state by state

  -- the script's first frames are those of the worst run
  pub first_frame_same : (q : ℕ) → q < length (by_place order tasks)
      → get_or (worst_script order tasks p k).firsts (number_at order q) 0 ≡ (worst_run (by_place order tasks) p k).first_frame q
  unfolding worst_script worst_run
  first_frame_same q h =
      firsts_at order tasks p k 0 (length tasks) (number_at order q) (number_in_set q h)
      ∙ rw (zero-add (number_at order q), role_by_place q h, task_by_place q h)

  held_at : (t : ℕ) → t ≤ suc D → Held set (state_at set worst t)
  unfolding worst_run
  held_at t h = held set worst worst_run_is_legal t h

  choice_releases : (t : ℕ) → t < suc D → (q : ℕ) → q < length set → (choice order tasks sc t (script_state order tasks sc t)).release_of q ≡ (worst.input t).release_of q
  unfolding choice
  choice_releases t l q h = released_same t q l h

  choice_stretch : (t : ℕ) → t < suc D → SameState (length set) (script_state order tasks sc t) (state_at set worst t)
      → (choice order tasks sc t (script_state order tasks sc t)).stretch ≡ (worst.input t).stretch
  unfolding choice seen_at
  choice_stretch t l same =
      let i : Input = record { release_of = released_at order sc t; stretch = 0 } in
      let shown : SameState (length set) (release set t i (script_state order tasks sc t)) (seen t) =
      same_release same set t i (worst.input t) (λ q h. released_same t q l h)
      in
      rw (same_pick set shown)
      (same_stretch order sc shown (pick set (seen t)) (picked_in set (seen t) (held_seen set worst t (held_at t (omega arith))).in_set)
      ∙ starts_same t)

  -- The states of the worst script are those of the worst run at each place of the set, up to moment 1 + D.
  pub worst_same : (t : ℕ) → t ≤ suc (deadline_of (task_at (by_place order tasks) p) k)
      → SameState (length (by_place order tasks)) (script_state order tasks (worst_script order tasks p k) t) (state_at (by_place order tasks) (worst_run (by_place order tasks) p k) t)
  unfolding script_state state_at start_state
  worst_same zero h =
      record { same_lanes = λ q l. rw (first_frame_same q l); same_owner = refl; same_to_come = refl }
  worst_same (suc t) h =
      let before = worst_same t (omega arith) in
      same_step set t (choice order tasks sc t (script_state order tasks sc t)) (worst.input t) before (held_at t (omega arith)).in_set
      (choice_releases t h)
      (choice_stretch t h before)

  -- The same with the releases of the tick seen.
  pub worst_seen_same : (t : ℕ) → t < suc (deadline_of (task_at (by_place order tasks) p) k)
      → SameState (length (by_place order tasks)) (script_seen order tasks (worst_script order tasks p k) t) (seen_at (by_place order tasks) (worst_run (by_place order tasks) p k) t)
  unfolding script_seen seen_at
  worst_seen_same t h =
      same_release (worst_same t (omega arith)) set t (choice order tasks sc t (script_state order tasks sc t)) (worst.input t) (choice_releases t h)

  -- The run of the worst script is the worst run: the same first frames, releases and stretches, and as many ticks.
  pub worst_script_is :
      SameRun (suc (deadline_of (task_at (by_place order tasks) p) k)) (by_place order tasks)
      (script_run order tasks (worst_script order tasks p k) (suc (deadline_of (task_at (by_place order tasks) p) k)))
      (worst_run (by_place order tasks) p k)
  unfolding script_run worst_run
  worst_script_is =
      record {
        same_firsts = first_frame_same;
        same_releases = λ t q l h. choice_releases t l q h;
        same_stretches = λ t l. choice_stretch t l (worst_same t (omega arith));
        same_ticks = (refl, refl);
      }
