-- The run of a script of which no item is turned away keeps the run rules.
use Rattle.std.specs.Prelude.{None, Option, Some}
use mathlib.Core.Bool.{Bool, true, false, cond}
use mathlib.Core.List.{List, [], ◌∷◌, ◌++◌}
use Rattle.theory.proofs.Options.{none_ne_some, some_injective}
use mathlib.Core.Path.{◌≡◌, refl, sym, ◌∙◌, ap}
use Prim.Native.Nat.{ℕ, zero, suc, ◌+◌, ◌≤◌, ◌<◌, zero-le}
use native.Mathlib.Nat.{le_refl, le_trans, le_of_suc-le-suc, add-zero, zero-add}
use native.Mathlib.Omega.{arith}
use borrow.Author.Tests.{not-false, ltb-true}
use lib.Dec.{leb}
use lib.ListN.{length, get_or}
use Rattle.theory.specs.Tasks.{Task, task_at, frame_count, frame}
use Rattle.theory.specs.Runs.{Job, job, State, release, pick, longest_stretch, LegalTick, Legal}
use Rattle.theory.proofs.Steps.{Picked, in_stretch, highest, idle, picked}
use Rattle.lent.specs.Checks.{first_refusal}
use Rattle.lent.proofs.Checks.{passed, both_passed}
use Rattle.order.specs.Claims.{Permutes}
use Rattle.analysis.specs.Times.{number_at, place_of}
use Rattle.analysis.proofs.Numbering.{number_in, place_back}
use Rattle.plays.specs.Script.{Script, entry_of}
use Rattle.plays.specs.declared.Entry.{Entry}
use Rattle.plays.specs.Items.{first_ledger, first_frame_checks, entry_checks, item_checks}
use Rattle.plays.specs.ScriptRun.{by_place, work_of, lock_of, pending_lock, stretch_by, stretch_at, new_stretch, choice, script_state, script_run}
use Rattle.plays.specs.Play.{script_seen}
use Rattle.plays.proofs.States.{run_state, run_seen}
use Rattle.plays.proofs.ScriptLanes.{by_place_length, by_place_at}
use Rattle.plays.proofs.Ledgers.{InOrder, Sound, after_entries, entry_found, releases, ledger_is_lane, each_sound, checked_in_order}

-- first frames of which none is turned away, of the tasks from task a on, are frames of their tasks
pub firsts_fit : (tasks : List Task) (a : ℕ) (ks : List ℕ) → first_refusal (first_frame_checks tasks a ks) ≡ None
    → (i : ℕ) → i < length ks → get_or ks i 0 < frame_count (task_at tasks (a + i))
unfolding first_frame_checks
firsts_fit tasks a [] h i l = absurd (omega arith)
firsts_fit tasks a (k ∷ ks) h zero l = rw (add-zero a) (ltb-true _ _ (not-false _ (passed _ (first_frame_checks tasks (suc a) ks) h).0))
firsts_fit tasks a (k ∷ ks) h (suc i) l =
    let same : suc a + i ≡ a + suc i = omega arith in
    rw (← same) (firsts_fit tasks (suc a) ks (passed _ (first_frame_checks tasks (suc a) ks) h).1 i (le_of_suc-le-suc l))

-- a release has its entry
pub work_some : {o : Option Entry} {w : ℕ} → work_of o ≡ Some w → (e : Entry) × (o ≡ Some e) × (e.work ≡ w)
unfolding work_of
work_some {o = None} {w} q = absurd (none_ne_some w q)
work_some {o = Some e} {w} q = (e, refl, some_injective e.work w q)

-- no stretch is longer than the lock that starts it
stretch_by_le : (lock : ℕ) → stretch_by lock ≤ lock
unfolding stretch_by
stretch_by_le lock = go (leb 2 lock)
  where
    go : (b : Bool) → cond b lock 0 ≤ lock
    go true = le_refl lock
    go false = zero-le

module _ (order : List ℕ) (sc : Script) (s : State) where
  -- in a stretch under way none starts
  pub stretch_under_way : {m : ℕ} (o : Option ℕ) → s.to_come ≡ suc m → new_stretch order sc s o ≡ 0
  unfolding new_stretch
  stretch_under_way o e = rw e

  -- nor with nobody
  pub stretch_idle : {o : Option ℕ} → s.to_come ≡ 0 → o ≡ None → new_stretch order sc s o ≡ 0
  unfolding new_stretch stretch_at
  stretch_idle e q = rw (e, q)

  -- and else one by the lock of the job that has the tick
  pub stretch_starts : {o : Option ℕ} {p : ℕ} → s.to_come ≡ 0 → o ≡ Some p
      → new_stretch order sc s o ≡ stretch_by (pending_lock sc (number_at order p) (s.lanes p).jobs)
  unfolding new_stretch stretch_at
  stretch_starts e q = rw (e, q)

  longest_starts : (set : List Task) {o : Option ℕ} {p : ℕ} → s.to_come ≡ 0 → o ≡ Some p → longest_stretch set s.to_come o ≡ (task_at set p).lock
  unfolding longest_stretch
  longest_starts set e q = rw (e, q)

-- what a script's run has as stretch
stretch_is : (order : List ℕ) (tasks : List Task) (sc : Script) (n t : ℕ)
    → ((script_run order tasks sc n).input t).stretch ≡ new_stretch order sc (script_seen order tasks sc t) (pick (by_place order tasks) (script_seen order tasks sc t))
unfolding script_run choice script_seen release
stretch_is order tasks sc n t = refl

module _ (tasks : List Task) (sc : Script) (kept : first_refusal (item_checks tasks sc) ≡ None) where
  -- none of the first frames is turned away, and none of the entries
  pub firsts_and_entries : (first_refusal (first_frame_checks tasks 0 sc.firsts) ≡ None)
      × (first_refusal (entry_checks tasks (length sc.firsts) (first_ledger sc.firsts) sc.entries) ≡ None)
  unfolding item_checks
  firsts_and_entries = both_passed (first_frame_checks tasks 0 sc.firsts) _ kept

  -- the entries of the script are in order
  pub entries_in_order : InOrder 0 sc.entries
  unfolding first_ledger
  entries_in_order = checked_in_order tasks (length sc.firsts) (first_ledger sc.firsts) sc.entries firsts_and_entries.1

  -- and each is sound after those before it
  pub entry_sound : (xs : List Entry) (e : Entry) (ys : List Entry) → sc.entries ≡ xs ++ (e ∷ ys) → Sound tasks (after_entries tasks (first_ledger sc.firsts) xs) e
  entry_sound xs e ys split = each_sound tasks (length sc.firsts) (first_ledger sc.firsts) xs e ys (rw (← split) firsts_and_entries.1)

module _ (order : List ℕ) (tasks : List Task) (sc : Script) (permutes : Permutes (length tasks) order)
    (kept : first_refusal (item_checks tasks sc) ≡ None) where
  -- what is released at a tick may be released then
  record Kept (t p : ℕ) (e : Entry) : Type 0 where
    free : ((script_state order tasks sc t).lanes p).free_from ≤ t
    work : e.work ≤ frame (task_at tasks (number_at order p)) ((script_state order tasks sc t).lanes p).next
    lock : e.lock ≤ (task_at tasks (number_at order p)).lock

  entry_kept : (t p : ℕ) (e : Entry) → p < length tasks → entry_of sc.entries (number_at order p) t ≡ Some e → Kept t p e
  entry_kept t p e l f =
      let (xs, ys, split, own, at) = entry_found sc.entries (number_at order p) t e f in
      let s : Sound tasks (after_entries tasks (first_ledger sc.firsts) xs) e = entry_sound tasks sc kept xs e ys split in
      let (next, free) = ledger_is_lane order tasks sc permutes 0 (entries_in_order tasks sc kept) xs e ys split s.in_set in
      let place : place_of order e.task ≡ p = ap (place_of order) own ∙ place_back (length tasks) order permutes p l in
      record {
        free = rw (free, place, at) at s.apart;
        work = rw (next, place, at, own) at s.work_fits;
        lock = rw (← own) s.lock_fits;
      }

  -- no lock that the script gives a task is longer than its Q
  lock_kept : (p r : ℕ) → p < length tasks → (o : Option Entry) → entry_of sc.entries (number_at order p) r ≡ o → lock_of o ≤ (task_at tasks (number_at order p)).lock
  unfolding lock_of
  lock_kept p r l None f = zero-le
  lock_kept p r l (Some e) f = (entry_kept r p e l f).lock

  pending_kept : (p : ℕ) → p < length tasks → (js : List Job) → pending_lock sc (number_at order p) js ≤ (task_at tasks (number_at order p)).lock
  unfolding pending_lock
  pending_kept p l [] = zero-le
  pending_kept p l (job r k zero ∷ js) = pending_kept p l js
  pending_kept p l (job r k (suc w) ∷ js) = lock_kept p r l (entry_of sc.entries (number_at order p) r) refl

  in_set : (p : ℕ) → p < length (by_place order tasks) → p < length tasks
  in_set p l = omega (arith, by_place_length order tasks, permutes.same_length)

  task_here : (p : ℕ) → p < length tasks → task_at (by_place order tasks) p ≡ task_at tasks (number_at order p)
  task_here p l = by_place_at order tasks p (rw permutes.same_length l)

  stretch_kept : (s : State) → Picked (by_place order tasks) s
      → new_stretch order sc s (pick (by_place order tasks) s) ≤ longest_stretch (by_place order tasks) s.to_come (pick (by_place order tasks) s)
  stretch_kept s (in_stretch m e q) = rw (stretch_under_way order sc s (pick (by_place order tasks) s) e) zero-le
  stretch_kept s (idle e q none_pending) = rw (stretch_idle order sc s e q) zero-le
  stretch_kept s (highest p e q l pend first) =
      let here : p < length tasks = in_set p l in
      rw (stretch_starts order sc s e q, longest_starts order sc s (by_place order tasks) e q, task_here p here)
      (le_trans (stretch_by_le _) (pending_kept p here (s.lanes p).jobs))

  released_kept : (n t p w : ℕ) → p < length (by_place order tasks) → ((script_run order tasks sc n).input t).release_of p ≡ Some w → (e : Entry) × Kept t p e × (e.work ≡ w)
  released_kept n t p w l r =
      let (e, f, same) = work_some (sym (releases order tasks sc n t p) ∙ r) in
      (e, entry_kept t p e (in_set p l) f, same)

  first_kept : length sc.firsts ≡ length tasks → (n p : ℕ) → p < length (by_place order tasks)
      → (script_run order tasks sc n).first_frame p < frame_count (task_at (by_place order tasks) p)
  unfolding script_run
  first_kept as_many n p l =
      let here : p < length tasks = in_set p l in
      let fits = firsts_fit tasks 0 sc.firsts (firsts_and_entries tasks sc kept).0 (number_at order p) (rw as_many (number_in (length tasks) order permutes p here)) in
      rw (task_here p here) (rw (zero-add (number_at order p)) at fits)

  tick_kept : (n t : ℕ) → LegalTick (by_place order tasks) (script_run order tasks sc n) t
  tick_kept n t =
      record {
        apart = λ p w l r. let (e, k, same) = released_kept n t p w l r in rw (run_state order tasks sc n t) k.free;
        work_fits = λ p w l r. let (e, k, same) = released_kept n t p w l r in
            rw (run_state order tasks sc n t, task_here p (in_set p l), ← same) k.work;
        stretch_fits = rw (stretch_is order tasks sc n t, run_seen order tasks sc n t) (stretch_kept _ (picked _ _));
      }

module _ (order : List ℕ) (tasks : List Task) (sc : Script) (permutes : Permutes (length tasks) order) (as_many : length sc.firsts ≡ length tasks) where
  -- a script of which no item is turned away has a run of the set
  pub script_legal : first_refusal (item_checks tasks sc) ≡ None → (n : ℕ) → Legal (by_place order tasks) (script_run order tasks sc n)
  script_legal kept n =
      record { first_frames = first_kept order tasks sc permutes kept as_many n; each_tick = λ t _. tick_kept order tasks sc permutes kept n t }
