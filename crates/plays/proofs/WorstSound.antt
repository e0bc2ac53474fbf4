-- No item of the worst script is turned away.
use Rattle.std.specs.Prelude.{None, Some}
use mathlib.Core.Bool.{not}
use mathlib.Core.List.{List, [], ◌∷◌, ◌++◌, Memᴰ}
use mathlib.Core.Path.{◌≡◌, refl, ◌∙◌, ap}
use Prim.Native.Nat.{ℕ, zero, suc, ◌+◌, ◌≤◌, ◌<◌}
use native.Mathlib.Omega.{arith}
use borrow.Author.Tests.{lt-ltb}
use lib.ListN.{length}
use Rattle.theory.specs.Tasks.{Task, task_at, frame_count, Admitted}
use Rattle.theory.specs.Runs.{LegalTick, Legal}
use Rattle.theory.specs.WorstRun.{worst_first, worst_run}
use Rattle.sheet.specs.Constants.{most_tasks}
use Rattle.lent.specs.Checks.{first_refusal}
use Rattle.lent.proofs.Checks.{passed_over, no_check, none_first}
use Rattle.order.specs.Claims.{Permutes}
use Rattle.analysis.specs.Times.{place_of}
use Rattle.plays.specs.Script.{Script}
use Rattle.plays.specs.declared.Entry.{Entry}
use Rattle.plays.specs.Items.{Ledger, standing, first_ledger, after_entry, first_frame_checks, entry_checks, item_checks}
use Rattle.plays.specs.ScriptRun.{by_place}
use Rattle.plays.specs.WorstScript.{role_of_task, worst_firsts, worst_script}
use Rattle.plays.proofs.Ledgers.{after_entries, InOrder, Sound, sound_is, ledger_is_lane}
use Rattle.plays.proofs.ScriptLanes.{task_of_number}
use Rattle.plays.proofs.WorstEntries.{release_of_task, WorstEntry, worst_entry_is, worst_entry_in_range, worst_entries_in_order}
use Rattle.plays.proofs.WorstPlayed.{place_of_number, worst_run_is_legal, worst_same}

module _ (tasks : List Task) where
  -- where each entry is sound after those before it, none is turned away
  none_refused : (j : ℕ) (c : Ledger) (es : List Entry)
      → ((xs : List Entry) (e : Entry) (ys : List Entry) → es ≡ xs ++ (e ∷ ys) → Sound tasks (after_entries tasks c xs) e)
      → first_refusal (entry_checks tasks j c es) ≡ None
  unfolding entry_checks after_entries
  none_refused j c [] h = no_check
  none_refused j c (e ∷ es) h =
      passed_over _ j _ (ap not ((sound_is tasks c e).1 (h [] e es refl)))
      ∙ none_refused (suc j) (after_entry tasks c e) es (λ xs d ys split. h (e ∷ xs) d ys (ap (λ l. e ∷ l) split))

  -- of entries in order each stands behind those before it
  stands_behind : (c : Ledger) (xs : List Entry) (e : Entry) (ys : List Entry) → InOrder c.behind (xs ++ (e ∷ ys)) → (after_entries tasks c xs).behind ≤ standing e
  unfolding after_entries after_entry
  stands_behind c [] e ys o = o.0
  stands_behind c (x ∷ xs) e ys o = stands_behind (after_entry tasks c x) xs e ys o.1

module _ (order : List ℕ) (tasks : List Task) (few : length tasks ≤ most_tasks) (permutes : Permutes (length tasks) order) (admitted : Admitted (by_place order tasks)) (p : ℕ) (in_set : p < length tasks) (k : ℕ) (k_in : k < frame_count (task_at (by_place order tasks) p)) where
  abbrev set : List Task
  set = by_place order tasks

  abbrev sc : Script
  sc = worst_script order tasks p k

  legal : Legal set (worst_run set p k)
  legal = worst_run_is_legal order tasks permutes admitted p in_set k k_in

  -- ---- first frames

  first_fits : (i : ℕ) → i < length tasks → worst_first (task_at tasks i) k (role_of_task order tasks p k i) < frame_count (task_at tasks i)
  unfolding worst_run role_of_task
  first_fits i h = rw (← task_of_number order tasks permutes i h) (legal.first_frames (place_of order i) (place_of_number order tasks permutes i h))

  firsts_pass : (a n : ℕ) → a + n ≤ length tasks → first_refusal (first_frame_checks tasks a (worst_firsts order tasks p k a n)) ≡ None
  unfolding first_frame_checks worst_firsts
  firsts_pass a zero h = no_check
  firsts_pass a (suc n) h =
      passed_over _ a _ (ap not (lt-ltb _ _ (first_fits a (omega arith)))) ∙ firsts_pass (suc a) n (omega arith)

  -- ---- entries

  in_order : InOrder 0 sc.entries
  in_order = worst_entries_in_order order tasks p k few

  first_behind : InOrder (first_ledger sc.firsts).behind sc.entries
  unfolding first_ledger
  first_behind = in_order

  release_there : (i t : ℕ) → i < length tasks → ((worst_run set p k).input t).release_of (place_of order i) ≡ release_of_task order tasks p k i t
  unfolding worst_run role_of_task
  release_there i t h = rw (task_of_number order tasks permutes i h)

  each_is_sound : (xs : List Entry) (e : Entry) (ys : List Entry) → sc.entries ≡ xs ++ (e ∷ ys) → Sound tasks (after_entries tasks (first_ledger sc.firsts) xs) e
  unfolding worst_run
  each_is_sound xs e ys split =
      let stands : Memᴰ e sc.entries = rw split (mathlib.Core.List.Memᴰ.append_right xs (mathlib.Core.List.Memᴰ.head refl)) in
      let w : WorstEntry order tasks p k e = worst_entry_is order tasks p k e stands in
      let q : ℕ = place_of order e.task in
      let there : q < length set = place_of_number order tasks permutes e.task w.of_task in
      let (next_is, free_is) = ledger_is_lane order tasks sc permutes 0 in_order xs e ys split w.of_task in
      let same = (worst_same order tasks permutes admitted p in_set k k_in e.tick (omega (arith, w.by_deadline))).same_lanes q there in
      let now : ((worst_run set p k).input e.tick).release_of q ≡ Some e.work = release_there e.task e.tick w.of_task ∙ w.with_work in
      let rules : LegalTick set (worst_run set p k) e.tick = legal.each_tick e.tick w.by_deadline in
      record {
        in_set = w.of_task;
        lock_fits = (worst_entry_in_range order tasks p k e stands).1;
        in_order = stands_behind tasks (first_ledger sc.firsts) xs e ys (rw (← split) first_behind);
        apart = rw (free_is, same) (rules.apart q e.work there now);
        work_fits = rw (next_is, same, ← task_of_number order tasks permutes e.task w.of_task) (rules.work_fits q e.work there now);
      }

  first_frames_pass : first_refusal (first_frame_checks tasks 0 sc.firsts) ≡ None
  unfolding worst_script
  first_frames_pass = firsts_pass 0 (length tasks) (omega arith)

  -- No item of the worst script is turned away.
  pub worst_script_sound : first_refusal (item_checks tasks (worst_script order tasks p k)) ≡ None
  unfolding item_checks
  worst_script_sound =
      none_first (first_frame_checks tasks 0 sc.firsts) _ first_frames_pass
      ∙ none_refused tasks (length sc.firsts) (first_ledger sc.firsts) sc.entries each_is_sound
