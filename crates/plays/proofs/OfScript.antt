-- The run of a script of which nothing is turned away does what the script says.
use Rattle.std.specs.Prelude.{None, Option, Some}
use mathlib.Core.List.Memᴰ
use mathlib.Core.List.{List, [], ◌∷◌, ◌++◌}
use Rattle.theory.proofs.Options.{none_ne_some, some_injective}
use mathlib.Core.Path.{◌≡◌, refl, sym, ap, ap₂, ◌∙◌}
use Prim.Native.Nat.{ℕ, zero, suc}
use native.Mathlib.Omega.{arith}
use Rattle.theory.specs.Tasks.{Task}
use Rattle.theory.specs.Runs.{Job, job, State, release, oldest_left}
use Rattle.lent.specs.Checks.{first_refusal}
use Rattle.analysis.specs.Times.{number_at}
use Rattle.plays.specs.Script.{Script, entry_of}
use Rattle.plays.specs.declared.Entry.{Entry}
use Rattle.plays.specs.Items.{item_checks}
use Rattle.plays.specs.ScriptRun.{work_of, lock_of, released_at, pending_lock, stretch_by, stretch_at, new_stretch, choice, script_run}
use Rattle.plays.specs.OfScript.{EntryAt, OldestReleased, seen_in, has_tick, OfScript}
use Rattle.plays.specs.Play.{script_seen}
use Rattle.plays.proofs.Ledgers.{entry_found, entry_is}
use Rattle.plays.proofs.ScriptLegal.{entries_in_order}
use Rattle.plays.proofs.States.{run_seen}

module _ (order : List ℕ) (tasks : List Task) (sc : Script) (kept : first_refusal (item_checks tasks sc) ≡ None) where
  -- there is one entry of a task at a tick
  entry_there : (i t : ℕ) (e : Entry) → EntryAt sc i t e → entry_of sc.entries i t ≡ Some e
  entry_there i t e (m, of_task, at) = ap₂ (entry_of sc.entries) (sym of_task) (sym at) ∙ entry_is 0 sc.entries (entries_in_order tasks sc kept) e m

  -- the lock of the oldest job that is not complete is its entry's
  oldest_lock : (i r : ℕ) (e : Entry) (js : List Job) → OldestReleased js r → EntryAt sc i r e → pending_lock sc i js ≡ e.lock
  unfolding pending_lock lock_of oldest_left
  oldest_lock i r e js (us, vs, k, w, complete, split) at = rw split (go us complete)
    where
      go : (us : List Job) → oldest_left us ≡ 0 → pending_lock sc i (us ++ (job r k (suc w) ∷ vs)) ≡ e.lock
      go [] c = ap lock_of (entry_there i r e at)
      go (job r' k' zero ∷ us) c = go us c
      go (job r' k' (suc w') ∷ us) c = absurd (omega arith)

  module _ (n t : ℕ) where
    -- the stretch that is chosen, read off the state that is seen
    chosen : ((script_run order tasks sc n).input t).stretch ≡ new_stretch order sc (seen_in order tasks sc n t) (has_tick order tasks sc n t)
    unfolding script_run choice script_seen release
    chosen = rw (run_seen order tasks sc n t)

    found : (p w : ℕ) (o : Option Entry) → entry_of sc.entries (number_at order p) t ≡ o → work_of o ≡ Some w → (e : Entry) × EntryAt sc (number_at order p) t e × (e.work ≡ w)
    unfolding work_of
    found p w None f q = absurd (none_ne_some w q)
    found p w (Some e) f q =
        let (xs, ys, split, of_task, at) = entry_found sc.entries (number_at order p) t e f in
        (e, (rw split (Memᴰ.append_right xs (Memᴰ.head refl)), of_task, at), some_injective e.work w q)

  pub of_script : (n : ℕ) → OfScript order tasks sc n
  unfolding script_run choice released_at work_of new_stretch stretch_at
  of_script n =
      record {
        firsts = λ p. refl;
        releases = λ t p w. (
          λ q. found n t p w (entry_of sc.entries (number_at order p) t) refl q,
          λ (e, at, does). ap work_of (entry_there (number_at order p) t e at) ∙ ap Some does,
        );
        stretches = λ t p r e free picked oldest at.
            chosen n t ∙ rw (picked, free) (ap stretch_by (oldest_lock (number_at order p) r e ((seen_in order tasks sc n t).lanes p).jobs oldest at));
        none_under_way = λ t m under_way. chosen n t ∙ rw under_way refl;
        none_idle = λ t e. chosen n t ∙ rw e (idle_none (seen_in order tasks sc n t) (seen_in order tasks sc n t).to_come);
      }
    where
      idle_none : (s : State) (m : ℕ) → ◌≡◌ {A = ℕ} (elim m [ zero ↦ stretch_at order sc s None | suc n ↦ 0 ]) 0
      idle_none s zero = refl
      idle_none s (suc m) = refl
