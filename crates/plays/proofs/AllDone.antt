-- All jobs are done at a moment: what that says of the entries and the lanes, and that they stay done.
use Rattle.std.specs.Prelude.{None, Some}
use mathlib.Core.Bool.{Bool, true, false, not, ◌&&◌, true≢false}
use mathlib.Core.List.Memᴰ
use mathlib.Core.List.{List, [], ◌∷◌, Memᴰ}
use mathlib.Core.Logic.{◌⊎◌, inl, inr, ◌↔◌}
use mathlib.Core.Path.{◌≡◌, refl, sym, ap, subst, ◌∙◌}
use Prim.Native.Nat.{ℕ, zero, suc, ◌≤◌, ◌<◌}
use native.Mathlib.Nat.{le_trans}
use native.Mathlib.Decide.{le_ind}
use native.Mathlib.Omega.{arith}
use borrow.Author.Tests.{leb-true, leb-false}
use lib.Dec.{leb}
use lib.ListN.{length}
use Rattle.theory.specs.First.{first, every}
use Rattle.theory.specs.Tasks.{Task, task_at}
use Rattle.theory.specs.Runs.{oldest_left, pending}
use Rattle.theory.proofs.Search.{bool_cases, Answer, answer, nothing, it_is, IsFirst, first_none, first_some, every_at, every_is}
use Rattle.theory.proofs.Lanes.{total, given_none, oldest_none, pending_no, pending_yes, release_total, serve_lane_total}
use Rattle.analysis.specs.Times.{number_at}
use Rattle.plays.specs.Script.{Script, entry_of}
use Rattle.plays.specs.declared.Entry.{Entry}
use Rattle.plays.specs.ScriptRun.{by_place, released_at, script_state}
use Rattle.plays.specs.Says.{AllReleased, Later}
use Rattle.plays.specs.Play.{all_released, script_seen, all_done}
use Rattle.plays.proofs.Ledgers.{entry_found}
use Rattle.plays.proofs.ScriptLegal.{work_some}
use Rattle.plays.proofs.ScriptLanes.{seen_by_release, state_by_serve}
use Rattle.plays.proofs.OnePending.{oldest_at_most}

-- ---- entries

-- a release is that of an entry of its tick
pub released_by : (order : List ℕ) (sc : Script) (t p : ℕ) {w : ℕ} → released_at order sc t p ≡ Some w → (e : Entry) × Memᴰ e sc.entries × (e.tick ≡ t)
unfolding released_at
released_by order sc t p f =
    let (e, found, _) = work_some {o = entry_of sc.entries (number_at order p) t} f in
    let (xs, ys, split, _, at) = entry_found sc.entries (number_at order p) t e found in
    (e, subst (Memᴰ e) (sym split) (Memᴰ.append_right xs (Memᴰ.head refl)), at)

-- one of the two is so
pub released_or_later : (es : List Entry) (t : ℕ) → ((all_released es t ≡ true) × AllReleased es t) ⊎ ((all_released es t ≡ false) × Later es t)
unfolding all_released
released_or_later [] t = inl (refl, λ e m. absurd (Memᴰ.not-nil m))
released_or_later (x ∷ es) t = go (bool_cases (leb x.tick t)) (released_or_later es t)
  where
    go : (leb x.tick t ≡ true) ⊎ (leb x.tick t ≡ false) → ((all_released es t ≡ true) × AllReleased es t) ⊎ ((all_released es t ≡ false) × Later es t)
        → (((leb x.tick t && all_released es t) ≡ true) × AllReleased (x ∷ es) t) ⊎ (((leb x.tick t && all_released es t) ≡ false) × Later (x ∷ es) t)
    go (inl y) (inl (r, all)) = inl (rw (y, r), λ e m. here e (Memᴰ.cases_cons m))
      where
        here : (e : Entry) → (e ≡ x) ⊎ Memᴰ e es → e.tick ≤ t
        here e (inl same) = rw same (leb-true _ _ y)
        here e (inr m) = all e m
    go (inl y) (inr (n, (e, m, l))) = inr (rw (y, n), (e, Memᴰ.tail m, l))
    go (inr n) rest = inr (rw n, (x, Memᴰ.head refl, leb-false _ _ n))

-- ---- all jobs done

module _ (order : List ℕ) (tasks : List Task) (sc : Script) where
  -- every entry is released by moment t, and with the releases of that tick seen no lane has work left
  pub record Done (t : ℕ) : Type 0 where
    pub released : AllReleased sc.entries t
    pub complete : (p : ℕ) → p < length order → total ((script_seen order tasks sc t).lanes p).jobs ≡ 0

  -- an entry is released after moment t, or a lane has work left
  abbrev pub Undone : ℕ → Type 0
  Undone t = Later sc.entries t ⊎ ((p : ℕ) × (p < length order) × (1 ≤ total ((script_seen order tasks sc t).lanes p).jobs))

  -- one of the two is so
  pub done_or_undone : (t : ℕ) → ((all_done order tasks sc t ≡ true) × Done t) ⊎ ((all_done order tasks sc t ≡ false) × Undone t)
  unfolding all_done
  done_or_undone t = go (released_or_later sc.entries t) (answer (first 0 (length order) (λ p. pending ((script_seen order tasks sc t).lanes p))))
    where
      lane : ℕ → Bool
      lane p = pending ((script_seen order tasks sc t).lanes p)

      free : first 0 (length order) (λ p. pending ((script_seen order tasks sc t).lanes p)) ≡ None → (p : ℕ) → p < length order → lane p ≡ false
      free q p h = first_none 0 (length order) (λ p. pending ((script_seen order tasks sc t).lanes p)) q p (omega arith) (omega arith)

      quiet : Bool
      quiet = every 0 (length order) (λ p. not (pending ((script_seen order tasks sc t).lanes p)))

      stuck : (p : ℕ) → p < length order → lane p ≡ true → (b : Bool) → quiet ≡ b → b ≡ false
      stuck p h y true q = sym (every_at 0 (length order) (λ p. not (pending ((script_seen order tasks sc t).lanes p))) q p (omega arith) (omega arith)) ∙ ap not y
      stuck p h y false q = refl

      go : ((all_released sc.entries t ≡ true) × AllReleased sc.entries t) ⊎ ((all_released sc.entries t ≡ false) × Later sc.entries t)
          → Answer (first 0 (length order) (λ p. pending ((script_seen order tasks sc t).lanes p)))
          → (((all_released sc.entries t && quiet) ≡ true) × Done t) ⊎ (((all_released sc.entries t && quiet) ≡ false) × Undone t)
      go (inr (n, later)) a = inr (rw n, inl later)
      go (inl (y, all)) (nothing q) =
          inl (
            rw (y, every_is 0 (length order) (λ p. not (pending ((script_seen order tasks sc t).lanes p))) (λ p _ h. ap not (free q p (omega arith)))),
            record { released = all; complete = λ p h. oldest_none _ (pending_no _ (free q p h)) },
          )
      go (inl (y, all)) (it_is p q) =
          let f : IsFirst 0 (length order) (λ p. pending ((script_seen order tasks sc t).lanes p)) p =
          first_some 0 (length order) (λ p. pending ((script_seen order tasks sc t).lanes p)) q in
          let h : p < length order = omega (arith, f.before) in
          let busy : 1 ≤ oldest_left ((script_seen order tasks sc t).lanes p).jobs = pending_yes _ f.passes in
          inr (rw (y, stuck p h f.passes quiet refl), inr (p, h, le_trans busy (oldest_at_most ((script_seen order tasks sc t).lanes p).jobs)))

  done_not_undone : (t : ℕ) → Done t → Undone t → ⊥
  done_not_undone t d (inl (e, m, l)) = omega (arith, d.released e m)
  done_not_undone t d (inr (p, h, l)) = omega (arith, d.complete p h)

  -- the test that all jobs are done
  pub done_is : (t : ℕ) → (all_done order tasks sc t ≡ true) ↔ Done t
  done_is t = go (done_or_undone t)
    where
      go : ((all_done order tasks sc t ≡ true) × Done t) ⊎ ((all_done order tasks sc t ≡ false) × Undone t) → (all_done order tasks sc t ≡ true) ↔ Done t
      go (inl (y, d)) = (λ _. d, λ _. y)
      go (inr (n, u)) = (λ y. absurd (true≢false (sym y ∙ n)), λ d. absurd (done_not_undone t d u))

  -- the same test where it fails
  pub undone_is : (t : ℕ) → (all_done order tasks sc t ≡ false) ↔ Undone t
  undone_is t = go (done_or_undone t)
    where
      go : ((all_done order tasks sc t ≡ true) × Done t) ⊎ ((all_done order tasks sc t ≡ false) × Undone t) → (all_done order tasks sc t ≡ false) ↔ Undone t
      go (inl (y, d)) = (λ n. absurd (true≢false (sym y ∙ n)), λ u. absurd (done_not_undone t d u))
      go (inr (n, u)) = (λ _. u, λ _. n)

  -- ---- once done, all jobs stay done

  done_state : (t : ℕ) → Done t → (p : ℕ) → p < length order → total ((script_state order tasks sc (suc t)).lanes p).jobs ≡ 0
  done_state t d p h =
      let (b, e) = state_by_serve order tasks sc t p in
      rw e (let less = serve_lane_total b ((script_seen order tasks sc t).lanes p) in omega (arith, d.complete p h))

  none_released : (t : ℕ) → AllReleased sc.entries t → (p : ℕ) → released_at order sc (suc t) p ≡ None
  none_released t all p = go (answer (released_at order sc (suc t) p))
    where
      go : Answer (released_at order sc (suc t) p) → released_at order sc (suc t) p ≡ None
      go (nothing e) = e
      go (it_is w e) = let (x, m, at) = released_by order sc (suc t) p e in let z : ⊥ = omega (arith, all x m) in absurd z

  done_step : (t : ℕ) → Done t → Done (suc t)
  done_step t d =
      record {
        released = λ e m. omega (arith, d.released e m);
        complete = λ p h.
            rw (seen_by_release order tasks sc (suc t) p, none_released t d.released p)
            (release_total (task_at (by_place order tasks) p) (suc t) None ((script_state order tasks sc (suc t)).lanes p)
            ∙ (rw (done_state t d p h, given_none)));
      }

  -- after a moment at which all jobs are done no lane has work left
  pub done_stays : (u t : ℕ) → Done u → u < t → (p : ℕ) → p < length order → total ((script_state order tasks sc t).lanes p).jobs ≡ 0
  done_stays u zero d h p l = absurd (omega arith)
  done_stays u (suc t) d h p l = done_state t (le_ind Done d (λ m _ before. done_step m before) t (omega arith)) p l
