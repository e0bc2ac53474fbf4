-- Entries in order: each is the one found of its task at its tick, and the ledger of the releases before an entry is the lane of its task in the script's run.
use Rattle.std.specs.Prelude.{None, Option, Some}
use mathlib.Core.Bool.{Bool, true, false, cond, ◌&&◌}
use mathlib.Core.List.Memᴰ
use mathlib.Core.List.{List, [], ◌∷◌, ◌++◌, Memᴰ}
use mathlib.Core.Logic.Iff
use mathlib.Core.Logic.{◌⊎◌, inl, inr, ◌↔◌}
use Rattle.theory.proofs.Options.{none_ne_some, some_injective}
use mathlib.Core.Path.{◌≡◌, refl, sym, ◌∙◌, ap, ap₂}
use Prim.Native.Nat.{ℕ, zero, suc, ◌+◌, ◌≤◌, ◌<◌, zero-le}
use native.Mathlib.Decide.{dec_lt, ℕ_discrete}
use native.Mathlib.Nat.{le_refl}
use native.Mathlib.Omega.{arith}
use borrow.Author.Tests.{not-false, ltb-true, lt-ltb, le-ltb, eq-eqb, ne_eqb}
use lib.Dec.{ltb, eqb}
use lib.ListN.{length, get_or}
use Rattle.theory.specs.Tasks.{Task, task_at, frame, next_frame}
use Rattle.theory.specs.Runs.{Lane, release_lane, state_at}
use Rattle.theory.proofs.Tests.{is_and, is_leb}
use Rattle.theory.proofs.Steps.{next_after, free_after}
use Rattle.lent.specs.Checks.{first_refusal}
use Rattle.lent.proofs.Checks.{passed}
use Rattle.sheet.specs.Constants.{most_tasks}
use Rattle.order.specs.Claims.{Permutes}
use Rattle.analysis.specs.Times.{number_at, place_of}
use Rattle.analysis.proofs.Numbering.{number_back}
use Rattle.plays.specs.Script.{Script, entry_of}
use Rattle.plays.specs.declared.Entry.{Entry}
use Rattle.plays.specs.Items.{Ledger, standing, first_ledger, after_entry, in_range, in_order, by_rules, sound, entry_checks}
use Rattle.plays.specs.ScriptRun.{by_place, work_of, released_at, choice, script_state, script_run}
use Rattle.plays.proofs.States.{run_state}
use Rattle.plays.proofs.ScriptLanes.{by_place_at, place_found}

-- the ledger after a row of entries
unfoldable pub after_entries : List Task → Ledger → List Entry → Ledger
after_entries tasks c [] = c
after_entries tasks c (e ∷ es) = after_entries tasks (after_entry tasks c e) es

module _ (tasks : List Task) where
  after_none : (c : Ledger) → after_entries tasks c [] ≡ c
  unfolding after_entries
  after_none c = refl

  after_more : (c : Ledger) (e : Entry) (es : List Entry) → after_entries tasks c (e ∷ es) ≡ after_entries tasks (after_entry tasks c e) es
  unfolding after_entries
  after_more c e es = refl

-- ---- order

-- the first entry stands at b or behind it, and each of the others behind the one before it
abbrev pub InOrder : ℕ → List Entry → Type 0
InOrder b [] = Unit {0}
InOrder b (e ∷ es) = (b ≤ standing e) × InOrder (suc (standing e)) es

-- in a row in order from b each entry stands at b or behind it
pub stands_from : (b : ℕ) (es : List Entry) → InOrder b es → (d : Entry) → Memᴰ d es → b ≤ standing d
stands_from b [] o d m = absurd (Memᴰ.not-nil m)
stands_from b (e ∷ es) o d m = go (Memᴰ.cases_cons m) (stands_from (suc (standing e)) es o.1 d)
  where
    go : (d ≡ e) ⊎ Memᴰ d es → (Memᴰ d es → suc (standing e) ≤ standing d) → b ≤ standing d
    go (inl q) later = rw q o.0
    go (inr n) later = omega (arith, later n, o.0)

-- of a row in order each entry stands before those that follow it
pub stands_before : (b : ℕ) (xs ys : List Entry) → InOrder b (xs ++ ys) → (d e : Entry) → Memᴰ d xs → Memᴰ e ys → standing d < standing e
stands_before b [] ys o d e m n = absurd (Memᴰ.not-nil m)
stands_before b (x ∷ xs) ys o d e m n = go (Memᴰ.cases_cons m) (stands_before (suc (standing x)) xs ys o.1 d e)
  where
    go : (d ≡ x) ⊎ Memᴰ d xs → (Memᴰ d xs → Memᴰ e ys → standing d < standing e) → standing d < standing e
    go (inl q) later = rw q (stands_from (suc (standing x)) (xs ++ ys) o.1 e (Memᴰ.append_right xs n))
    go (inr k) later = later k n

-- the end of a row in order is in order
pub in_order_end : (b : ℕ) (xs ys : List Entry) → InOrder b (xs ++ ys) → (a : ℕ) × InOrder a ys
in_order_end b [] ys o = (b, o)
in_order_end b (x ∷ xs) ys o = in_order_end (suc (standing x)) xs ys o.1

-- and so is its beginning
pub in_order_begin : (b : ℕ) (xs ys : List Entry) → InOrder b (xs ++ ys) → InOrder b xs
in_order_begin b [] ys o = tt
in_order_begin b (x ∷ xs) ys o = (o.0, in_order_begin (suc (standing x)) xs ys o.1)

-- of two entries of one task the one that stands before the other has the lower tick
pub sooner : (d e : Entry) → standing d < standing e → d.task ≡ e.task → d.tick < e.tick
unfolding standing
sooner d e h q = omega arith

-- an entry stands before no entry of a lower tick
pub no_later : (d e : Entry) → standing d < standing e → e.task < most_tasks → d.tick ≤ e.tick
unfolding standing
no_later d e h l = omega arith

-- the entries of task i in a row are all before tick t
abbrev pub AllBefore : ℕ → ℕ → List Entry → Type 0
AllBefore i t es = (d : Entry) → Memᴰ d es → d.task ≡ i → d.tick < t

-- or none of them is
abbrev pub NoneBefore : ℕ → ℕ → List Entry → Type 0
NoneBefore i t es = (d : Entry) → Memᴰ d es → d.task ≡ i → t ≤ d.tick

module _ (b : ℕ) (xs : List Entry) (e : Entry) (ys : List Entry) (o : InOrder b (xs ++ (e ∷ ys))) where
  -- those of its task that an entry stands behind are before its tick
  pub own_before : AllBefore e.task e.tick xs
  own_before d m q = sooner d e (stands_before b xs (e ∷ ys) o d e m (Memᴰ.head refl)) q

  -- itself and those behind it are not
  pub own_after : NoneBefore e.task e.tick (e ∷ ys)
  own_after d m q = let (a, h) = in_order_end b xs (e ∷ ys) o in go a h (Memᴰ.cases_cons m)
    where
      go : (a : ℕ) → InOrder a (e ∷ ys) → (d ≡ e) ⊎ Memᴰ d ys → e.tick ≤ d.tick
      go a h (inl p) = rw p (le_refl _)
      go a h (inr n) = omega (arith, sooner e d (stands_from (suc (standing e)) ys h.1 d n) (sym q))

-- ---- the entry of a task at a tick

module _ (i t : ℕ) (e : Entry) (es : List Entry) where
  -- it is the first of the row where that is the task's at the tick
  pub entry_here : e.task ≡ i → e.tick ≡ t → entry_of (e ∷ es) i t ≡ Some e
  unfolding entry_of
  entry_here p q = rw (eq-eqb _ _ p, eq-eqb _ _ q)

  -- and else one of the others
  pub entry_later : (e.task ≡ i → e.tick ≡ t → ⊥) → entry_of (e ∷ es) i t ≡ entry_of es i t
  unfolding entry_of
  entry_later ne = go (ℕ_discrete e.task i) (ℕ_discrete e.tick t)
    where
      go : Dec (e.task ≡ i) → Dec (e.tick ≡ t) → cond (eqb e.task i && eqb e.tick t) (Some e) (entry_of es i t) ≡ entry_of es i t
      go (no p) q = rw (ne_eqb _ _ p)
      go (yes p) (yes q) = absurd (ne p q)
      go (yes p) (no q) = rw (eq-eqb _ _ p, ne_eqb _ _ q)

-- no row, no entry
pub entry_of_nil : (i t : ℕ) → entry_of [] i t ≡ None
unfolding entry_of
entry_of_nil i t = refl

module _ (i t : ℕ) where
  -- a row of which no entry is the task's at the tick has none
  pub no_entry_of : (es : List Entry) → ((d : Entry) → Memᴰ d es → d.task ≡ i → d.tick ≡ t → ⊥) → entry_of es i t ≡ None
  no_entry_of [] h = entry_of_nil i t
  no_entry_of (e ∷ es) h = entry_later i t e es (h e (Memᴰ.head refl)) ∙ no_entry_of es (λ d m. h d (Memᴰ.tail m))

  -- where the rows before have none, it is one behind them
  pub entry_behind : (xs ys : List Entry) → entry_of xs i t ≡ None → entry_of (xs ++ ys) i t ≡ entry_of ys i t
  unfolding entry_of
  entry_behind [] ys e = refl
  entry_behind (x ∷ xs) ys e = go (eqb x.task i && eqb x.tick t) e (entry_behind xs ys)
    where
      go : (b : Bool) → cond b (Some x) (entry_of xs i t) ≡ None → (entry_of xs i t ≡ None → entry_of (xs ++ ys) i t ≡ entry_of ys i t)
          → cond b (Some x) (entry_of (xs ++ ys) i t) ≡ entry_of ys i t
      go true q later = absurd (none_ne_some x (sym q))
      go false q later = later q

  -- where the rows behind have none, it is one before them
  pub entry_before : (xs ys : List Entry) → entry_of ys i t ≡ None → entry_of (xs ++ ys) i t ≡ entry_of xs i t
  unfolding entry_of
  entry_before [] ys e = e
  entry_before (x ∷ xs) ys e = ap (cond (eqb x.task i && eqb x.tick t) (Some x)) (entry_before xs ys e)

-- what is found as the entry of a task at a tick is an entry of the row, of that task and that tick
pub entry_found : (es : List Entry) (i t : ℕ) (e : Entry) → entry_of es i t ≡ Some e
    → (xs ys : List Entry) × (es ≡ xs ++ (e ∷ ys)) × (e.task ≡ i) × (e.tick ≡ t)
entry_found [] i t e f = absurd (none_ne_some e (sym (entry_of_nil i t) ∙ f))
entry_found (d ∷ es) i t e f = go (ℕ_discrete d.task i) (ℕ_discrete d.tick t) (entry_found es i t e)
  where
    Found : List Entry → Type 0
    Found l = (xs ys : List Entry) × (l ≡ xs ++ (e ∷ ys)) × (e.task ≡ i) × (e.tick ≡ t)

    later : (d.task ≡ i → d.tick ≡ t → ⊥) → (entry_of es i t ≡ Some e → Found es) → Found (d ∷ es)
    later ne rec = let (xs, ys, split, p, q) = rec (sym (entry_later i t d es ne) ∙ f) in (d ∷ xs, ys, ap (λ l. d ∷ l) split, p, q)

    go : Dec (d.task ≡ i) → Dec (d.tick ≡ t) → (entry_of es i t ≡ Some e → Found es) → Found (d ∷ es)
    go (no p) q rec = later (λ p' q'. p p') rec
    go (yes p) (no q) rec = later (λ p' q'. q q') rec
    go (yes p) (yes q) rec = let same : d ≡ e = some_injective d e (sym (entry_here i t d es p q) ∙ f) in ([], es, ap (λ x. x ∷ es) same, rw (← same) p, rw (← same) q)

-- of a row in order each entry is the one found of its task at its tick
pub entry_is : (b : ℕ) (es : List Entry) → InOrder b es → (e : Entry) → Memᴰ e es → entry_of es e.task e.tick ≡ Some e
entry_is b [] o e m = absurd (Memᴰ.not-nil m)
entry_is b (d ∷ es) o e m = go (Memᴰ.cases_cons m) (entry_is (suc (standing d)) es o.1 e)
  where
    go : (e ≡ d) ⊎ Memᴰ e es → (Memᴰ e es → entry_of es e.task e.tick ≡ Some e) → entry_of (d ∷ es) e.task e.tick ≡ Some e
    go (inl q) later = entry_here _ _ d es (ap (λ x. x.task) (sym q)) (ap (λ x. x.tick) (sym q)) ∙ ap Some (sym q)
    go (inr n) later =
        entry_later _ _ d es (λ p q. let z : ⊥ = omega (arith, sooner d e (stands_from (suc (standing d)) es o.1 e n) p) in absurd z) ∙ later n

-- ---- the turn of a task: the frame of its next job, and the first tick at which it may be released

module _ (tasks : List Task) (i : ℕ) where
  -- after a release at a tick
  unfoldable turn_after : ℕ → ℕ × ℕ → ℕ × ℕ
  turn_after at u = (next_frame (task_at tasks i) u.0, at + (task_at tasks i).period)

  -- after the entries of a row that are the task's and before tick t
  unfoldable turns : ℕ → List Entry → ℕ × ℕ → ℕ × ℕ
  turns t [] u = u
  turns t (e ∷ es) u = turns t es (cond (eqb e.task i && ltb e.tick t) (turn_after e.tick u) u)

  module _ (t : ℕ) (e : Entry) (es : List Entry) (u : ℕ × ℕ) where
    turns_own : e.task ≡ i → e.tick < t → turns t (e ∷ es) u ≡ turns t es (turn_after e.tick u)
    unfolding turns
    turns_own p q = rw (eq-eqb _ _ p, lt-ltb _ _ q)

    turns_other : (e.task ≡ i → t ≤ e.tick) → turns t (e ∷ es) u ≡ turns t es u
    unfolding turns
    turns_other h = go (ℕ_discrete e.task i)
      where
        go : Dec (e.task ≡ i) → turns t es (cond (eqb e.task i && ltb e.tick t) (turn_after e.tick u) u) ≡ turns t es u
        go (yes p) = rw (eq-eqb _ _ p, le-ltb _ _ (h p))
        go (no ne) = rw (ne_eqb _ _ ne)

  turns_nil : (t : ℕ) (u : ℕ × ℕ) → turns t [] u ≡ u
  unfolding turns
  turns_nil t u = refl

  turns_append : (t : ℕ) (xs ys : List Entry) (u : ℕ × ℕ) → turns t (xs ++ ys) u ≡ turns t ys (turns t xs u)
  unfolding turns
  turns_append t [] ys u = refl
  turns_append t (x ∷ xs) ys u = turns_append t xs ys _

  turns_later : (t : ℕ) (es : List Entry) (u : ℕ × ℕ) → NoneBefore i t es → turns t es u ≡ u
  turns_later t [] u h = turns_nil t u
  turns_later t (e ∷ es) u h =
      turns_other t e es u (h e (Memᴰ.head refl)) ∙ turns_later t es u (λ d m. h d (Memᴰ.tail m))

  -- what an entry at tick t, if there is one, does to the turn
  unfoldable turn_by : Option Entry → ℕ → ℕ × ℕ → ℕ × ℕ
  turn_by None t u = u
  turn_by (Some e) t u = turn_after t u

  turn_by_some : {o : Option Entry} {e : Entry} (t : ℕ) (u : ℕ × ℕ) → o ≡ Some e → turn_by o t u ≡ turn_after t u
  unfolding turn_by
  turn_by_some t u q = rw q

  turn_by_none : {o : Option Entry} (t : ℕ) (u : ℕ × ℕ) → o ≡ None → turn_by o t u ≡ u
  unfolding turn_by
  turn_by_none t u q = rw q

  -- from one tick to the next the turn changes by the entry of the tick
  turns_suc : (t b : ℕ) (es : List Entry) (u : ℕ × ℕ) → InOrder b es → turns (suc t) es u ≡ turn_by (entry_of es i t) t (turns t es u)
  turns_suc t b [] u o = turns_nil (suc t) u ∙ sym (turn_by_none t _ (entry_of_nil i t) ∙ turns_nil t u)
  turns_suc t b (e ∷ es) u o = go (ℕ_discrete e.task i) (λ (v : ℕ × ℕ). turns_suc t (suc (standing e)) es v o.1)
    where
      Goal : Type 0
      Goal = turns (suc t) (e ∷ es) u ≡ turn_by (entry_of (e ∷ es) i t) t (turns t (e ∷ es) u)

      Later : Type 0
      Later = (v : ℕ × ℕ) → turns (suc t) es v ≡ turn_by (entry_of es i t) t (turns t es v)

      behind : e.task ≡ i → NoneBefore i (suc e.tick) es
      behind p d m q = sooner e d (stands_from (suc (standing e)) es o.1 d m) (p ∙ sym q)

      both : (v : ℕ × ℕ) → turns (suc t) (e ∷ es) u ≡ turns (suc t) es v → turns t (e ∷ es) u ≡ turns t es v → (e.task ≡ i → e.tick ≡ t → ⊥) → Later → Goal
      both v p q ne later = p ∙ later v ∙ rw (entry_later i t e es ne, q) refl

      now : e.task ≡ i → e.tick ≡ t → Goal
      now p q =
          turns_own (suc t) e es u p (omega arith)
          ∙ turns_later (suc t) es _ (λ d m r. omega (arith, behind p d m r))
          ∙ ap (λ x. turn_after x u) q
          ∙ sym (turn_by_some t _ (entry_here i t e es p q)
          ∙ ap (turn_after t) (turns_other t e es u (λ _. omega arith) ∙ turns_later t es u (λ d m r. omega (arith, behind p d m r))))

      own : e.task ≡ i → Dec (e.tick < t) → Dec (e.tick ≡ t) → Later → Goal
      own p (yes l) d later =
          both (turn_after e.tick u) (turns_own (suc t) e es u p (omega arith)) (turns_own t e es u p l) (λ _ q. absurd (omega arith)) later
      own p (no l) (yes q) later = now p q
      own p (no l) (no q) later = both u (turns_other (suc t) e es u (λ _. omega arith)) (turns_other t e es u (λ _. omega arith)) (λ _ z. q z) later

      go : Dec (e.task ≡ i) → Later → Goal
      go (no ne) later = both u (turns_other (suc t) e es u (λ p. absurd (ne p))) (turns_other t e es u (λ p. absurd (ne p))) (λ p _. ne p) later
      go (yes p) later = own p (dec_lt e.tick t) (ℕ_discrete e.tick t) later

  -- the turn in a ledger
  abbrev ledger_turn : Ledger → ℕ × ℕ
  ledger_turn c = (c.next i, c.free_from i)

  own_entry : (c : Ledger) (e : Entry) → e.task ≡ i → ledger_turn (after_entry tasks c e) ≡ turn_after e.tick (ledger_turn c)
  unfolding after_entry turn_after
  own_entry c e p = rw (eq-eqb i e.task (sym p), p) refl

  other_entry : (c : Ledger) (e : Entry) → (e.task ≡ i → ⊥) → ledger_turn (after_entry tasks c e) ≡ ledger_turn c
  unfolding after_entry
  other_entry c e ne = rw (ne_eqb i e.task (λ q. ne (sym q))) refl

  -- after entries of which the task's are before tick t
  ledger_turns : (t : ℕ) (c : Ledger) (es : List Entry) → AllBefore i t es → ledger_turn (after_entries tasks c es) ≡ turns t es (ledger_turn c)
  ledger_turns t c [] h = ap ledger_turn (after_none tasks c) ∙ sym (turns_nil t _)
  ledger_turns t c (e ∷ es) h =
      ap ledger_turn (after_more tasks c e es) ∙ ledger_turns t (after_entry tasks c e) es (λ d m. h d (Memᴰ.tail m)) ∙ go (ℕ_discrete e.task i)
    where
      go : Dec (e.task ≡ i) → turns t es (ledger_turn (after_entry tasks c e)) ≡ turns t (e ∷ es) (ledger_turn c)
      go (yes p) = ap (turns t es) (own_entry c e p) ∙ sym (turns_own t e es _ p (h e (Memᴰ.head refl) p))
      go (no ne) = ap (turns t es) (other_entry c e ne) ∙ sym (turns_other t e es _ (λ p. absurd (ne p)))

-- what the run of a script releases is what its entries say
pub releases : (order : List ℕ) (tasks : List Task) (sc : Script) (n t p : ℕ)
    → ((script_run order tasks sc n).input t).release_of p ≡ work_of (entry_of sc.entries (number_at order p) t)
unfolding script_run choice released_at
releases order tasks sc n t p = refl

module _ (order : List ℕ) (tasks : List Task) (sc : Script) (p : ℕ) (in_set : p < length order) where
  abbrev i : ℕ
  i = number_at order p

  abbrev lane_turn : Lane → ℕ × ℕ
  lane_turn l = (l.next, l.free_from)

  released_turn : (t : ℕ) (o : Option Entry) (l : Lane) → lane_turn (release_lane (task_at (by_place order tasks) p) t (work_of o) l) ≡ turn_by tasks (number_at order p) o t (lane_turn l)
  unfolding release_lane work_of turn_by turn_after
  released_turn t None l = refl
  released_turn t (Some e) l = rw (by_place_at order tasks p in_set) refl

  first_turn : lane_turn ((script_state order tasks sc 0).lanes p) ≡ (get_or sc.firsts (number_at order p) 0, 0)
  unfolding script_state
  first_turn = refl

  turn_step : (t : ℕ)
      → lane_turn ((script_state order tasks sc (suc t)).lanes p)
      ≡ turn_by tasks (number_at order p) (entry_of sc.entries (number_at order p) t) t (lane_turn ((script_state order tasks sc t).lanes p))
  turn_step t =
      let set = by_place order tasks in
      let run = script_run order tasks sc 0 in
      let here = entry_of sc.entries i t in
      ap (λ s. lane_turn (s.lanes p)) (sym (run_state order tasks sc 0 (suc t)))
      ∙ ap₂ {C = ℕ × ℕ} (λ a b. (a, b)) (next_after set run t p (releases order tasks sc 0 t p)) (free_after set run t p (releases order tasks sc 0 t p))
      ∙ released_turn t here ((state_at set run t).lanes p)
      ∙ ap (λ s. turn_by tasks i here t (lane_turn (s.lanes p))) (run_state order tasks sc 0 t)

  lane_turns : (b : ℕ) → InOrder b sc.entries → (t : ℕ)
      → lane_turn ((script_state order tasks sc t).lanes p) ≡ turns tasks (number_at order p) t sc.entries (get_or sc.firsts (number_at order p) 0, 0)
  lane_turns b o zero = first_turn ∙ sym (turns_later tasks i 0 sc.entries _ (λ d m q. zero-le))
  lane_turns b o (suc t) =
      turn_step t ∙ ap (turn_by tasks i (entry_of sc.entries i t) t) (lane_turns b o t) ∙ sym (turns_suc tasks i t b sc.entries _ o)

  ledger_first : ledger_turn tasks (number_at order p) (first_ledger sc.firsts) ≡ (get_or sc.firsts (number_at order p) 0, 0)
  unfolding first_ledger
  ledger_first = refl

  -- where a script's entries are in order, the ledger after those of a task before tick t is the task's lane at time t
  pub ledger_at : (b : ℕ) → InOrder b sc.entries → (t : ℕ) (xs ys : List Entry) → sc.entries ≡ xs ++ ys
      → AllBefore (number_at order p) t xs → NoneBefore (number_at order p) t ys
      → ((after_entries tasks (first_ledger sc.firsts) xs).next (number_at order p) ≡ ((script_state order tasks sc t).lanes p).next)
      × ((after_entries tasks (first_ledger sc.firsts) xs).free_from (number_at order p) ≡ ((script_state order tasks sc t).lanes p).free_from)
  ledger_at b o t xs ys split before after = (ap (λ (u : ℕ × ℕ). u.0) same, ap (λ (u : ℕ × ℕ). u.1) same)
    where
      first : ℕ × ℕ
      first = (get_or sc.firsts i 0, 0)

      same : ledger_turn tasks i (after_entries tasks (first_ledger sc.firsts) xs) ≡ lane_turn ((script_state order tasks sc t).lanes p)
      same =
          ledger_turns tasks i t _ xs before
          ∙ ap (turns tasks i t xs) ledger_first
          ∙ sym (lane_turns b o t ∙ ap (λ l. turns tasks i t l first) split ∙ turns_append tasks i t xs ys first ∙ turns_later tasks i t ys _ after)

module _ (order : List ℕ) (tasks : List Task) (sc : Script) (permutes : Permutes (length tasks) order) where
  -- where a script's entries are in order, the ledger before an entry is the lane of its task at its tick
  pub ledger_is_lane : (b : ℕ) → InOrder b sc.entries → (xs : List Entry) (e : Entry) (ys : List Entry) → sc.entries ≡ xs ++ (e ∷ ys) → e.task < length tasks
      → ((after_entries tasks (first_ledger sc.firsts) xs).next e.task ≡ ((script_state order tasks sc e.tick).lanes (place_of order e.task)).next)
      × ((after_entries tasks (first_ledger sc.firsts) xs).free_from e.task ≡ ((script_state order tasks sc e.tick).lanes (place_of order e.task)).free_from)
  ledger_is_lane b o xs e ys split in_set =
      let same : number_at order (place_of order e.task) ≡ e.task = number_back (length tasks) order permutes e.task in_set in
      let o' : InOrder b (xs ++ (e ∷ ys)) = rw (← split) o in
      let lane =
      ledger_at order tasks sc (place_of order e.task) (place_found order tasks permutes e.task in_set) b o e.tick xs (e ∷ ys) split
      (rw same (own_before b xs e ys o')) (rw same (own_after b xs e ys o')) in
      rw same at lane

-- ---- entries of which none is turned away

-- what an entry has to keep, by the ledger of those before it
pub record Sound (tasks : List Task) (c : Ledger) (e : Entry) : Type 0 where
  pub in_set : e.task < length tasks
  pub lock_fits : e.lock ≤ (task_at tasks e.task).lock
  pub in_order : c.behind ≤ standing e
  pub apart : c.free_from e.task ≤ e.tick
  pub work_fits : e.work ≤ frame (task_at tasks e.task) (c.next e.task)

-- the test says just that
pub sound_is : (tasks : List Task) (c : Ledger) (e : Entry) → (sound tasks c e ≡ true) ↔ Sound tasks c e
unfolding sound in_range in_order by_rules
sound_is tasks c e =
    Iff.trans (is_and (is_and (is_and (ltb-true _ _, lt-ltb _ _) (is_leb _ _)) (is_leb _ _)) (is_and (is_leb _ _) (is_leb _ _))) (
      λ h. record { in_set = h.0.0.0; lock_fits = h.0.0.1; in_order = h.0.1; apart = h.1.0; work_fits = h.1.1 },
      λ s. (((s.in_set, s.lock_fits), s.in_order), (s.apart, s.work_fits)),
    )

after_behind : (tasks : List Task) (c : Ledger) (e : Entry) → (after_entry tasks c e).behind ≡ suc (standing e)
unfolding after_entry
after_behind tasks c e = refl

module _ (tasks : List Task) where
  -- of a row that is not turned away the first entry is sound, and the others are not turned away after it
  checks_passed : (j : ℕ) (c : Ledger) (e : Entry) (es : List Entry) → first_refusal (entry_checks tasks j c (e ∷ es)) ≡ None
      → Sound tasks c e × (first_refusal (entry_checks tasks (suc j) (after_entry tasks c e) es) ≡ None)
  unfolding entry_checks
  checks_passed j c e es h =
      let (first, rest) = passed _ (entry_checks tasks (suc j) (after_entry tasks c e) es) h in
      ((sound_is tasks c e).0 (not-false _ first), rest)

  -- where no entry is turned away, each is sound after those before it
  pub each_sound : (j : ℕ) (c : Ledger) (xs : List Entry) (e : Entry) (ys : List Entry) → first_refusal (entry_checks tasks j c (xs ++ (e ∷ ys))) ≡ None
      → Sound tasks (after_entries tasks c xs) e
  unfolding after_entries
  each_sound j c [] e ys h = (checks_passed j c e ys h).0
  each_sound j c (x ∷ xs) e ys h = each_sound (suc j) (after_entry tasks c x) xs e ys (checks_passed j c x (xs ++ (e ∷ ys)) h).1

  -- and they are in order
  pub checked_in_order : (j : ℕ) (c : Ledger) (es : List Entry) → first_refusal (entry_checks tasks j c es) ≡ None → InOrder c.behind es
  checked_in_order j c [] h = tt
  checked_in_order j c (e ∷ es) h =
      let (first, rest) = checks_passed j c e es h in
      (first.in_order, rw (← after_behind tasks c e) (checked_in_order (suc j) (after_entry tasks c e) es rest))
