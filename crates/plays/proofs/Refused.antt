-- Refusal 14 names the item of a script that is the first to be wrong, and names it whenever there is one.
use Rattle.std.specs.Prelude.{None, Some}
use mathlib.Core.Bool.{Bool, true, false, not}
use mathlib.Core.List.Memᴰ
use mathlib.Core.List.{List, [], ◌∷◌, ◌++◌, append-nil, concat, concat-eq-append, eq-nil-or-concat}
use mathlib.Core.Logic.{◌⊎◌, inl, inr}
use Rattle.theory.proofs.Options.{none_ne_some, some_injective}
use mathlib.Core.Path.{◌≡◌, refl, sym, ◌∙◌, ap, ap₂}
use Prim.Native.Nat.{ℕ, zero, suc, ◌+◌, ◌≤◌, ◌<◌}
use native.Mathlib.Decide.{dec_le, dec_lt}
use native.Mathlib.Nat.{add-zero, zero-add}
use native.Mathlib.Omega.{arith}
use borrow.Author.Tests.{ltb-true, ltb-false}
use lib.Dec.{ltb}
use lib.ListN.{length, get_or, take, drop, get_or-append}
use lib.Seq.{split_at, take-append-le, take-append_seam, get_or-append_seam}
use Rattle.theory.specs.Tasks.{Task, task_at, frame_count, frame}
use Rattle.theory.proofs.Search.{Answer, nothing, it_is, answer}
use Rattle.theory.proofs.Tests.{refused}
use Rattle.lent.specs.Checks.{Check, ◌⇒◌, first_refusal}
use Rattle.lent.proofs.Checks.{applies, passed_over, no_check, none_first, some_first}
use Rattle.sheet.specs.Constants.{most_tasks}
use Rattle.order.specs.Claims.{Permutes}
use Rattle.analysis.specs.Times.{number_at, place_of}
use Rattle.analysis.proofs.Numbering.{number_back}
use Rattle.plays.specs.Script.{Script, no_entry}
use Rattle.plays.specs.declared.Entry.{Entry}
use Rattle.plays.specs.Items.{Ledger, standing, first_ledger, after_entry, sound, first_frame_checks, entry_checks, item_checks}
use Rattle.plays.specs.Broken.{cut, FramesBefore, Before, Follows, lane_before, EntryBreaks, no_such_task, lock_too_long, out_of_order, too_soon, too_much_work, NoneBreaks, BrokenAt, no_such_frame, broken_entry}
use Rattle.plays.proofs.ScriptLanes.{place_found}
use Rattle.plays.proofs.Ledgers.{after_entries, InOrder, in_order_begin, own_before, ledger_at, Sound, sound_is, each_sound, checked_in_order}
use Rattle.plays.proofs.ScriptLegal.{firsts_fit, firsts_and_entries}

-- ---- which item is turned away

-- the item of the first check that fails, or one of the others
turned_away : (kept : Bool) (i : ℕ) (cs : List (Check ℕ)) (j : ℕ) → first_refusal ((not kept ⇒ i) ∷ cs) ≡ Some j
    → ((kept ≡ false) × (i ≡ j)) ⊎ ((kept ≡ true) × (first_refusal cs ≡ Some j))
turned_away false i cs j h = inl (refl, some_injective i j (sym (applies true i cs refl) ∙ h))
turned_away true i cs j h = inr (refl, sym (passed_over false i cs refl) ∙ h)

module _ (tasks : List Task) where
  -- first frames of the tasks from task a on: the first i are frames of their tasks
  abbrev FirstFit : ℕ → ℕ → List ℕ → Type 0
  FirstFit a i ks = (m : ℕ) → m < i → get_or ks m 0 < frame_count (task_at tasks (a + m))

  -- item j is the first of them that is not
  abbrev FrameTurned : ℕ → ℕ → List ℕ → Type 0
  FrameTurned j a ks = (i : ℕ) × (j ≡ a + i) × (i < length ks) × (frame_count (task_at tasks j) ≤ get_or ks i 0) × FirstFit a i ks

  more_fit : (a i k : ℕ) (ks : List ℕ) → k < frame_count (task_at tasks a) → FirstFit (suc a) i ks → FirstFit a (suc i) (k ∷ ks)
  more_fit a i k ks first others zero l = rw (add-zero a) first
  more_fit a i k ks first others (suc m) l = let same : suc a + m ≡ a + suc m = omega arith in rw (← same) (others m (omega arith))

  first_turned_away : (a : ℕ) (ks : List ℕ) (j : ℕ) → first_refusal (first_frame_checks tasks a ks) ≡ Some j → FrameTurned j a ks
  unfolding first_frame_checks
  first_turned_away a [] j h = absurd (none_ne_some j (sym no_check ∙ h))
  first_turned_away a (k ∷ ks) j h =
      go (turned_away (ltb k (frame_count (task_at tasks a))) a (first_frame_checks tasks (suc a) ks) j h) (first_turned_away (suc a) ks j)
    where
      Later : Type 0
      Later = first_refusal (first_frame_checks tasks (suc a) ks) ≡ Some j

      go : ((ltb k (frame_count (task_at tasks a)) ≡ false) × (a ≡ j)) ⊎ ((ltb k (frame_count (task_at tasks a)) ≡ true) × Later)
          → (Later → FrameTurned j (suc a) ks) → FrameTurned j a (k ∷ ks)
      go (inl (bad, here)) later = (0, omega arith, omega arith, rw (← here) (ltb-false _ _ bad), λ m l. absurd (omega arith))
      go (inr (good, there)) later =
          let (i, at, in_row, bad, fit) = later there in (suc i, omega arith, omega arith, bad, more_fit a i k ks (ltb-true _ _ good) fit)

  -- of entries, of which the first is item a, item j is the first that is not sound behind those before it
  abbrev EntryTurned : ℕ → ℕ → Ledger → List Entry → Type 0
  EntryTurned j a c es =
      (xs : List Entry) × (e : Entry) × (ys : List Entry) × (es ≡ xs ++ (e ∷ ys)) × (j ≡ a + length xs)
      × (first_refusal (entry_checks tasks a c xs) ≡ None) × (sound tasks (after_entries tasks c xs) e ≡ false)

  entry_turned_away : (a : ℕ) (c : Ledger) (es : List Entry) (j : ℕ) → first_refusal (entry_checks tasks a c es) ≡ Some j → EntryTurned j a c es
  unfolding entry_checks after_entries
  entry_turned_away a c [] j h = absurd (none_ne_some j (sym no_check ∙ h))
  entry_turned_away a c (e ∷ es) j h =
      go (turned_away (sound tasks c e) a (entry_checks tasks (suc a) (after_entry tasks c e) es) j h) (entry_turned_away (suc a) (after_entry tasks c e) es j)
    where
      Later : Type 0
      Later = first_refusal (entry_checks tasks (suc a) (after_entry tasks c e) es) ≡ Some j

      go : ((sound tasks c e ≡ false) × (a ≡ j)) ⊎ ((sound tasks c e ≡ true) × Later) → (Later → EntryTurned j (suc a) (after_entry tasks c e) es)
          → EntryTurned j a c (e ∷ es)
      go (inl (bad, here)) later = ([], e, es, refl, omega arith, no_check, bad)
      go (inr (good, there)) later =
          let (xs, d, ys, split, at, kept, bad) = later there in
          (e ∷ xs, d, ys, ap (λ l. e ∷ l) split, omega arith, passed_over (not (sound tasks c e)) a _ (ap not good) ∙ kept, bad)

-- ---- what the ledger says of the order

module _ (tasks : List Task) where
  -- what follows stands behind the last entry
  behind_last : (c : Ledger) (us : List Entry) (d : Entry) → (after_entries tasks c (us ++ (d ∷ []))).behind ≡ suc (standing d)
  unfolding after_entries after_entry
  behind_last c [] d = refl
  behind_last c (u ∷ us) d = behind_last (after_entry tasks c u) us d

  -- an entry behind a row in order, where the ledger allows it, makes a longer row in order
  in_order_more : (c : Ledger) (xs : List Entry) (e : Entry) → InOrder c.behind xs → (after_entries tasks c xs).behind ≤ standing e → InOrder c.behind (xs ++ (e ∷ []))
  unfolding after_entries after_entry
  in_order_more c [] e o h = (h, tt)
  in_order_more c (x ∷ xs) e o h = (o.0, in_order_more (after_entry tasks c x) xs e o.1 h)

-- of two cuts of a row the longer begins with the shorter and the entry behind it
goes_on : (xs : List Entry) (e : Entry) (ys xs' ys' : List Entry) → xs ++ (e ∷ ys) ≡ xs' ++ ys' → length xs < length xs' → (vs : List Entry) × (xs' ≡ xs ++ (e ∷ vs))
goes_on xs e ys xs' ys' same h =
    let n = length xs in
    let begin : take n xs' ≡ xs = sym (take-append-le n xs' ys' (omega arith)) ∙ ap (take n) (sym same) ∙ take-append_seam xs (e ∷ ys) in
    let next : get_or xs' n no_entry ≡ e =
    sym (get_or-append xs' ys' no_entry n h) ∙ ap (λ l. get_or l n no_entry) (sym same) ∙ get_or-append_seam xs e ys no_entry in
    (drop (suc n) xs', split_at xs' n no_entry h ∙ ap₂ (λ l d. l ++ (d ∷ drop (suc n) xs')) begin next)

-- the standing of entries goes by tick and then task number, since task numbers are below sixteen
stands_before : (d e : Entry) → e.task < most_tasks → standing d < standing e → Before d e
unfolding standing
stands_before d e in_set h = go (dec_lt d.tick e.tick)
  where
    go : Dec (d.tick < e.tick) → Before d e
    go (yes sooner) = inl sooner
    go (no n) = inr (omega arith, omega arith)

before_stands : (d e : Entry) → d.task < most_tasks → Before d e → standing d < standing e
unfolding standing
before_stands d e in_set (inl sooner) = omega arith
before_stands d e in_set (inr (same, lower)) = omega arith

module _ (order : List ℕ) (tasks : List Task) (sc : Script) (few : length tasks ≤ most_tasks) (permutes : Permutes (length tasks) order) where
  -- the ledger behind the entries xs of the script
  abbrev ledger : List Entry → Ledger
  ledger xs = after_entries tasks (first_ledger sc.firsts) xs

  first_behind : (ledger []).behind ≡ 0
  unfolding after_entries first_ledger
  first_behind = refl

  -- an entry that the ledger does not allow stands no further than the last
  not_behind : (xs : List Entry) (e : Entry) → standing e < (ledger xs).behind → (us : List Entry) × (d : Entry) × (xs ≡ us ++ (d ∷ [])) × (standing e ≤ standing d)
  not_behind xs e h = go (eq-nil-or-concat xs)
    where
      go : (xs ≡ []) ⊎ ((us : List Entry) × (d : Entry) × (xs ≡ concat us d)) → (us : List Entry) × (d : Entry) × (xs ≡ us ++ (d ∷ [])) × (standing e ≤ standing d)
      go (inl q) = let z : ⊥ = omega (arith, rw q at h, first_behind) in absurd z
      go (inr (us, d, q)) =
          let split : xs ≡ us ++ (d ∷ []) = q ∙ concat-eq-append us d in
          (us, d, split, omega (arith, rw split at h, behind_last tasks (first_ledger sc.firsts) us d))

  -- one of a task of the set that it allows follows
  behind_follows : (xs : List Entry) (e : Entry) → e.task < length tasks → (ledger xs).behind ≤ standing e → Follows xs e
  behind_follows xs e in_set h us d split = stands_before d e (omega arith) (omega (arith, rw split at h, behind_last tasks (first_ledger sc.firsts) us d))

  module _ (xs : List Entry) (e : Entry) (o : InOrder 0 xs) where
    longer_in_order : (ledger xs).behind ≤ standing e → InOrder 0 (xs ++ (e ∷ []))
    unfolding first_ledger
    longer_in_order h = in_order_more tasks (first_ledger sc.firsts) xs e o h

    -- the ledger behind xs is the lane of the task of an entry that follows, in the run of the script cut before it
    ledger_is_cut_lane : e.task < length tasks → (ledger xs).behind ≤ standing e
        → ((ledger xs).next e.task ≡ (lane_before order tasks sc xs e).next) × ((ledger xs).free_from e.task ≡ (lane_before order tasks sc xs e).free_from)
    ledger_is_cut_lane in_set h =
        let same : number_at order (place_of order e.task) ≡ e.task = number_back (length tasks) order permutes e.task in_set in
        let lane =
        ledger_at order tasks (cut sc xs) (place_of order e.task) (place_found order tasks permutes e.task in_set) 0 o e.tick xs [] (sym (append-nil xs))
        (rw same (own_before 0 xs e [] (longer_in_order h))) (λ d m q. absurd (Memᴰ.not-nil m)) in
        rw same at lane

    -- an entry that is not sound breaks something
    unsound_breaks : ((us : List Entry) (d : Entry) → xs ≡ us ++ (d ∷ []) → d.task < length tasks) → ¬ Sound tasks (ledger xs) e → EntryBreaks order tasks sc xs e
    unsound_breaks last_in bad =
        go (dec_lt e.task (length tasks)) (dec_le e.lock (task_at tasks e.task).lock) (dec_le (ledger xs).behind (standing e))
        (dec_le ((ledger xs).free_from e.task) e.tick) (dec_le e.work (frame (task_at tasks e.task) ((ledger xs).next e.task)))
      where
        go : Dec (e.task < length tasks) → Dec (e.lock ≤ (task_at tasks e.task).lock) → Dec ((ledger xs).behind ≤ standing e)
            → Dec ((ledger xs).free_from e.task ≤ e.tick) → Dec (e.work ≤ frame (task_at tasks e.task) ((ledger xs).next e.task))
            → EntryBreaks order tasks sc xs e
        go (no n) lock turn apart work = no_such_task (omega arith)
        go (yes i) (no n) turn apart work = lock_too_long (omega arith)
        go (yes i) (yes l) (no n) apart work =
            let (us, d, split, h) = not_behind xs e (omega arith) in
            out_of_order us d split (λ before. omega (arith, before_stands d e (omega (arith, last_in us d split)) before))
        go (yes i) (yes l) (yes b) (no n) work = too_soon i (behind_follows xs e i b) (rw (← (ledger_is_cut_lane i b).1) (omega arith))
        go (yes i) (yes l) (yes b) (yes a) (no n) = too_much_work i (behind_follows xs e i b) (rw (← (ledger_is_cut_lane i b).0) (omega arith))
        go (yes i) (yes l) (yes b) (yes a) (yes w) = absurd (bad (record { in_set = i; lock_fits = l; in_order = b; apart = a; work_fits = w }))

    -- a sound one breaks nothing
    sound_breaks_nothing : Sound tasks (ledger xs) e → EntryBreaks order tasks sc xs e → ⊥
    sound_breaks_nothing s (no_such_task h) = omega (arith, s.in_set)
    sound_breaks_nothing s (lock_too_long h) = omega (arith, s.lock_fits)
    sound_breaks_nothing s (out_of_order us d split h) = h (behind_follows xs e s.in_set s.in_order us d split)
    sound_breaks_nothing s (too_soon i f h) = omega (arith, s.apart, (ledger_is_cut_lane i s.in_order).1)
    sound_breaks_nothing s (too_much_work i f h) =
        let fits : e.work ≤ frame (task_at tasks e.task) (lane_before order tasks sc xs e).next = rw (← (ledger_is_cut_lane i s.in_order).0) s.work_fits in
        omega arith

  -- entries of which none is turned away are in order
  passed_in_order : (xs : List Entry) → first_refusal (entry_checks tasks (length sc.firsts) (first_ledger sc.firsts) xs) ≡ None → InOrder 0 xs
  unfolding first_ledger
  passed_in_order xs kept = checked_in_order tasks (length sc.firsts) (first_ledger sc.firsts) xs kept

  -- and none of them breaks anything
  passed_unbroken : (xs : List Entry) → first_refusal (entry_checks tasks (length sc.firsts) (first_ledger sc.firsts) xs) ≡ None → NoneBreaks order tasks sc xs
  passed_unbroken xs kept us d vs split =
      sound_breaks_nothing us d (in_order_begin 0 us (d ∷ vs) (rw (← split) (passed_in_order xs kept)))
      (each_sound tasks (length sc.firsts) (first_ledger sc.firsts) us d vs (rw (← split) kept))

  frame_refused : (j : ℕ) → first_refusal (first_frame_checks tasks 0 sc.firsts) ≡ Some j → BrokenAt order tasks sc j
  frame_refused j h =
      let (i, at, in_row, bad, fit) = first_turned_away tasks 0 sc.firsts j h in
      let same : i ≡ j = omega arith in
      no_such_frame (rw (← same) in_row) (rw same at bad) (λ m l. rw (zero-add m) at (fit m (omega arith)))

  frames_pass : first_refusal (first_frame_checks tasks 0 sc.firsts) ≡ None → FramesBefore tasks sc (length sc.firsts)
  frames_pass kept i l = rw (zero-add i) at (firsts_fit tasks 0 sc.firsts kept i l)

  entry_refused : (j : ℕ) → first_refusal (first_frame_checks tasks 0 sc.firsts) ≡ None
      → first_refusal (entry_checks tasks (length sc.firsts) (first_ledger sc.firsts) sc.entries) ≡ Some j → BrokenAt order tasks sc j
  entry_refused j frames h =
      let (xs, e, ys, split, at, kept, bad) = entry_turned_away tasks (length sc.firsts) (first_ledger sc.firsts) sc.entries j h in
      broken_entry xs e ys split at (frames_pass frames) (passed_unbroken xs kept)
      (unsound_breaks xs e (passed_in_order xs kept)
      (λ us d last. (each_sound tasks (length sc.firsts) (first_ledger sc.firsts) us d [] (rw (← last) kept)).in_set)
      (refused bad (sound_is tasks (ledger xs) e)))

  -- the item that is turned away is the first that is wrong
  pub item_refused : (j : ℕ) → first_refusal (item_checks tasks sc) ≡ Some j → BrokenAt order tasks sc j
  unfolding item_checks
  item_refused j h = go (answer (first_refusal frames))
    where
      frames : List (Check ℕ)
      frames = first_frame_checks tasks 0 sc.firsts

      entries : List (Check ℕ)
      entries = entry_checks tasks (length sc.firsts) (first_ledger sc.firsts) sc.entries

      go : Answer (first_refusal frames) → BrokenAt order tasks sc j
      go (nothing e) = entry_refused j e (sym (none_first frames entries e) ∙ h)
      go (it_is i e) = frame_refused j (e ∙ sym (some_first frames entries i e) ∙ h)

  -- where no item is turned away, none is wrong
  none_broken : first_refusal (item_checks tasks sc) ≡ None → (j : ℕ) → BrokenAt order tasks sc j → ⊥
  none_broken kept j (no_such_frame l bad before) = omega (arith, frames_pass (firsts_and_entries tasks sc kept).0 j l)
  none_broken kept j (broken_entry xs e ys split at frames before bad) = passed_unbroken sc.entries (firsts_and_entries tasks sc kept).1 xs e ys split bad

  -- no two items are the first that is wrong
  no_sooner : (j k : ℕ) → BrokenAt order tasks sc j → BrokenAt order tasks sc k → j < k → ⊥
  no_sooner j k (no_such_frame l bad before) (no_such_frame l' bad' before') h = omega (arith, before' j h)
  no_sooner j k (no_such_frame l bad before) (broken_entry xs e ys split at frames before' bad') h = omega (arith, frames j l)
  no_sooner j k (broken_entry xs e ys split at frames before bad) (no_such_frame l bad' before') h = omega arith
  no_sooner j k (broken_entry xs e ys split at frames before bad) (broken_entry xs' e' ys' split' at' frames' before' bad') h =
      let (vs, longer) = goes_on xs e ys xs' (e' ∷ ys') (sym split ∙ split') (omega arith) in before' xs e vs longer bad

  -- the first item that is wrong is turned away
  pub broken_refused : (j : ℕ) → BrokenAt order tasks sc j → first_refusal (item_checks tasks sc) ≡ Some j
  broken_refused j bad = go (answer (first_refusal (item_checks tasks sc)))
    where
      go : Answer (first_refusal (item_checks tasks sc)) → first_refusal (item_checks tasks sc) ≡ Some j
      go (nothing e) = absurd (none_broken e j bad)
      go (it_is k e) = e ∙ ap Some (same (dec_lt j k) (dec_lt k j))
        where
          same : Dec (j < k) → Dec (k < j) → k ≡ j
          same (yes h) d = absurd (no_sooner j k bad (item_refused k e) h)
          same (no n) (yes h) = absurd (no_sooner k j (item_refused k e) bad h)
          same (no n) (no m) = omega arith
