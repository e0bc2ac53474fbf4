-- The walk over the items of a script: first frames, then entries, each with the ledger of the releases before it.
use Rattle.std.proofs.Common.{◌≡◌, ℕ, suc, ◌+◌, ◌≤◌, ◌<◌, Bool, true, false, not, cond, leb, ltb, eqb, List, [], ◌∷◌, map, length, get_or, take, drop, set, None, Option, Some, Result, Ok, Err, refl, sym, ap, ap₂, ◌∙◌, add-one, arith, length-set, get_or-set_same, get_or-set_other, drop-cons, length-take-le}
use Prim.Native.Nat.{zero}
use native.Mathlib.Decide.{ℕ_discrete, dec_le}
use borrow.Author.Tests.{lt-ltb, le-ltb, lt-leb, le-leb, ltb-true, eq-eqb, ne_eqb, not-false}
use Rattle.std.specs.List.{zip, position, position_from}
use Rattle.std.proofs.Math.ListN.{drop_of_length-le}
use Rattle.std.proofs.Math.Seq.{get_or-take}
use Rattle.std.proofs.lemmas.List.{length-map}
use Rattle.std.proofs.lemmas.Iterator.Adapters.{position_from-zero}
use Rattle.lent.specs.Checks.{Check, ◌⇒◌, first_refusal}
use Rattle.lent.proofs.Checks.{applies, passed_over, passed, no_check}
use Rattle.theory.specs.Tasks.{Task, task_at, frame_count, next_frame}
use Rattle.sheet.specs.Tasks.{task_in, no_record}
use Rattle.sheet.specs.declared.Task.{Task as Record}
use Rattle.order.proofs.Records.{task_of_record}
use Rattle.plays.specs.Script.{no_entry}
use Rattle.plays.specs.Items.{Ledger, first_ledger, after_entry, in_range, in_order, by_rules, sound, first_frame_checks, entry_checks, standing}
use Rattle.plays.specs.declared.Entry.{Entry}
use Rattle.scripts.specs.Judging.{judged_by, judged}
use Rattle.scripts.specs.Inside.Steps.{sound_turn, turn_after}
use Rattle.scripts.specs.declared.Flaw.{Flaw}
use Rattle.scripts.specs.declared.Flaw.TheVariants.{Item}
use Rattle.scripts.specs.declared.Turn.{Turn}
use Rattle.scripts.proofs.Turns.{next_below}

-- ---- a row of items

module _ (b : Bool) (j : ℕ) (cs : List (Check ℕ)) where
  turned : b ≡ false → judged ((not b ⇒ j) ∷ cs) ≡ Err (Item j)
  unfolding judged
  turned e = ap judged_by (applies (not b) j cs (ap not e))

  goes_on : b ≡ true → judged ((not b ⇒ j) ∷ cs) ≡ judged cs
  unfolding judged
  goes_on e = ap judged_by (passed_over (not b) j cs (ap not e))

ends_sound : judged [] ≡ Ok tt
unfolding judged
ends_sound = ap judged_by no_check

-- ---- first frames

-- the first that is none of its task's is the first item turned away
first_wrong : (ts : List Task) (i : ℕ) (rs : List Record) (fs : List ℕ) → length fs ≡ length rs
    → ((k : ℕ) → k < length rs → task_at ts (i + k) ≡ task_in (get_or rs k no_record))
    → first_refusal (first_frame_checks ts i fs) ≡ position_from (λ q. leb (frame_count (task_in q.0)) q.1) i (zip rs fs)
unfolding first_frame_checks
first_wrong ts i [] [] e there = no_check
first_wrong ts i [] (f ∷ fs) e there = absurd (omega arith)
first_wrong ts i (r ∷ rs) [] e there = absurd (omega arith)
first_wrong ts i (r ∷ rs) (f ∷ fs) e there = go (dec_le (frame_count (task_in r)) f) (first_wrong ts (suc i) rs fs (omega arith) later)
  where
    later : (k : ℕ) → k < length rs → task_at ts (suc i + k) ≡ task_in (get_or rs k no_record)
    later k h = let next : i + suc k ≡ suc i + k = omega arith in rw next at (there (suc k) (omega arith))

    here : task_at ts i ≡ task_in r
    here = let first : i + 0 ≡ i = omega arith in rw first at (there 0 (omega arith))

    go : Dec (frame_count (task_in r) ≤ f)
        → first_refusal (first_frame_checks ts (suc i) fs) ≡ position_from (λ (q : Record × ℕ). leb (frame_count (task_in q.0)) q.1) (suc i) (zip rs fs)
        → first_refusal ((not (ltb f (frame_count (task_at ts i))) ⇒ i) ∷ first_frame_checks ts (suc i) fs)
        ≡ cond (leb (frame_count (task_in r)) f) (Some i) (position_from (λ (q : Record × ℕ). leb (frame_count (task_in q.0)) q.1) (i + 1) (zip rs fs))
    go (yes h) rec = rw (here, le-ltb f (frame_count (task_in r)) h, le-leb (frame_count (task_in r)) f h) (applies true i _ refl)
    go (no h) rec =
        let less : f < frame_count (task_in r) = omega arith in
        rw (here, lt-ltb f (frame_count (task_in r)) less, lt-leb (frame_count (task_in r)) f less, add-one i) (passed_over false i _ refl ∙ rec)

-- the answer to all first frames, from the first that is none of its task's
pub firsts_judged : (rs : List Record) (fs : List ℕ) (o : Option ℕ) → length fs ≡ length rs → o ≡ position (λ (q : Record × ℕ). leb (frame_count (task_in q.0)) q.1) (zip rs fs)
    → judged_by o ≡ judged (first_frame_checks (map task_in rs) 0 fs)
unfolding judged
firsts_judged rs fs o e is =
    ap judged_by
    (is ∙ position_from-zero (λ (q : Record × ℕ). leb (frame_count (task_in q.0)) q.1) (zip rs fs)
    ∙ sym (first_wrong (map task_in rs) 0 rs fs e (λ k h. let here : 0 + k ≡ k = omega arith in rw here (task_of_record rs k no_record h))))

-- where no first frame is turned away each is a frame of its task
pub frames_right : (ts : List Task) (i : ℕ) (fs : List ℕ) → first_refusal (first_frame_checks ts i fs) ≡ None
    → (k : ℕ) → k < length fs → get_or fs k 0 < frame_count (task_at ts (i + k))
unfolding first_frame_checks
frames_right ts i [] e k h = absurd (omega arith)
frames_right ts i (f ∷ fs) e zero h =
    let here : i ≡ i + 0 = omega arith in
    let p = passed (not (ltb f (frame_count (task_at ts i))) ⇒ i) (first_frame_checks ts (suc i) fs) e in
    rw (← here) (ltb-true f (frame_count (task_at ts i)) (not-false (ltb f (frame_count (task_at ts i))) p.0))
frames_right ts i (f ∷ fs) e (suc k) h =
    let there : suc i + k ≡ i + suc k = omega arith in
    let p = passed (not (ltb f (frame_count (task_at ts i))) ⇒ i) (first_frame_checks ts (suc i) fs) e in
    rw (← there) (frames_right ts (suc i) fs p.1 k (omega arith))

-- ---- entries

-- a turn that nothing reads
abbrev pub no_turn : Turn
no_turn = record { next = 0; free_from = 0 }

-- what holds of each turn, holds where one is stored of which it holds
stored : (turns : List Turn) (i n : ℕ) (v : Turn) (P : ℕ → Turn → Type 0) → i < length turns → P i v
    → ((k : ℕ) → k < n → ¬ (k ≡ i) → P k (get_or turns k no_turn)) → (k : ℕ) → k < n → P k (get_or (set turns i v) k no_turn)
stored turns i n v P h new old k m = go (ℕ_discrete k i)
  where
    go : Dec (k ≡ i) → P k (get_or (set turns i v) k no_turn)
    go (yes e) = rw (e, get_or-set_same turns i v no_turn h) new
    go (no ne) = rw (get_or-set_other turns i k v no_turn ne) (old k m ne)

-- after j entries: the turns of the n tasks are those of the ledger of the releases, and what is left decides
pub record Walked (ts : List Task) (n : ℕ) (fs : List ℕ) (es : List Entry) (turns : List Turn) (behind j : ℕ) : Type 0 where
  pub ledger : Ledger
  pub in_row : j ≤ length es
  pub room : n ≤ length turns
  pub nexts : (i : ℕ) → i < n → (get_or turns i no_turn).next ≡ ledger.next i
  pub frees : (i : ℕ) → i < n → (get_or turns i no_turn).free_from ≡ ledger.free_from i
  pub least : behind ≡ ledger.behind
  pub frames : (i : ℕ) → i < n → (get_or turns i no_turn).next < frame_count (task_at ts i)
  pub same : judged (entry_checks ts (n + j) ledger (drop j es)) ≡ judged (entry_checks ts n (first_ledger fs) es)

-- before the first entry the next job of each task has its first frame
pub none_walked : (ts : List Task) (n : ℕ) (firsts : List ℕ) (es : List Entry) (turns : List Turn) → n ≤ length firsts → n ≤ length turns
    → ((i : ℕ) → i < n → get_or turns i no_turn ≡ (record { next = get_or firsts i 0; free_from = 0 }))
    → first_refusal (first_frame_checks ts 0 (take n firsts)) ≡ None → Walked ts n (take n firsts) es turns 0 0
unfolding first_ledger
none_walked ts n firsts es turns long room begin e =
    let none_before : n + 0 ≡ n = omega arith in
    let first_is : (i : ℕ) → i < n → (get_or turns i no_turn).next ≡ get_or (take n firsts) i 0 =
    λ i h. ap (λ (t : Turn). t.next) (begin i h) ∙ sym (get_or-take n firsts i 0 h) in
    record {
      ledger = first_ledger (take n firsts);
      in_row = omega arith;
      room = room;
      nexts = first_is;
      frees = λ i h. ap (λ (t : Turn). t.free_from) (begin i h);
      least = refl;
      frames = λ i h. let here : 0 + i ≡ i = omega arith in
          rw (first_is i h) (rw here at (frames_right ts 0 (take n firsts) e i (omega (arith, length-take-le n firsts long))));
      same = ap (λ (k : ℕ). judged (entry_checks ts k (first_ledger (take n firsts)) es)) none_before;
    }

module _ (tasks : List Record) {fs : List ℕ} {es : List Entry} {turns : List Turn} {behind j : ℕ}
    (w : Walked (map task_in tasks) (length tasks) fs es turns behind j) where
  abbrev ts : List Task
  ts = map task_in tasks

  abbrev n : ℕ
  n = length tasks

  as_many : length ts ≡ n
  as_many = length-map tasks task_in

  -- the answer to all entries
  abbrev the_answer : Result Unit Flaw
  the_answer = judged (entry_checks ts n (first_ledger fs) es)

  pub walk_done : length es ≤ j → Ok tt ≡ the_answer
  unfolding entry_checks
  walk_done h =
      sym (sym w.same ∙ ap (λ (l : List Entry). judged (entry_checks ts (n + j) w.ledger l)) (drop_of_length-le es h) ∙ ends_sound)

  -- entry j
  module _ {e : Entry} (at : (j < length es) × (e ≡ get_or es j no_entry)) where
    abbrev rest : List (Check ℕ)
    rest = entry_checks ts (suc (n + j)) (after_entry ts w.ledger e) (drop (suc j) es)

    split : entry_checks ts (n + j) w.ledger (drop j es) ≡ (not (sound ts w.ledger e) ⇒ n + j) ∷ rest
    unfolding entry_checks
    split = ap (entry_checks ts (n + j) w.ledger) (drop-cons es j no_entry at.0 ∙ ap (λ (x : Entry). x ∷ drop (suc j) es) (sym at.1))

    refused : sound ts w.ledger e ≡ false → Err (Item (n + j)) ≡ the_answer
    refused f = sym (sym w.same ∙ ap judged split ∙ turned (sound ts w.ledger e) (n + j) rest f)

    pub no_such_task : n ≤ e.task → Err (Item (n + j)) ≡ the_answer
    unfolding sound in_range
    no_such_task l = refused (rw (le-ltb e.task (length ts) (omega (arith, as_many))))

    -- of task r
    module _ {r : Record} (m : e.task < n) (there : r ≡ get_or tasks e.task no_record) where
      er : task_at ts e.task ≡ task_in r
      er = task_of_record tasks e.task no_record m ∙ ap task_in (sym there)

      abbrev now : Turn
      now = get_or turns e.task no_turn

      pub next_in : now.next < frame_count (task_in r)
      next_in = rw (← er) (w.frames e.task m)

      sound_is : sound ts w.ledger e ≡ sound_turn (task_in r) now behind e
      unfolding sound in_range in_order by_rules sound_turn
      sound_is = rw (lt-ltb e.task (length ts) (omega (arith, as_many)), er, ← w.least, ← w.nexts e.task m, ← w.frees e.task m)

      pub not_sound : sound_turn (task_in r) now behind e ≡ false → Err (Item (n + j)) ≡ the_answer
      not_sound f = refused (sound_is ∙ f)

      pub walk_more : sound_turn (task_in r) now behind e ≡ true → (then : Turn) → then ≡ turn_after (task_in r) now e
          → Walked ts n fs es (set turns e.task then) (standing e + 1) (j + 1)
      unfolding after_entry turn_after
      walk_more f then et =
          let i = e.task in
          let c = w.ledger in
          let next_is : then.next ≡ next_frame (task_at ts i) (c.next i) = ap (λ (x : Turn). x.next) et ∙ ap₂ next_frame (sym er) (w.nexts i m) in
          let free_is : then.free_from ≡ e.tick + (task_at ts i).period =
          ap (λ (x : Turn). x.free_from) et ∙ ap (λ (t : Task). e.tick + t.period) (sym er) in
          let onward : n + (j + 1) ≡ suc (n + j) = omega arith in
          let slot : i < length turns = omega (arith, w.room) in
          record {
            ledger = after_entry ts c e;
            in_row = omega arith;
            room = rw (length-set turns i then) w.room;
            nexts = stored turns i n then (λ k t. t.next ≡ cond (eqb k i) (next_frame (task_at ts i) (c.next k)) (c.next k)) slot
                (rw (eq-eqb i i refl) next_is) (λ k l ne. rw (ne_eqb k i ne) (w.nexts k l));
            frees = stored turns i n then (λ k t. t.free_from ≡ cond (eqb k i) (e.tick + (task_at ts i).period) (c.free_from k)) slot
                (rw (eq-eqb i i refl) free_is) (λ k l ne. rw (ne_eqb k i ne) (w.frees k l));
            least = add-one (standing e);
            frames = stored turns i n then (λ k t. t.next < frame_count (task_at ts k)) slot
                (rw (next_is, ← w.nexts i m) (next_below (task_at ts i) now.next (w.frames i m))) (λ k l ne. w.frames k l);
            same =
                rw (onward, add-one j) (sym (goes_on (sound ts c e) (n + j) rest (sound_is ∙ f)) ∙ sym (ap judged split) ∙ w.same);
          }
