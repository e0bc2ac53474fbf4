-- The walk over the records: after i of them, where the next one starts, what was read, and what is still to be checked.
use Rattle.std.specs.Prelude.{Err, Ok, Result}
use mathlib.Core.Bool.{Bool}
use mathlib.Core.List.{List, [], ◌∷◌, ◌++◌, map, append-nil}
use mathlib.Core.Path.{◌≡◌, refl, sym, ap, ap₂, ◌∙◌}
use Prim.Native.Nat.{ℕ, zero, suc, ◌+◌, ◌-◌, ◌≤◌, ◌<◌}
use native.Mathlib.Numerals.{add-one}
use native.Mathlib.Omega.{arith}
use lib.ListN.{length, take, drop, set, replicate, length-map}
use lib.Seq.{drop-drop, length-take-le}
use Rattle.bits.specs.Packed.{bits_of}
use Rattle.sheet.specs.Constants.{most_tasks}
use Rattle.sheet.specs.Fields.{own_deadlines}
use Rattle.sheet.specs.Tasks.{record_of, blank_record, set_with}
use Rattle.sheet.specs.Layout.{record_width, task_at_start, tasks_in}
use Rattle.lent.specs.Checks.{Check}
use Rattle.sheet.specs.Admission.{decided}
use Rattle.sheet.specs.Reading.{layout_checks, reading_of}
use Rattle.sheet.proofs.Checks.{admitted_first, refused_first}
use Rattle.sheet.proofs.RecordBits.{length_tasks_in}
use Rattle.sheet.specs.declared.Reading.{Reading}
use Rattle.sheet.specs.declared.Refusal.{Refusal}
use Rattle.sheet.specs.declared.TaskSet.{TaskSet}
use Rattle.sheet.specs.declared.Task.{Task as Record}
use Rattle.reader.specs.Inside.Parts.{record_checks, found_by, found_at, records_reading}
use Rattle.reader.specs.declared.Found.{Found}
use Rattle.records.proofs.Parts.{take_replicate, drop_replicate}
use Rattle.records.specs.Sealed.{rest_of}
use Rattle.records.specs.declared.Surplus.{Surplus}
use Rattle.sheet.specs.Refusals.{surplus_refused}
use Rattle.reader.proofs.Fill.{refused, fill_answer}
use Rattle.reader.proofs.Slots.{put_next}
use Rattle.std.proofs.lemmas.List.{map-append}

-- ---- n records, the next one behind them

-- how many bits n records take
pub records_width : Bool → ℕ → List Bool → ℕ
records_width own zero bs = 0
records_width own (suc n) bs = record_width own bs + records_width own n (drop (record_width own bs) bs)

module _ (own : Bool) where
  records_width_more : (n : ℕ) (bs : List Bool) → records_width own (suc n) bs ≡ records_width own n bs + record_width own (drop (records_width own n bs) bs)
  unfolding records_width
  records_width_more zero bs = omega arith
  records_width_more (suc n) bs =
      let w = record_width own bs in
      let ih = records_width_more n (drop w bs) in
      let e = ap (record_width own) (drop-drop (records_width own n (drop w bs)) w bs) in
      omega arith

  tasks_more : (n : ℕ) (bs : List Bool) → tasks_in own (suc n) bs ≡ tasks_in own n bs ++ task_at_start own (drop (records_width own n bs) bs) ∷ []
  unfolding tasks_in records_width
  tasks_more zero bs = refl
  tasks_more (suc n) bs =
      let w = record_width own bs in
      ap (◌∷◌ (task_at_start own bs))
      (tasks_more n (drop w bs)
      ∙ ap (λ (l : List Bool). tasks_in own n (drop w bs) ++ task_at_start own l ∷ []) (drop-drop (records_width own n (drop w bs)) w bs))

  -- m slots for records after n were read
  pub recorded : ℕ → ℕ → List Bool → List Record
  recorded m n bs = map record_of (tasks_in own n bs) ++ replicate (m - n) blank_record

  recorded_more : (m n : ℕ) (bs : List Bool) → n < m
      → set (recorded m n bs) n (record_of (task_at_start own (drop (records_width own n bs) bs))) ≡ recorded m (suc n) bs
  unfolding recorded
  recorded_more m n bs h =
      rw (tasks_more n bs, map-append record_of (tasks_in own n bs) (task_at_start own (drop (records_width own n bs) bs) ∷ []))
      (put_next (map record_of (tasks_in own n bs)) n m blank_record _ (length-map (tasks_in own n bs) record_of ∙ length_tasks_in own n bs) h)

  -- what is found tells the answer to its checks
  found_why : (a : Result Unit Refusal) (at : ℕ) (bs : List Bool) (why : Refusal) → found_by own a at bs ≡ Err why → a ≡ Err why
  unfolding found_by
  found_why (Ok _) at bs why e = let z : ⊥ = cc in absurd z
  found_why (Err _) at bs why e = cc

  found_so : (a : Result Unit Refusal) (at : ℕ) (bs : List Bool) (f : Found) → found_by own a at bs ≡ Ok f
      → (a ≡ Ok tt) × (f.next ≡ at + record_width own bs) × (f.task ≡ record_of (task_at_start own bs))
  unfolding found_by
  found_so (Ok _) at bs f e =
      let is : ◌≡◌ {A = Found} (record { task = record_of (task_at_start own bs); next = at + record_width own bs }) f = cc in
      (refl, sym (ap (λ (x : Found). x.next) is), sym (ap (λ (x : Found). x.task) is))
  found_so (Err _) at bs f e = let z : ⊥ = cc in absurd z

-- ---- the walk

-- the records from a position on, after i of n
pub record Walked (own : Bool) (s : List ℕ) (start n i at : ℕ) (tasks : List Record) : Type 0 where
  pub turn : i ≤ n
  pub position : at ≡ start + records_width own i (drop start (bits_of s))
  pub held : tasks ≡ recorded own n i (drop start (bits_of s))
  pub same : decided (layout_checks own i (n - i) (drop at (bits_of s))) ≡ decided (layout_checks own 0 n (drop start (bits_of s)))

-- of sixteen slots the first n are walked over
pub slots_long : (blank : Record) (n : ℕ) → n ≤ most_tasks → length (take n (replicate most_tasks blank)) ≡ n
slots_long blank n h = length-take-le n (replicate most_tasks blank) h

pub none_walked : (own : Bool) (s : List ℕ) (start n : ℕ) → n ≤ most_tasks → Walked own s start n 0 start (take n (replicate most_tasks blank_record))
unfolding records_width recorded tasks_in
none_walked own s start n few =
    let e : n - 0 ≡ n = omega arith in
    record {
      turn = omega arith;
      position = omega arith;
      held = rw e (take_replicate n most_tasks blank_record few);
      same = ap (λ (m : ℕ). decided (layout_checks own 0 m (drop start (bits_of s)))) e;
    }

module _ (own : Bool) (s : List ℕ) (start n i at : ℕ) (tasks : List Record) (w : Walked own s start n i at tasks) where
  abbrev all : List Bool
  all = drop start (bits_of s)

  here : drop (records_width own i all) all ≡ drop at (bits_of s)
  here = drop-drop (records_width own i all) start (bits_of s) ∙ ap (λ (k : ℕ). drop k (bits_of s)) (sym w.position)

  -- what is read where the version has this form
  read_so : (version policy : ℕ) → own ≡ own_deadlines version
      → reading_of (decided (layout_checks own 0 n all)) version (set_with policy (tasks_in own n all)) ≡ records_reading version policy n all
  unfolding records_reading
  read_so version policy eo = ap (λ (b : Bool). reading_of (decided (layout_checks b 0 n all)) version (set_with policy (tasks_in b n all))) eo

  module _ (h : i < n) where
    checks : List (Check Refusal)
    checks = layout_checks own (suc i) (n - suc i) (drop (record_width own (drop at (bits_of s))) (drop at (bits_of s)))

    split : layout_checks own i (n - i) (drop at (bits_of s)) ≡ record_checks own i (drop at (bits_of s)) ++ checks
    unfolding layout_checks record_checks checks
    split =
        let m : n - i ≡ suc (n - suc i) = omega arith in
        rw m

    pub walk_ends : (version policy : ℕ) → own ≡ own_deadlines version → (why : Refusal) → found_at own i at (drop at (bits_of s)) ≡ Err why
        → Err why ≡ records_reading version policy n all
    unfolding reading_of found_at
    walk_ends version policy eo why e =
        sym (ap (λ (a : Result Unit Refusal). reading_of a version (set_with policy (tasks_in own n all)))
        (sym w.same ∙ ap decided split ∙ refused_first _ checks why (found_why own _ at (drop at (bits_of s)) why e)))
        ∙ read_so version policy eo

    module _ (f : Found) (e : found_at own i at (drop at (bits_of s)) ≡ Ok f) where
      found : (decided (record_checks own i (drop at (bits_of s))) ≡ Ok tt) × (f.next ≡ at + record_width own (drop at (bits_of s)))
          × (f.task ≡ record_of (task_at_start own (drop at (bits_of s))))
      unfolding found_at
      found = found_so own _ at (drop at (bits_of s)) f e

      pub walk_more : Walked own s start n (i + 1) f.next (set tasks i f.task)
      unfolding checks
      walk_more =
          record {
            turn = omega arith;
            position = rw (add-one i) (omega (arith, found.1, records_width_more own i all, ap (record_width own) here, w.position));
            held = rw (w.held, found.2, ← here, add-one i) (recorded_more own n i all h);
            same =
                rw (add-one i, found.1, ← drop-drop (record_width own (drop at (bits_of s))) at (bits_of s))
                (sym (admitted_first _ checks found.0) ∙ sym (ap decided split) ∙ w.same);
          }

  -- the records are through, and what is left behind them decides
  module _ (h : n ≤ i) where
    at_end : i ≡ n
    at_end = omega (arith, w.turn)

    last : refused (rest_of (drop at (bits_of s))) ≡ decided (layout_checks own 0 n all)
    unfolding layout_checks
    last =
        let none_left : 0 ≡ n - i = omega arith in
        fill_answer (drop at (bits_of s)) ∙ ap (λ (m : ℕ). decided (layout_checks own i m (drop at (bits_of s)))) none_left ∙ w.same

    pub fill_refused : (version policy : ℕ) → own ≡ own_deadlines version → (left : Surplus) → rest_of (drop at (bits_of s)) ≡ Err left
        → Err (surplus_refused left) ≡ records_reading version policy n all
    unfolding reading_of
    fill_refused version policy eo left e =
        ap (λ (x : Result Unit Refusal). reading_of x version (set_with policy (tasks_in own n all))) (sym (ap refused e) ∙ last) ∙ read_so version policy eo

    -- the slots behind them are blank
    records_are : tasks ++ drop n (replicate most_tasks blank_record) ≡ map record_of (tasks_in own n all) ++ replicate (most_tasks - length (tasks_in own n all)) blank_record
    unfolding recorded
    records_are =
        let none_left : n - n ≡ 0 = omega arith in
        let held : tasks ≡ map record_of (tasks_in own n all) = w.held ∙ ap (λ (m : ℕ). recorded own n m all) at_end ∙ rw none_left (append-nil _) in
        rw (held, drop_replicate n most_tasks blank_record, length_tasks_in own n all) refl

    set_is : (policy : ℕ) → ◌≡◌ {A = TaskSet} (record { policy = policy; task_count = n; tasks = tasks ++ drop n (replicate most_tasks blank_record) }) (set_with policy (tasks_in own n all))
    unfolding set_with
    set_is policy = λ k. record { policy = policy; task_count = sym (length_tasks_in own n all) k; tasks = records_are k }

    pub walk_done : (version policy : ℕ) → own ≡ own_deadlines version → rest_of (drop at (bits_of s)) ≡ Ok tt
        → ◌≡◌ {A = Result Reading Refusal} (Ok (record { version = version; set = record { policy = policy; task_count = n; tasks = tasks ++ drop n (replicate most_tasks blank_record) } }))
        (records_reading version policy n all)
    unfolding reading_of
    walk_done version policy eo e = ap₂ (λ (x : Result Unit Refusal) (y : TaskSet). reading_of x version y) (sym (ap refused e) ∙ last) (set_is policy) ∙ read_so version policy eo
