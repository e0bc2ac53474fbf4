-- The calls with a list say of the list what the set that it is gathered into says.
use Rattle.std.specs.Prelude.{Err, Ok, Result, Some}
use mathlib.Core.Bool.{Bool, true, false, not}
use mathlib.Core.List.{List, ◌++◌, map}
use mathlib.Core.Path.{◌≡◌, refl, sym, ap, ap₂, ◌∙◌}
use Prim.Native.Nat.{ℕ, suc, ◌≤◌, ◌<◌}
use native.Mathlib.Decide.{dec_le}
use native.Mathlib.Nat.{min-eq_left, le-min, le_refl}
use native.Mathlib.Omega.{arith}
use borrow.Author.Tests.{lt-ltb, ne_eqb}
use lib.ListN.{length, take, drop, replicate, length-map, length-append, length-replicate}
use lib.Seq.{take_all, take_at}
use Rattle.lent.specs.Checks.{Check, first_refusal}
use Rattle.lent.specs.Lent.{Call, laid, answered, left_after}
use Rattle.lent.proofs.Checks.{applies, passed_over, some_first}
use Rattle.lent.proofs.Lent.{by_checks, by_room, done, TurnedAway, turned_tells, done_tells}
use Rattle.sheet.specs.Constants.{version_1, version_2, most_tasks}
use Rattle.sheet.specs.Tasks.{task_in, record_of, records_of, blank_record, set_with}
use Rattle.sheet.specs.Admission.{miscounted, known_policy, decided, list_checks, policy_check, task_count_check}
use Rattle.sheet.specs.Reading.{version_among, sheet_checks, policy_of, tasks_of, reading}
use Rattle.sheet.specs.Writing.{sheet_of, sheet_bytes, version_check, writing_checks, writing, written, left}
use Rattle.sheet.specs.declared.Refusal.{Refusal}
use Rattle.sheet.specs.declared.Refusal.TheVariants.{Version, Policy, TaskCount, Room}
use Rattle.sheet.specs.declared.TaskSet.{TaskSet}
use Rattle.sheet.specs.declared.Task.{Task}
use Rattle.sheet.specs.declared.Reading.{Reading}
use Rattle.sheet.proofs.Carried.{by_reading, reading_admits, reading_refuses}
use Rattle.sheet.proofs.Checks.{none_applies, one_applies}
use Rattle.sheet.proofs.Records.{records_with}
use Rattle.analysis.specs.Times.{times_of}
use Rattle.analysis.specs.Answers.{decision, analysing, set_analysing, set_decision, set_left}
use Rattle.lists.specs.Lists.{gathered_of, scattered_of}
use Rattle.lists.specs.Faces.{reading_list, list_read, list_filled, writing_list, list_written, list_left, analysing_list, list_analysed, list_times}
use Rattle.lists.specs.declared.ListRead.{ListRead}
use Rattle.lists.proofs.Laws.{scattered_all}

-- ---- a list of at most sixteen records is gathered whole

module _ (policy : ℕ) (list : List Task) (few : length list ≤ most_tasks) where
  count_gathered : (gathered_of policy list).task_count ≡ length list
  unfolding gathered_of
  count_gathered = let h : length list ≤ suc most_tasks = omega arith in min-eq_left h

  records_gathered : records_of (gathered_of policy list) ≡ list
  unfolding gathered_of records_of laid
  records_gathered =
      let h : length list ≤ suc most_tasks = omega arith in
      ap₂ (λ (n : ℕ) (l : List Task). take n (l ++ drop (length l) (replicate most_tasks blank_record))) (min-eq_left h) (take_all most_tasks list few)
      ∙ take_at list (drop (length list) (replicate most_tasks blank_record)) (length list) refl

count_over : (policy : ℕ) (list : List Task) → most_tasks < length list → most_tasks < (gathered_of policy list).task_count
unfolding gathered_of
count_over policy list h = le-min h (le_refl (suc most_tasks))

-- ---- a longer one is turned away whatever its records are: 4, or else 6

-- the refusal of too long a list, by whether its policy is known
over_long : Bool → Refusal
over_long true = TaskCount
over_long false = Policy

too_long : (policy n : ℕ) (records : List Task) → most_tasks < n → first_refusal (list_checks policy n records) ≡ Some (over_long (known_policy policy))
unfolding list_checks policy_check task_count_check over_long
too_long policy n records h = go (known_policy policy) refl
  where
    go : (b : Bool) → known_policy policy ≡ b → first_refusal (list_checks policy n records) ≡ Some (over_long b)
    go true e =
        passed_over (not (known_policy policy)) Policy _ (ap not e)
        ∙ applies (miscounted n most_tasks) TaskCount _ (rw (ne_eqb n 0 (omega arith), lt-ltb most_tasks n h))
    go false e = applies (not (known_policy policy)) Policy _ (ap not e)

-- ---- what is answered and left of a set by its count and its records is answered and left of the list

module _ {A X : Type 0} (policy : ℕ) (checks : ℕ → List Task → List (Check Refusal)) (over : Refusal)
    (over_is : (n : ℕ) (records : List Task) → most_tasks < n → first_refusal (checks n records) ≡ Some over)
    (writes : List Task → List A) (says : List Task → X) (memory : List A) where
  abbrev pub call : ℕ → List Task → Call Refusal A X
  call n records = record { checks = checks n records; writes = writes records; says = says records }

  abbrev gathered : List Task → Call Refusal A X
  gathered list = call (gathered_of policy list).task_count (records_of (gathered_of policy list))

  abbrev Alike : Call Refusal A X → Call Refusal A X → Type 0
  Alike c d = (answered Room c memory ≡ answered Room d memory) × (left_after Room c memory ≡ left_after Room d memory)

  both_refuse : (c d : Call Refusal A X) (r : Refusal) → first_refusal c.checks ≡ Some r → first_refusal d.checks ≡ Some r → Alike c d
  both_refuse c d r e f =
      let a : TurnedAway Room c memory r = by_checks Room c memory r e in
      let b : TurnedAway Room d memory r = by_checks Room d memory r f in
      (a.answer ∙ sym b.answer, a.unchanged ∙ sym b.unchanged)

  pub as_gathered : (list : List Task) → Alike (gathered list) (call (length list) list)
  as_gathered list = go (dec_le (length list) most_tasks)
    where
      go : Dec (length list ≤ most_tasks) → Alike (gathered list) (call (length list) list)
      go (yes few) = (
        ap₂ (λ (n : ℕ) (records : List Task). answered Room (call n records) memory) (count_gathered policy list few) (records_gathered policy list few),
        ap₂ (λ (n : ℕ) (records : List Task). left_after Room (call n records) memory) (count_gathered policy list few) (records_gathered policy list few),
      )
      go (no many) = both_refuse (gathered list) (call (length list) list) over (over_is _ _ (count_over policy list (omega arith))) (over_is _ _ (omega arith))

-- the refusal of too long a list that is written
over_written : Bool → ℕ → Refusal
over_written true policy = over_long (known_policy policy)
over_written false policy = Version

too_long_written : (version policy n : ℕ) (records : List Task) → most_tasks < n
    → first_refusal (writing_checks version policy n records) ≡ Some (over_written (version_among version_1 version_2 version) policy)
unfolding writing_checks version_check over_written
too_long_written version policy n records h = go (version_among version_1 version_2 version) refl
  where
    go : (b : Bool) → version_among version_1 version_2 version ≡ b → first_refusal (writing_checks version policy n records) ≡ Some (over_written b policy)
    go true e = passed_over _ Version _ (ap not e) ∙ some_first (list_checks policy n records) _ _ (too_long policy n records h)
    go false e = applies _ Version _ (ap not e)

module _ (version policy : ℕ) (list : List Task) (room : List ℕ) where
  both_written : (written version (gathered_of policy list) room ≡ list_written version policy list room) × (left version (gathered_of policy list) room ≡ list_left version policy list room)
  unfolding written left writing sheet_bytes list_written list_left writing_list gathered_of
  both_written =
      as_gathered policy (writing_checks version policy) _ (too_long_written version policy)
      (λ records. sheet_of version policy (map task_in records)) (λ records. length (sheet_of version policy (map task_in records))) room list

  pub written_gathered : written version (gathered_of policy list) room ≡ list_written version policy list room
  written_gathered = both_written.0

  pub left_gathered : left version (gathered_of policy list) room ≡ list_left version policy list room
  left_gathered = both_written.1

module _ (policy : ℕ) (list : List Task) (room : List ℕ) where
  both_analysed : (set_decision (gathered_of policy list) room ≡ list_analysed policy list room) × (set_left (gathered_of policy list) room ≡ list_times policy list room)
  unfolding set_decision set_left set_analysing list_analysed list_times analysing_list analysing gathered_of
  both_analysed =
      as_gathered policy (list_checks policy) _ (too_long policy) (λ records. times_of policy (map task_in records)) (λ records. decision policy (map task_in records)) room list

  pub decision_gathered : set_decision (gathered_of policy list) room ≡ list_analysed policy list room
  decision_gathered = both_analysed.0

  pub times_gathered : set_left (gathered_of policy list) room ≡ list_times policy list room
  times_gathered = both_analysed.1

-- ---- a sheet read into a list

module _ (s : List ℕ) (list : List Task) where
  -- what the call with a list answers and leaves
  abbrev Tells : Result ListRead Refusal → List Task → Type 0
  Tells r left = (r ≡ list_read s list) × (left ≡ list_filled s list)

  -- a sheet that is turned away
  pub refused_list : (why : Refusal) → reading s ≡ Err why → Tells (Err why) list
  unfolding list_read list_filled reading_list
  refused_list why e = turned_tells Room (reading_list s) list (by_checks Room (reading_list s) list why (one_applies (sheet_checks s) why (reading_refuses s why e)))

  module _ (r : Reading) (e : reading s ≡ Ok r) where
    abbrev admitted : decided (sheet_checks s) ≡ Ok tt
    admitted = (reading_admits s r e).0

    set_is : r.set ≡ set_with (policy_of s) (tasks_of s)
    set_is = ap (λ (x : Reading). x.set) (reading_admits s r e).1

    few : length (tasks_of s) ≤ most_tasks
    few = (by_reading s admitted).few_tasks

    count_is : r.set.task_count ≡ length (tasks_of s)
    unfolding set_with
    count_is = ap (λ (x : TaskSet). x.task_count) set_is

    sixteen : length r.set.tasks ≡ most_tasks
    unfolding set_with
    sixteen = ap (λ (x : TaskSet). length x.tasks) set_is ∙ rw (length-append (map record_of (tasks_of s)), length-map (tasks_of s) record_of, length-replicate) (omega (arith, few))

    records : length (map record_of (tasks_of s)) ≡ r.set.task_count
    records = length-map (tasks_of s) record_of ∙ sym count_is

    -- a list that is too short
    pub short_list : length list < r.set.task_count → Tells (Err Room) list
    unfolding list_read list_filled reading_list
    short_list h = turned_tells Room (reading_list s) list (by_room Room (reading_list s) list (none_applies (sheet_checks s) admitted) (rw records h))

    -- a list that has room for all tasks
    pub read_into : r.set.task_count ≤ length list → Tells (Ok (record { version = r.version; policy = r.set.policy; task_count = r.set.task_count })) (scattered_of r.set list)
    unfolding list_read list_filled reading_list set_with
    read_into h =
        let d = done_tells Room (reading_list s) list (done Room (reading_list s) list (none_applies (sheet_checks s) admitted) (rw records h)) in
        let same = (reading_admits s r e).1 in (
          ap (λ (x : Reading). let it : ListRead = record { version = x.version; policy = x.set.policy; task_count = x.set.task_count } in let told : Result ListRead Refusal = Ok it in told) same ∙ d.0,
          scattered_all r.set list sixteen (omega (arith, count_is, few)) h
              ∙ ap (λ (x : TaskSet). laid (records_of x) list) set_is
              ∙ ap (λ (l : List Task). laid l list) (records_with (policy_of s) (tasks_of s))
              ∙ d.1,
        )
