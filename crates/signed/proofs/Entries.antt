-- What each entry answers and leaves, from its definition: refused with the memory as it was, or done.
use Rattle.std.specs.Prelude.{Err, None, Ok, Result, Some}
use mathlib.Core.Bool.{Bool, true, false, cond, ◌||◌}
use mathlib.Core.List.{List, [], ◌∷◌, ◌++◌, map, append-nil}
use mathlib.Core.Logic.{◌↔◌}
use mathlib.Core.Path.{◌≡◌, refl, sym, ap, ◌∙◌}
use Prim.Native.Nat.{ℕ, ◌-◌, ◌*◌, ◌≤◌, ◌<◌}
use native.Mathlib.Decide.{dec_lt}
use native.Mathlib.Omega.{arith}
use lib.Dec.{ltb, lit≤}
use lib.ListN.{length, replicate, length-append, length-map, length-replicate}
use lib.Seq.{take_at}
use Rattle.theory.specs.Tasks.{Task}
use Rattle.theory.specs.Tasks.{Admitted as IsAdmitted}
use Rattle.lent.specs.Checks.{Check, ◌⇒◌, first_refusal}
use Rattle.lent.specs.Lent.{Call, laid, refusal_of, answered, left_after}
use Rattle.lent.proofs.Checks.{Each, each_first, no_check, none_first, some_first}
use Rattle.lent.proofs.Lent.{Told, turned_away, is_done, told, each_refusal, by_checks, by_room, done}
use Rattle.sheet.specs.Constants.{version_1, version_2, most_tasks, most_frames}
use Rattle.sheet.specs.Fields.{own_deadlines}
use Rattle.sheet.specs.Refusals.{number_of}
use Rattle.sheet.specs.Tasks.{task_in, record_of, records_of, blank_record}
use Rattle.sheet.specs.Admission.{decided, task_count_check, list_checks, admission}
use Rattle.sheet.specs.Reading.{version_among, sheet_checks, version_of, policy_of, tasks_of, reading}
use Rattle.sheet.specs.Writing.{sheet_of, one_deadline_each, writing_checks}
use Rattle.sheet.specs.declared.Task.{Task as Record}
use Rattle.sheet.specs.declared.TaskSet.{TaskSet}
use Rattle.sheet.specs.declared.Refusal.{Refusal}
use Rattle.sheet.specs.declared.Refusal.TheVariants.{Room}
use Rattle.sheet.proofs.Checks.{admits, refuses, none_applies, one_applies, passed}
use Rattle.sheet.proofs.Counts.{count_passed, known_small}
use Rattle.sheet.proofs.Carried.{Carried, by_admission, passed_sheet, by_reading}
use Rattle.sheet.proofs.RoundTrip.{version_small}
use Rattle.sheet.proofs.WhatIsWritten.{Writable, passed_checks}
use Rattle.sheet.proofs.Analysable.{admitted_set_is_admitted, admitted_sheet_is_admitted}
use Rattle.order.specs.Order.{priority_order, ordered_set}
use Rattle.analysis.specs.Times.{outcome_of, times_of}
use Rattle.analysis.specs.Answers.{code, outcome_by, decision, analysing, set_analysing, set_decision, set_left, sheet_analysing, sheet_decision, sheet_left}
use Rattle.analysis.specs.declared.Decision.{Decision}
use Rattle.analysis.proofs.Entries.{times_long}
use Rattle.lists.specs.Faces.{reading_list, list_read, list_filled, writing_list, list_written, list_left, analysing_list, list_analysed, list_times}
use Rattle.lists.specs.declared.ListRead.{ListRead}
use Rattle.converter.specs.Converting.{converting_checks, conversion, converting, converted, converted_left}
use Rattle.converter.proofs.Outcomes.{Convertible, convertible}
use Rattle.report_text.specs.Report.{first_line, task_lines, lines_behind, report}
use Rattle.report_text.specs.Text.{reporting, report_written, report_left}
use Rattle.workbench.specs.Entry.{checking, entry_number, entry_left}
use Rattle.workbench.proofs.Four.{length_four}
use Rattle.signed.specs.Claims.{Kept, in_numbers, in_bytes, outcome_told, refusal_to}
use Rattle.signed.proofs.Memory.{stored}
use Rattle.signed.proofs.Numbers.{Twelve, ReadInBits, sheet_twelve, list_twelve}
use Rattle.signed.proofs.Read.{same_refusal}

-- ---- the entries that analyse

-- tasks that were admitted
pub record Sound (policy : ℕ) (tasks : List Task) : Type 0 where
  pub carried : Carried policy tasks
  pub admitted : IsAdmitted tasks

-- A call about these tasks is refused and leaves the memory as it was, or it decides of the tasks and their times stand first.
pub data Analysed (policy : ℕ) (tasks : List Task) (kept : Kept) (before : List ℕ) : Result Decision Refusal → List ℕ → Type 0 where
  is_refused : (why : Refusal) → Twelve why → Analysed policy tasks kept before (Err why) before
  is_analysed : Sound policy tasks → length (stored kept (times_of policy tasks)) ≤ length before
      → Analysed policy tasks kept before (Ok (decision policy tasks)) (laid (stored kept (times_of policy tasks)) before)

module _ (checks : List (Check Refusal)) (policy : ℕ) (tasks : List Task) (before : List ℕ) (few : Each Twelve checks)
    (sound : first_refusal checks ≡ None → Sound policy tasks) where
  abbrev call : Call Refusal ℕ Decision
  call = analysing checks policy tasks

  analysed : Analysed policy tasks in_numbers before (answered Room call before) (left_after Room call before)
  unfolding analysing
  analysed = go (told Room call before)
    where
      go : Told Room call before → Analysed policy tasks in_numbers before (answered Room call before) (left_after Room call before)
      go (turned_away r t) = rw (t.answer, t.unchanged) (is_refused r (each_refusal Room call before Twelve few (lit≤ tt) r t.why))
      go (is_done d) = rw (d.answer, d.holds) (is_analysed (sound d.admitted) d.room)

sound_set : (s : TaskSet) → length s.tasks ≡ most_tasks → first_refusal (list_checks s.policy s.task_count (records_of s)) ≡ None
    → Sound s.policy (map task_in (records_of s))
unfolding admission
sound_set s sixteen e =
    let a : admission s ≡ Ok tt = admits (list_checks s.policy s.task_count (records_of s)) e in
    record { carried = by_admission s sixteen a; admitted = admitted_set_is_admitted s sixteen a }

sound_sheet : (s : List ℕ) → first_refusal (sheet_checks s) ≡ None → Sound (policy_of s) (tasks_of s)
sound_sheet s e =
    let a = admits (sheet_checks s) e in
    record { carried = by_reading s a; admitted = admitted_sheet_is_admitted s a }

-- `analyse_set`
pub set_entry : (s : TaskSet) (before : List ℕ) → length s.tasks ≡ most_tasks
    → Analysed s.policy (map task_in (records_of s)) in_numbers before (set_decision s before) (set_left s before)
unfolding set_decision set_left set_analysing
set_entry s before sixteen = analysed (list_checks s.policy s.task_count (records_of s)) s.policy (map task_in (records_of s)) before (list_twelve _ _ _) (sound_set s sixteen)

-- `analyse_sheet`
pub sheet_entry : (s before : List ℕ) → Analysed (policy_of s) (tasks_of s) in_numbers before (sheet_decision s before) (sheet_left s before)
unfolding sheet_decision sheet_left sheet_analysing
sheet_entry s before = analysed (sheet_checks s) (policy_of s) (tasks_of s) before (sheet_twelve s) (sound_sheet s)

-- `burrbeech_check_sheet`: the number of an outcome
pub check_entry : (s before : List ℕ)
    → (answer : Result Decision Refusal) × (entry_number s before ≡ code (outcome_told answer)) × Analysed (policy_of s) (tasks_of s) in_bytes before answer (entry_left s before)
unfolding entry_number entry_left checking outcome_told
check_entry s before = go (told Room (checking s) before)
  where
    go : Told Room (checking s) before
        → (answer : Result Decision Refusal) × (entry_number s before ≡ code (outcome_told answer)) × Analysed (policy_of s) (tasks_of s) in_bytes before answer (entry_left s before)
    go (turned_away r t) = (Err r, ap code t.answer, rw t.unchanged (is_refused r (each_refusal Room (checking s) before Twelve (sheet_twelve s) (lit≤ tt) r t.why)))
    go (is_done d) = (Ok (decision (policy_of s) (tasks_of s)), ap code d.answer, rw d.holds (is_analysed (sound_sheet s d.admitted) d.room))

-- ---- lists

-- a list of at most sixteen records as a set by value
module _ (policy : ℕ) (list : List Record) where
  abbrev as_set : TaskSet
  as_set = record { policy = policy; task_count = length list; tasks = list ++ replicate (most_tasks - length list) blank_record }

  all_in_use : records_of as_set ≡ list
  unfolding records_of
  all_in_use = take_at list _ (length list) refl

  few_listed : decided (list_checks policy (length list) list) ≡ Ok tt → length list ≤ most_tasks
  unfolding list_checks task_count_check
  few_listed e = (count_passed (length list) most_tasks (passed _ _ (passed _ _ e).1).0).1

  sound_list : first_refusal (list_checks policy (length list) list) ≡ None → Sound policy (map task_in list)
  sound_list e =
      let few = few_listed (admits (list_checks policy (length list) list) e) in
      let sixteen : length as_set.tasks ≡ most_tasks = simp (length-append, length-replicate) (omega arith) in
      let same : first_refusal (list_checks policy (length list) (records_of as_set)) ≡ None = ap (λ (rs : List Record). first_refusal (list_checks policy (length list) rs)) all_in_use ∙ e in
      rw all_in_use at (sound_set as_set sixteen same)

-- `analyse_list`
pub list_entry : (policy : ℕ) (list : List Record) (before : List ℕ)
    → Analysed policy (map task_in list) in_numbers before (list_analysed policy list before) (list_times policy list before)
unfolding list_analysed list_times analysing_list
list_entry policy list before = analysed (list_checks policy (length list) list) policy (map task_in list) before (list_twelve _ _ _) (sound_list policy list)

-- `read_list` is refused and leaves the list as it was, or a record for each task of the sheet stands first.
pub data Read (sheet : List ℕ) (before : List Record) : Result ListRead Refusal → List Record → Type 0 where
  no_read : (why : Refusal) → Read sheet before (Err why) before
  is_read : decided (sheet_checks sheet) ≡ Ok tt → length (tasks_of sheet) ≤ length before
      → Read sheet before (Ok (record { version = version_of sheet; policy = policy_of sheet; task_count = length (tasks_of sheet) })) (laid (map record_of (tasks_of sheet)) before)

module _ (sheet : List ℕ) (before : List Record) where
  pub read_entry : Read sheet before (list_read sheet before) (list_filled sheet before)
  unfolding list_read list_filled reading_list
  read_entry = go (told Room (reading_list sheet) before)
    where
      go : Told Room (reading_list sheet) before → Read sheet before (list_read sheet before) (list_filled sheet before)
      go (turned_away r t) = rw (t.answer, t.unchanged) (no_read r)
      go (is_done d) =
          rw (d.answer, d.holds)
          (is_read (admits (sheet_checks sheet) d.admitted) (omega (arith, d.room, length-map (tasks_of sheet) record_of)))

  -- an admitted sheet with room is read
  pub reads : decided (sheet_checks sheet) ≡ Ok tt → length (tasks_of sheet) ≤ length before
      → (list_read sheet before ≡ Ok (record { version = version_of sheet; policy = policy_of sheet; task_count = length (tasks_of sheet) })) × (list_filled sheet before ≡ laid (map record_of (tasks_of sheet)) before)
  unfolding list_read list_filled reading_list
  reads a h =
      let d = done Room (reading_list sheet) before (none_applies (sheet_checks sheet) a) (omega (arith, h, length-map (tasks_of sheet) record_of)) in
      (d.answer, d.holds)

-- the version and the policy that were read are of the known, and the tasks are few
pub known_read : (sheet : List ℕ) (before : List Record) (x : Result ListRead Refusal) (after : List Record) → Read sheet before x after → (r : ListRead) → x ≡ Ok r → ReadInBits r
known_read sheet before x after (no_read why) r e = cc
known_read sheet before x after (is_read a fits) r e =
    let same : record { version = version_of sheet; policy = policy_of sheet; task_count = length (tasks_of sheet) } ≡ r = cc in
    let c = by_reading sheet a in
    rw (← same)
    (record {
      version = omega (arith, version_small (version_of sheet) (passed_sheet sheet a).version_known);
      policy = omega (arith, known_small (policy_of sheet) c.policy_known);
      task_count = omega (arith, c.few_tasks);
    })

-- admitted tasks in a version that is known and can hold them
pub record Held (version policy : ℕ) (tasks : List Task) : Type 0 where
  pub known : version_among version_1 version_2 version ≡ true
  pub sound : Sound policy tasks
  pub held : (own_deadlines version || one_deadline_each tasks) ≡ true

-- `write_list` is refused and leaves the bytes as they were, or the list's sheet stands first.
pub data Wrote (version policy : ℕ) (list : List Record) (before : List ℕ) : Result ℕ Refusal → List ℕ → Type 0 where
  no_write : (why : Refusal) → Wrote version policy list before (Err why) before
  is_written : Held version policy (map task_in list) → length (sheet_of version policy (map task_in list)) ≤ length before
      → Wrote version policy list before (Ok (length (sheet_of version policy (map task_in list)))) (laid (sheet_of version policy (map task_in list)) before)

module _ (version policy : ℕ) (list : List Record) (before : List ℕ) where
  held_list : first_refusal (writing_checks version policy (length list) list) ≡ None → Held version policy (map task_in list)
  unfolding admission
  held_list e =
      let same : records_of (as_set policy list) ≡ list = all_in_use policy list in
      let passes : Writable version (as_set policy list) =
      passed_checks version (as_set policy list)
      (rw same (admits (writing_checks version policy (length list) list) e)) in
      record {
        known = passes.known;
        sound = sound_list policy list (none_applies (list_checks policy (length list) list) (rw same at passes.admitted));
        held = rw same at passes.held;
      }

  pub write_entry : Wrote version policy list before (list_written version policy list before) (list_left version policy list before)
  unfolding list_written list_left writing_list
  write_entry = go (told Room (writing_list version policy list) before)
    where
      go : Told Room (writing_list version policy list) before → Wrote version policy list before (list_written version policy list before) (list_left version policy list before)
      go (turned_away r t) = rw (t.answer, t.unchanged) (no_write r)
      go (is_done d) = rw (d.answer, d.holds) (is_written (held_list d.admitted) d.room)

  -- a list that can be written is, where there is room
  pub writes : decided (writing_checks version policy (length list) list) ≡ Ok tt → length (sheet_of version policy (map task_in list)) ≤ length before
      → (list_written version policy list before ≡ Ok (length (sheet_of version policy (map task_in list)))) × (list_left version policy list before ≡ laid (sheet_of version policy (map task_in list)) before)
  unfolding list_written list_left writing_list
  writes a h =
      let d = done Room (writing_list version policy list) before (none_applies (writing_checks version policy (length list) list) a) h in
      (d.answer, d.holds)

-- ---- converting

-- `convert` is refused and leaves the bytes as they were, or the conversion stands first.
pub data Converted (version : ℕ) (sheet before : List ℕ) : Result ℕ Refusal → List ℕ → Type 0 where
  no_conversion : (why : Refusal) → Converted version sheet before (Err why) before
  is_converted : Convertible version sheet → length (conversion version sheet) ≤ length before
      → Converted version sheet before (Ok (length (conversion version sheet))) (laid (conversion version sheet) before)

module _ (version : ℕ) (sheet before : List ℕ) where
  pub convert_entry : Converted version sheet before (converted version sheet before) (converted_left version sheet before)
  unfolding converted converted_left converting
  convert_entry = go (told Room (converting version sheet) before)
    where
      go : Told Room (converting version sheet) before → Converted version sheet before (converted version sheet before) (converted_left version sheet before)
      go (turned_away r t) = rw (t.answer, t.unchanged) (no_conversion r)
      go (is_done d) = rw (d.answer, d.holds) (is_converted ((convertible version sheet).0 d.admitted) d.room)

  -- a sheet that can be converted is, where there is room
  pub converts : Convertible version sheet → length (conversion version sheet) ≤ length before
      → (converted version sheet before ≡ Ok (length (conversion version sheet))) × (converted_left version sheet before ≡ laid (conversion version sheet) before)
  unfolding converted converted_left converting
  converts c h =
      let d = done Room (converting version sheet) before ((convertible version sheet).1 c) h in
      (d.answer, d.holds)

-- ---- the report

-- A report on these tasks is one line that refuses, or the outcome's line and a line for each task.
pub data Reported (policy : ℕ) (tasks : List Task) : List ℕ → Type 0 where
  no_report : (why : Refusal) → Twelve why → Reported policy tasks (first_line (Err why) (length tasks))
  is_reported : Sound policy tasks
      → Reported policy tasks
      (first_line (Ok (outcome_of policy tasks)) (length tasks) ++ task_lines (priority_order policy tasks) (ordered_set policy tasks) 0 (length tasks))

-- of an admitted sheet the outcome is reported
pub reports : (s : List ℕ) → decided (sheet_checks s) ≡ Ok tt
    → Sound (policy_of s) (tasks_of s)
    × (report s
    ≡ first_line (Ok (outcome_of (policy_of s) (tasks_of s))) (length (tasks_of s))
    ++ task_lines (priority_order (policy_of s) (tasks_of s)) (ordered_set (policy_of s) (tasks_of s)) 0 (length (tasks_of s)))
unfolding report outcome_by lines_behind
reports s e = (sound_sheet s (none_applies (sheet_checks s) e), rw e)

-- `report_text`
pub report_entry : (s : List ℕ) → Reported (policy_of s) (tasks_of s) (report s)
unfolding report
report_entry s = go (decided (sheet_checks s)) refl
  where
    go : (a : Result Unit Refusal) → decided (sheet_checks s) ≡ a
        → Reported (policy_of s) (tasks_of s) (first_line (outcome_by a (policy_of s) (tasks_of s)) (length (tasks_of s)) ++ lines_behind (outcome_by a (policy_of s) (tasks_of s)) (policy_of s) (tasks_of s))
    go (Ok tt) e = unfold outcome_by lines_behind in is_reported (sound_sheet s (none_applies (sheet_checks s) e))
    go (Err why) e =
        unfold outcome_by lines_behind in
        rw (append-nil (first_line (Err why) (length (tasks_of s)))) (no_report why (each_first Twelve (sheet_checks s) (sheet_twelve s) why (one_applies (sheet_checks s) why e)))

-- `write_report` is refused for want of room and leaves the bytes as they were, or the text stands first.
pub data Printed (sheet before : List ℕ) : Result ℕ Refusal → List ℕ → Type 0 where
  no_room : Printed sheet before (Err Room) before
  is_printed : length (report sheet) ≤ length before → Printed sheet before (Ok (length (report sheet))) (laid (report sheet) before)

pub print_entry : (sheet before : List ℕ) → Printed sheet before (report_written sheet before) (report_left sheet before)
unfolding report_written report_left reporting
print_entry sheet before = go (dec_lt (length before) (length (report sheet)))
  where
    go : Dec (length before < length (report sheet)) → Printed sheet before (report_written sheet before) (report_left sheet before)
    go (yes h) = let t = by_room Room (reporting sheet) before no_check h in rw (t.answer, t.unchanged) no_room
    go (no h) = let d = done Room (reporting sheet) before no_check (omega arith) in rw (d.answer, d.holds) (is_printed (omega arith))

-- ---- a sheet that its own checks turn away

module _ (sheet : List ℕ) (r : Refusal) (e : first_refusal (sheet_checks sheet) ≡ Some r) where
  pub sheet_turned : (before : List ℕ) → (sheet_decision sheet before ≡ Err r) × (sheet_left sheet before ≡ before)
  unfolding sheet_decision sheet_left sheet_analysing analysing
  sheet_turned before = let t = by_checks Room (sheet_analysing sheet) before r e in (t.answer, t.unchanged)

  pub check_turned : (before : List ℕ) → (entry_number sheet before ≡ number_of r) × (entry_left sheet before ≡ before)
  unfolding entry_number entry_left checking
  check_turned before = let t = by_checks Room (checking sheet) before r e in (ap code t.answer, t.unchanged)

  pub report_turned : report sheet ≡ first_line (Err r) (length (tasks_of sheet))
  unfolding report outcome_by lines_behind
  report_turned = rw (refuses (sheet_checks sheet) r e) (append-nil (first_line (Err r) (length (tasks_of sheet))))

  pub read_turned : (before : List Record) → (list_read sheet before ≡ Err r) × (list_filled sheet before ≡ before)
  unfolding list_read list_filled reading_list
  read_turned before = let t = by_checks Room (reading_list sheet) before r e in (t.answer, t.unchanged)

-- ---- which refusal

module _ {A X : Type 0} (call : Call Refusal A X) (before : List A) (needs : ℕ) (size : decided call.checks ≡ Ok tt → length call.writes ≡ needs) where
  which : refusal_of Room call before ≡ refusal_to (decided call.checks) needs (length before)
  unfolding refusal_of
  which = go (decided call.checks) refl
    where
      last : (b : Bool) → first_refusal ((b ⇒ Room) ∷ []) ≡ cond b (Some Room) None
      last true = unfold first_refusal in refl
      last false = unfold first_refusal in refl

      go : (a : Result Unit Refusal) → decided call.checks ≡ a → refusal_of Room call before ≡ refusal_to a needs (length before)
      go (Err why) e = unfold refusal_to in some_first call.checks _ why (one_applies call.checks why e)
      go (Ok tt) e =
          unfold refusal_to in
          none_first call.checks _ (none_applies call.checks e)
          ∙ last (ltb (length before) (length call.writes))
          ∙ ap (λ (n : ℕ). cond (ltb (length before) n) (Some Room) None) (size e)

  refused_says : (why : Refusal) → refusal_of Room call before ≡ Some why → answered Room call before ≡ Err why
  unfolding answered
  refused_says why e = rw (e, answered)

  why_said : (why : Refusal) → answered Room call before ≡ Err why → refusal_of Room call before ≡ Some why
  why_said why e = go (told Room call before)
    where
      go : Told Room call before → refusal_of Room call before ≡ Some why
      go (turned_away q t) = let same : Err q ≡ Err why = sym t.answer ∙ e in let same : q ≡ why = cc in t.why ∙ ap Some same
      go (is_done d) = let clash : Ok call.says ≡ Err why = sym d.answer ∙ e in cc

  exactly : (why : Refusal) → (answered Room call before ≡ Err why) ↔ (refusal_to (decided call.checks) needs (length before) ≡ Some why)
  exactly why = (λ e. sym which ∙ why_said why e, λ e. refused_says why (which ∙ e))

sound_times : (policy : ℕ) (tasks : List Task) → Sound policy tasks → length (times_of policy tasks) ≡ most_frames * length tasks
sound_times policy tasks sound = times_long policy tasks sound.carried.counted

pub set_exactly : (s : TaskSet) (before : List ℕ) → length s.tasks ≡ most_tasks → (why : Refusal)
    → (set_decision s before ≡ Err why) ↔ (refusal_to (admission s) (most_frames * length (map task_in (records_of s))) (length before) ≡ Some why)
unfolding set_decision set_analysing analysing admission
set_exactly s before sixteen =
    exactly (set_analysing s) before (most_frames * length (map task_in (records_of s)))
    (λ e. sound_times _ _ (sound_set s sixteen (none_applies (list_checks s.policy s.task_count (records_of s)) e)))

pub list_exactly : (policy : ℕ) (list : List Record) (before : List ℕ) (why : Refusal)
    → (list_analysed policy list before ≡ Err why) ↔ (refusal_to (decided (list_checks policy (length list) list)) (most_frames * length (map task_in list)) (length before) ≡ Some why)
unfolding list_analysed analysing_list analysing
list_exactly policy list before =
    exactly (analysing_list policy list) before (most_frames * length (map task_in list))
    (λ e. sound_times _ _ (sound_list policy list (none_applies (list_checks policy (length list) list) e)))

pub write_exactly : (version policy : ℕ) (list : List Record) (before : List ℕ) (why : Refusal)
    → (list_written version policy list before ≡ Err why)
    ↔ (refusal_to (decided (writing_checks version policy (length list) list)) (length (sheet_of version policy (map task_in list))) (length before) ≡ Some why)
unfolding list_written writing_list
write_exactly version policy list before = exactly (writing_list version policy list) before (length (sheet_of version policy (map task_in list))) (λ e. refl)

-- it answers a refusal exactly where its order gives it
pub convert_said : (version : ℕ) (sheet before : List ℕ) (why : Refusal)
    → (converted version sheet before ≡ Err why) ↔ (refusal_of Room (converting version sheet) before ≡ Some why)
unfolding converted converting
convert_said version sheet before why =
    let size = length (conversion version sheet) in
    (why_said (converting version sheet) before size (λ q. refl) why, refused_says (converting version sheet) before size (λ q. refl) why)

pub convert_exactly : (version : ℕ) (sheet before : List ℕ) (why : Refusal)
    → (converted version sheet before ≡ Err why)
    ↔ (refusal_to (decided (converting_checks version sheet)) (length (conversion version sheet)) (length before) ≡ Some why)
unfolding converted converting
convert_exactly version sheet before = exactly (converting version sheet) before (length (conversion version sheet)) (λ e. refl)

module _ (sheet : List ℕ) where
  sheet_long : decided (sheet_checks sheet) ≡ Ok tt → length (times_of (policy_of sheet) (tasks_of sheet)) ≡ most_frames * length (tasks_of sheet)
  sheet_long e = sound_times _ _ (sound_sheet sheet (none_applies (sheet_checks sheet) e))

  pub sheet_exactly : (before : List ℕ) (why : Refusal)
      → (sheet_decision sheet before ≡ Err why) ↔ (refusal_to (reading sheet) (most_frames * length (tasks_of sheet)) (length before) ≡ Some why)
  unfolding sheet_decision sheet_analysing analysing
  sheet_exactly before why =
      rw (same_refusal sheet (most_frames * length (tasks_of sheet)) (length before))
      (exactly (sheet_analysing sheet) before (most_frames * length (tasks_of sheet)) sheet_long why)

  pub read_exactly : (before : List Record) (why : Refusal)
      → (list_read sheet before ≡ Err why) ↔ (refusal_to (reading sheet) (length (tasks_of sheet)) (length before) ≡ Some why)
  unfolding list_read reading_list
  read_exactly before why =
      rw (same_refusal sheet (length (tasks_of sheet)) (length before))
      (exactly (reading_list sheet) before (length (tasks_of sheet)) (λ e. length-map (tasks_of sheet) record_of) why)

  -- the number of a refusal, and an outcome where there is none
  pub check_exactly : (before : List ℕ)
      → ((why : Refusal) → refusal_to (reading sheet) (4 * (most_frames * length (tasks_of sheet))) (length before) ≡ Some why → entry_number sheet before ≡ number_of why)
      × (refusal_to (reading sheet) (4 * (most_frames * length (tasks_of sheet))) (length before) ≡ None → entry_number sheet before ≡ code (Ok (outcome_of (policy_of sheet) (tasks_of sheet))))
  unfolding entry_number checking answered
  check_exactly before =
      let needs = 4 * (most_frames * length (tasks_of sheet)) in
      let size = λ (e : decided (sheet_checks sheet) ≡ Ok tt). length_four _ ∙ ap (λ (n : ℕ). 4 * n) (sheet_long e) in
      let is = which (checking sheet) before needs size ∙ sym (same_refusal sheet needs (length before)) in (
        λ why e. ap code (refused_says (checking sheet) before needs size why (is ∙ e)),
        λ e. rw (is ∙ e, answered),
      )

pub print_exactly : (sheet before : List ℕ) (why : Refusal)
    → (report_written sheet before ≡ Err why) ↔ (refusal_to {T = Unit {0}} (Ok tt) (length (report sheet)) (length before) ≡ Some why)
unfolding report_written reporting decided first_refusal
print_exactly sheet before = exactly (reporting sheet) before (length (report sheet)) (λ e. refl)

-- ---- a refused call changes nothing

module _ {A X : Type 0} (call : Call Refusal A X) (before : List A) where
  unchanged : (r : Refusal) → answered Room call before ≡ Err r → left_after Room call before ≡ before
  unchanged r e = go (told Room call before)
    where
      go : Told Room call before → left_after Room call before ≡ before
      go (turned_away q t) = t.unchanged
      go (is_done d) = let clash : Ok call.says ≡ Err r = sym d.answer ∙ e in cc

module _ (r : Refusal) where
  pub set_unchanged : (s : TaskSet) (before : List ℕ) → set_decision s before ≡ Err r → set_left s before ≡ before
  unfolding set_decision set_left
  set_unchanged s before = unchanged (set_analysing s) before r

  pub sheet_unchanged : (s before : List ℕ) → sheet_decision s before ≡ Err r → sheet_left s before ≡ before
  unfolding sheet_decision sheet_left
  sheet_unchanged s before = unchanged (sheet_analysing s) before r

  pub list_unchanged : (policy : ℕ) (list : List Record) (before : List ℕ) → list_analysed policy list before ≡ Err r → list_times policy list before ≡ before
  unfolding list_analysed list_times
  list_unchanged policy list before = unchanged (analysing_list policy list) before r

  pub read_unchanged : (sheet : List ℕ) (before : List Record) → list_read sheet before ≡ Err r → list_filled sheet before ≡ before
  unfolding list_read list_filled
  read_unchanged sheet before = unchanged (reading_list sheet) before r

  pub write_unchanged : (version policy : ℕ) (list : List Record) (before : List ℕ) → list_written version policy list before ≡ Err r → list_left version policy list before ≡ before
  unfolding list_written list_left
  write_unchanged version policy list before = unchanged (writing_list version policy list) before r

  pub convert_unchanged : (version : ℕ) (sheet before : List ℕ) → converted version sheet before ≡ Err r → converted_left version sheet before ≡ before
  unfolding converted converted_left
  convert_unchanged version sheet before = unchanged (converting version sheet) before r

  pub print_unchanged : (sheet before : List ℕ) → report_written sheet before ≡ Err r → report_left sheet before ≡ before
  unfolding report_written report_left
  print_unchanged sheet before = unchanged (reporting sheet) before r
