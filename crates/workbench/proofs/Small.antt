-- The one number of an answer fits 64 bits: refusals name tasks, frames and lengths below 32, and what else is answered is small.
use Rattle.std.specs.Prelude.{None, Ok, Option, Result, Some}
use mathlib.Core.Bool.{Bool}
use mathlib.Core.List.{List, map}
use mathlib.Core.Logic.{inl, inr}
use mathlib.Core.Path.{◌≡◌, refl, sym, subst, ap, ◌∙◌}
use Prim.Native.Nat.{ℕ, ◌*◌, ◌≤◌, ◌<◌, ◌^◌, min, zero-le}
use native.Mathlib.Decide.{dec_lt}
use native.Mathlib.Nat.{le_of_lt, min-le_left, min-le_right}
use native.Mathlib.Omega.{arith}
use lib.Dec.{lit<}
use lib.ListN.{length, get_or, drop, replicate, length-map, length-take, length-replicate, get_or-eq_default}
use Rattle.bits.specs.Packed.{bits_of}
use Rattle.check_word.specs.Division.{body}
use Rattle.sheet.specs.Constants.{most_tasks, version_width, policy_width, task_count_width}
use Rattle.sheet.specs.Tasks.{task_in, records_of, blank_record}
use Rattle.sheet.specs.Refusals.{task_of_refusal, no_reason, reason_of_refusal}
use Rattle.records.specs.Rows.{unpacked}
use Rattle.sheet.specs.Layout.{header_in, behind_header}
use Rattle.lent.specs.Checks.{Check, first_refusal}
use Rattle.lent.specs.Lent.{Call, answered}
use Rattle.lent.proofs.Checks.{Each, each_first}
use Rattle.lent.proofs.Laid.{laid_to_length, laid_most}
use Rattle.lent.proofs.Lent.{Told, turned_away, is_done, told, each_refusal}
use Rattle.sheet.specs.Admission.{decided, list_checks, reason_of}
use Rattle.sheet.specs.Fields.{own_deadlines}
use Rattle.sheet.specs.Reading.{sheet_checks, version_of, policy_of, tasks_of}
use Rattle.sheet.specs.Writing.{writing_checks, writing, written}
use Rattle.sheet.specs.declared.Refusal.{Refusal}
use Rattle.sheet.specs.declared.Refusal.TheVariants.{Length, CheckWord, Version, Policy, BitSet, TaskCount, FrameCount, Records, IllFormed, Lock, Room, Deadlines}
use Rattle.sheet.proofs.Analysable.{admitted_sheet_is_admitted}
use Rattle.sheet.proofs.Checks.{admits}
use Rattle.sheet.proofs.Counts.{known_small}
use Rattle.sheet.proofs.Small.{number_small}
use Rattle.sheet.specs.declared.TaskSet.{TaskSet}
use Rattle.sheet.specs.declared.Task.{Task as Record}
use Rattle.theory.specs.Tasks.{Task, task_at, frame_count}
use Rattle.theory.specs.Analysis.{Verdict, holds, missed, verdict}
use Rattle.order.specs.Order.{priority_order, ordered_set}
use Rattle.order.proofs.Order.{order_permutes}
use Rattle.analysis.specs.Times.{number_at, blocker_number, verdict_number, outcome_of}
use Rattle.analysis.specs.Answers.{analysing, set_analysing, set_decision, sheet_analysing, sheet_decision}
use Rattle.analysis.proofs.Numbering.{number_in}
use Rattle.theory.proofs.Laws.{reason_within}
use Rattle.sheet.proofs.Refused.{Covers, list_each, sheet_each, writing_each}
use Rattle.sheet.proofs.RoundTrip.{version_small}
use Rattle.sheet.proofs.WhatIsWritten.{passed_checks}
use Rattle.sheet.proofs.Carried.{by_reading, passed_sheet}
use Rattle.records.proofs.Packing.{value_taken}
use Rattle.sheet.proofs.RecordBits.{length_tasks_in}
use Rattle.sheet.proofs.Sizes.{admitted_size}
use Rattle.lists.specs.Lists.{gathered_of}
use Rattle.converter.specs.Converting.{converting_checks, converting, converted}
use Rattle.converter.proofs.Outcomes.{converting_each, convertible, conversion_few}
use Rattle.lists.specs.Faces.{list_analysed, list_written, reading_list, list_read}
use Rattle.workbench.specs.Numbers.{byte, answer_number, refused_number, play_refused_number, read_detail, written_detail, verdict_detail, decision_detail, worst_detail, read_number, written_number, decision_number, played_number, worst_number}
use Rattle.report_text.specs.Text.{reporting, report_written}
use Rattle.report_text.proofs.Reported.{report_fits}
use Rattle.lists.proofs.Faces.{written_gathered, decision_gathered}
use Rattle.player.specs.Answers.{played, traced}
use Rattle.player.specs.declared.PlayRefusal.{PlayRefusal}
use Rattle.player.specs.declared.Played.{Played}
use Rattle.player.proofs.Within.{RefusalWithin, own_within, script_within, item_within, Within, missed_within, done_within, turned_within, played_within, traced_within}
use Rattle.analysis.specs.Misses.{miss_in}
use Rattle.analysis.specs.declared.MissedFrame.{MissedFrame}
use Rattle.worst.specs.Writing.{worst_bytes, worst_says, writing_by, worst_writing, worst_answer}
use Rattle.worst.proofs.Shown.{worst_bytes_few, most_bytes_are}

-- ---- what refusals name

-- the task, and the numbers of the reason
pub record NamesBelow (k : ℕ) (r : Refusal) : Type 0 where
  pub task : task_of_refusal r < k
  pub frame : (reason_of_refusal r).frame < k
  pub length : (reason_of_refusal r).length < k
  pub other : (reason_of_refusal r).other < k

pub names_more : {k m : ℕ} {r : Refusal} → k ≤ m → NamesBelow k r → NamesBelow m r
names_more l h = record { task = omega (arith, h.task); frame = omega (arith, h.frame); length = omega (arith, h.length); other = omega (arith, h.other) }

-- each refusal that a row of checks can give names numbers below k
abbrev pub Names : ℕ → List (Check Refusal) → Type 0
Names k = Each (NamesBelow k)

-- a refusal that gives no reason
names : (k : ℕ) (r : Refusal) → task_of_refusal r < k → reason_of_refusal r ≡ no_reason → NamesBelow k r
names k r h e = record { task = h; frame = rw e (omega arith); length = rw e (omega arith); other = rw e (omega arith) }

-- at most 32 tasks get such refusals
few_named : (tasks : List Task) → length tasks ≤ 32 → Covers (NamesBelow 32) tasks
unfolding reason_of frame_count
few_named tasks h =
    record {
      of_length = names 32 Length (lit< tt) refl;
      of_check_word = names 32 CheckWord (lit< tt) refl;
      of_version = names 32 Version (lit< tt) refl;
      of_policy = names 32 Policy (lit< tt) refl;
      of_bit_set = names 32 BitSet (lit< tt) refl;
      of_task_count = names 32 TaskCount (lit< tt) refl;
      of_records = names 32 Records (lit< tt) refl;
      of_frame_count = λ i l. names 32 (FrameCount i) (omega arith) refl;
      of_form = λ i l. names 32 (IllFormed i) (omega arith) refl;
      of_lock = λ i l. names 32 (Lock i) (omega arith) refl;
      of_monotony =
          λ i l few none_starts.
          let within = reason_within (task_at tasks i) in
          record { task = omega arith; frame = omega (arith, within.0); length = omega (arith, within.1); other = omega (arith, within.2) };
    }

-- the want of room
pub room_names : NamesBelow 32 Room
room_names = names 32 Room (lit< tt) refl

refusal_small : (r : Refusal) → NamesBelow 32 r → refused_number r < 2 ^ 64
refusal_small r h = omega (arith, number_small r, h.task, h.frame, h.length, h.other)

-- ---- the number of a call's answer

module _ {A X : Type 0} (call : Call Refusal A X) (room : List A) (detail : X → ℕ) (named : Names 32 call.checks) where
  -- it fits if what is said does: each refusal names numbers below 32
  pub answer_small : (first_refusal call.checks ≡ None → length call.writes ≤ length room → byte * detail call.says < 2 ^ 64) → answer_number detail refused_number (answered Room call room) < 2 ^ 64
  answer_small fits = go (told Room call room)
    where
      go : Told Room call room → answer_number detail refused_number (answered Room call room) < 2 ^ 64
      go (is_done d) = rw d.answer (fits d.admitted d.room)
      go (turned_away r t) = rw t.answer (refusal_small r (each_refusal Room call room (NamesBelow 32) named room_names r t.why))

-- ---- a list written

gathered_length : (policy : ℕ) (list : List Record) → length (gathered_of policy list).tasks ≡ most_tasks
unfolding gathered_of
gathered_length policy list =
    let blanks : List Record = replicate most_tasks blank_record in
    let e : length blanks ≡ most_tasks = length-replicate most_tasks blank_record in
    ap length (sym (laid_most list blanks most_tasks))
    ∙ laid_to_length list blanks (min (length list) most_tasks) (min-le_left (length list) most_tasks) (subst (λ (k : ℕ). min (length list) most_tasks ≤ k) (sym e) (min-le_right (length list) most_tasks))
    ∙ e

deadlines_named : NamesBelow 32 Deadlines
deadlines_named = names 32 Deadlines (lit< tt) refl

module _ (policy : ℕ) (list : List Record) (room : List ℕ) where
  abbrev set : TaskSet
  set = gathered_of policy list

  records_few : length (records_of set) ≤ 32
  unfolding records_of
  records_few = rw (length-take) (omega (arith, gathered_length policy list))

  covered : Covers (NamesBelow 32) (map task_in (records_of set))
  covered = few_named (map task_in (records_of set)) (omega (arith, records_few, length-map (records_of set) task_in))

  pub row_names : Names 32 (list_checks policy set.task_count (records_of set))
  row_names = list_each policy set.task_count (records_of set) covered

  pub writing_names : (version : ℕ) → Names 32 (writing_checks version policy set.task_count (records_of set))
  writing_names version = writing_each version policy set.task_count (records_of set) deadlines_named covered

pub written_small : (version policy : ℕ) (list : List Record) (room : List ℕ) → written_number (list_written version policy list room) < 2 ^ 64
unfolding written writing gathered_of
written_small version policy list room =
    rw (← written_gathered version policy list room)
    (answer_small (writing version (set policy list room)) room written_detail (writing_names policy list room version)
    (λ e _. let writable = passed_checks version (set policy list room) (admits _ e) in
    omega (arith, admitted_size version (set policy list room) (gathered_length policy list) writable.admitted)))

-- ---- tasks analysed

-- a number of the order is that of a task
number_few : (policy : ℕ) (tasks : List Task) (p : ℕ) → number_at (priority_order policy tasks) p ≤ length tasks
unfolding number_at
number_few policy tasks p = go (dec_lt p (length tasks))
  where
    go : Dec (p < length tasks) → get_or (priority_order policy tasks) p 0 ≤ length tasks
    go (yes h) = le_of_lt (number_in (length tasks) (priority_order policy tasks) (order_permutes policy tasks) p h)
    go (no h) =
        let long : length (priority_order policy tasks) ≤ p = omega (arith, (order_permutes policy tasks).same_length) in
        subst (λ (k : ℕ). k ≤ length tasks) (sym (get_or-eq_default (priority_order policy tasks) 0 long)) zero-le

found_small : (order : List ℕ) (v : Verdict) → ((p : ℕ) → number_at order p ≤ 32) → verdict_detail (verdict_number order v) ≤ 1000
unfolding verdict_number blocker_number
found_small order holds few = omega arith
found_small order (missed p None) few = let i = few p in omega arith
found_small order (missed p (Some b)) few = let i = few p in let j = few b in omega arith

module _ (checks : List (Check Refusal)) (policy : ℕ) (tasks : List Task) (room : List ℕ) (all_named : Names 32 checks) (few : length tasks ≤ 32) where
  decided_small : decision_number (answered Room (analysing checks policy tasks) room) < 2 ^ 64
  unfolding analysing outcome_of
  decided_small =
      answer_small (analysing checks policy tasks) room decision_detail all_named
      (λ _ _. omega (arith, few, found_small (priority_order policy tasks) (verdict (ordered_set policy tasks)) (λ p. omega (arith, number_few policy tasks p))))

pub list_small : (policy : ℕ) (list : List Record) (room : List ℕ) → decision_number (list_analysed policy list room) < 2 ^ 64
unfolding set_decision set_analysing gathered_of
list_small policy list room =
    let records : List Record = records_of (gathered_of policy list) in
    rw (← decision_gathered policy list room)
    (decided_small _ policy (map task_in records) room (row_names policy list room) (omega (arith, records_few policy list room, length-map records task_in)))

-- ---- a sheet read and analysed

module _ (s : List ℕ) where
  abbrev bits : List Bool
  bits = bits_of (body s)

  abbrev n : ℕ
  n = (header_in bits).task_count

  count_small : n < 32
  unfolding header_in unpacked
  count_small = value_taken task_count_width (drop policy_width (drop version_width bits))

  tasks_few : length (tasks_of s) ≤ 32
  unfolding tasks_of
  tasks_few = omega (arith, count_small, length_tasks_in (own_deadlines (version_of s)) n (behind_header bits))

  pub sheet_names : Names 32 (sheet_checks s)
  sheet_names = sheet_each s (few_named (tasks_of s) tasks_few)

  pub sheet_small : (room : List ℕ) → decision_number (sheet_decision s room) < 2 ^ 64
  unfolding sheet_decision sheet_analysing
  sheet_small room = decided_small (sheet_checks s) (policy_of s) (tasks_of s) room sheet_names tasks_few

  pub read_small : (list : List Record) → read_number (list_read s list) < 2 ^ 64
  unfolding list_read reading_list
  read_small list =
      answer_small (reading_list s) list read_detail sheet_names
      (λ e _. let admitted = admits (sheet_checks s) e in
      let c = by_reading s admitted in
      omega (arith, known_small (policy_of s) c.policy_known, c.few_tasks, version_small (version_of s) (passed_sheet s admitted).version_known))

-- ---- a sheet converted

pub converting_names : (version : ℕ) (s : List ℕ) → Names 32 (converting_checks version s)
converting_names version s = converting_each version s deadlines_named (few_named (tasks_of s) (tasks_few s))

pub converted_small : (version : ℕ) (s room : List ℕ) → written_number (converted version s room) < 2 ^ 64
unfolding converted converting
converted_small version s room =
    answer_small (converting version s) room written_detail (converting_names version s) (λ e _. omega (arith, conversion_few version s ((convertible version s).0 e)))

-- ---- a report

pub report_small : (s room : List ℕ) → written_number (report_written s room) < 2 ^ 64
unfolding report_written reporting
report_small s room = answer_small (reporting s) room written_detail tt (λ _ _. omega (arith, report_fits s))

-- ---- a play and its trace

module _ (sheet script : List ℕ) where
  why_small : (r : PlayRefusal) → RefusalWithin sheet script r → play_refused_number r < 2 ^ 64
  why_small _ (own_within why (inl e)) = refusal_small why (each_first (NamesBelow 32) (sheet_checks sheet) (sheet_names sheet) why e)
  why_small _ (own_within why (inr e)) = rw e (refusal_small Room room_names)
  why_small _ script_within = lit< tt
  why_small _ (item_within j h) = omega arith

  within_small : (p : Result Played PlayRefusal) → Within sheet script p → played_number p < 2 ^ 64
  within_small _ (missed_within t i h l) = omega arith
  within_small _ (done_within t h) = omega arith
  within_small _ (turned_within r h) = why_small r h

  pub play_small : played_number (played sheet script) < 2 ^ 64
  play_small = within_small _ (played_within sheet script)

  pub trace_small : (room : List ℕ) → played_number (traced sheet script room) < 2 ^ 64
  trace_small room = within_small _ (traced_within sheet script room)

-- ---- a worst run

module _ (s room : List ℕ) where
  says_small : decided (sheet_checks s) ≡ Ok tt → (m : Option MissedFrame) → miss_in (ordered_set (policy_of s) (tasks_of s)) ≡ m → byte * worst_detail (worst_says (policy_of s) (tasks_of s) m) < 2 ^ 64
  unfolding worst_says worst_bytes
  says_small a None e = lit< tt
  says_small a (Some m) e = omega (arith, most_bytes_are, worst_bytes_few (policy_of s) (tasks_of s) (by_reading s a) (admitted_sheet_is_admitted s a) m.place m.frame e)

  pub worst_small : worst_number (worst_answer s room) < 2 ^ 64
  unfolding worst_answer worst_writing writing_by
  worst_small = answer_small (worst_writing s) room worst_detail (sheet_names s) (λ e _. says_small (admits (sheet_checks s) e) _ refl)
