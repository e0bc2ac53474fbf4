-- What we sign for, at the entries: the three demands, of each public entry. Every theorem is about any call that keeps its contract
-- (specs/Calls.antt): its answer, and its lent memory before and after. What is claimed stands in specs/Claims.antt and specs/Numbers.antt.
use Rattle.std.specs.Prelude.{Err, None, Ok, Result, Some, IsOk}
use mathlib.Core.List.{List, [], ◌∷◌, map}
use mathlib.Core.Logic.{◌↔◌}
use mathlib.Core.Path.{◌≡◌, refl, sym, ap, ap₂, ◌∙◌, subst₂}
use Prim.Native.Nat.{ℕ, ◌+◌, ◌*◌, ◌≤◌, ◌<◌}
use native.Mathlib.Omega.{arith}
use lib.Dec.{lit≤}
use borrow.Author.Tests.{ne_eqb}
use lib.ListN.{length, take, drop}
use lib.Seq.{drop_at}
use Rattle.bits.specs.Packed.{Bytes as IsBytes}
use Rattle.check_word.specs.Change.{with_bit_inverted}
use Rattle.theory.specs.Tasks.{Task, task_at, frame_count}
use Rattle.theory.proofs.Laws.{one_reason}
use Rattle.lent.specs.Lent.{laid}
use Rattle.lent.proofs.Laid.{take_laid}
use Rattle.sheet.specs.Constants.{most_tasks, most_frames}
use Rattle.sheet.specs.Refusals.{number_of}
use Rattle.sheet.specs.Tasks.{task_in, record_of, records_of}
use Rattle.sheet.specs.Admission.{decided, list_checks, admission}
use Rattle.sheet.specs.Reading.{sheet_checks, version_of, policy_of, tasks_of, reading}
use Rattle.sheet.specs.Writing.{sheet_of, writing_checks}
use Rattle.sheet.specs.declared.Task.{Task as Record}
use Rattle.sheet.specs.declared.TaskSet.{TaskSet}
use Rattle.sheet.specs.declared.Refusal.{Refusal}
use Rattle.sheet.specs.declared.Refusal.TheVariants.{CheckWord, NotMonotonic}
use Rattle.sheet.specs.declared.Reason.{Reason}
use Rattle.sheet.proofs.Checks.{one_applies}
use Rattle.sheet.proofs.Carried.{reading_refuses}
use Rattle.order.specs.Order.{priority_order, ordered_set}
use Rattle.order.proofs.Order.{order_permutes}
use Rattle.order.proofs.Laws.{ordered_length}
use Rattle.analysis.specs.Times.{number_at, outcome_of}
use Rattle.analysis.specs.Runs.{place}
use Rattle.analysis.specs.declared.Decision.{Decision}
use Rattle.analysis.proofs.Numbering.{number_in, number_back, place_back}
use Rattle.analysis.proofs.Promises.{place_below, task_of_number}
use Rattle.lists.specs.Faces.{list_read, list_filled, list_written, list_left}
use Rattle.lists.specs.declared.ListRead.{ListRead}
use Rattle.converter.specs.Converting.{converting_checks, conversion, converted}
use Rattle.report_text.specs.Words.{refused_word, decimal, line}
use Rattle.report_text.specs.Report.{first_line, report}
use Rattle.report_text.specs.Text.{report_written}
use Rattle.report_text.specs.declared.Text.{Text}
use Rattle.signed.specs.Calls.{Keeps, ReportText, WriteReport, AnalyseSet, AnalyseSheet, AnalyseList, ReadList, WriteList, Convert, CheckSheetC, AnalyseSheetC, AnalyseListC, ReadListC, WriteListC, ConvertC, ReportC}
use Rattle.signed.specs.Claims.{said, outcome_told, count_told, count_said, holds, missed, refused, in_numbers, in_bytes, WorstTime, Signed, refusal_to, NoStart, Explained, Damaged}
use Rattle.signed.specs.Numbers.{blocker_by, said_by, IsNumber, list_read_by, written_by, decision_by}
use Rattle.signed.specs.Reports.{words_in, said_in, text_in, ReportSigned, ReportLeft}
use Rattle.signed.proofs.Report.{text_back, not_refusing, refusing, report_promised, printed_signed, printed_text}
use Rattle.signed.proofs.Read.{decided_ok}
use Rattle.signed.proofs.Numbers.{miss_said, refusal_said, said_back, written_back, read_back, decision_back}
use Rattle.signed.proofs.Entries as entries
use Rattle.signed.proofs.Named.{sheet_named, list_named, read_named, write_named, convert_named, report_named}
use Rattle.signed.proofs.NoStart.{list_why, writing_why, converting_why, sheet_why, of_input, refused_whole}
use Rattle.signed.proofs.Promised.{promised, few_of, in_bits, counted, number_given, number_refused, outcome_number}
use Rattle.signed.proofs.RoundTrip as trip
use Rattle.signed.proofs.Damage as damage

-- ---- Task i

-- Task i of the set stands at one place of the priority order, and that place carries its number and the task itself.
pub task_stands : (policy : ℕ) (tasks : List Task) (i : ℕ) → i < length tasks
    → (place policy tasks i < length tasks)
    × (number_at (priority_order policy tasks) (place policy tasks i) ≡ i)
    × (task_at (ordered_set policy tasks) (place policy tasks i) ≡ task_at tasks i)
unfolding place
task_stands policy tasks i h = (
  rw (ordered_length policy tasks) at (place_below policy tasks i h),
  number_back (length tasks) (priority_order policy tasks) (order_permutes policy tasks) i h,
  task_of_number policy tasks i h,
)

-- Each place of the order carries the number of one task, which stands at that place.
pub place_stands : (policy : ℕ) (tasks : List Task) (p : ℕ) → p < length tasks
    → (number_at (priority_order policy tasks) p < length tasks)
    × (place policy tasks (number_at (priority_order policy tasks) p) ≡ p)
unfolding place
place_stands policy tasks p h = (
  number_in (length tasks) (priority_order policy tasks) (order_permutes policy tasks) p h,
  place_back (length tasks) (priority_order policy tasks) (order_permutes policy tasks) p h,
)

-- ---- What a number for C says: one thing

-- From the number of `burrbeech_check_sheet` alone: 0 says holds, 1 to 12 that refusal, 100 + 17p + b that task p misses with blocker b, 16 for none.
pub number_says :
    (said_by 0 ≡ holds)
    × ((c : ℕ) → 1 ≤ c → c ≤ 12 → said_by c ≡ refused c)
    × ((p b : ℕ) → b < 16 → said_by (100 + 17 * p + b) ≡ missed p (Some b))
    × ((p : ℕ) → said_by (100 + 17 * p + 16) ≡ missed p None)
unfolding said_by blocker_by
number_says = (refl, λ c l h. refusal_said c l (omega arith), λ p b h. miss_said p b (omega arith) ∙ rw (ne_eqb b 16 (omega arith)), λ p. miss_said p 16 (lit≤ tt))

-- And it is one of these, with a task and a blocker of the set.
pub check_sheet_c_number : (sheet before after : List ℕ) (number : ℕ)
    → CheckSheetC sheet before number after
    → IsNumber (length (tasks_of sheet)) number
check_sheet_c_number sheet before after number c =
    let (answer, same, a) = entries.check_entry sheet before in
    rw (c.answers ∙ same) (number_given (policy_of sheet) (tasks_of sheet) in_bytes before _ (outcome_told answer) (promised a))

-- Every other entry for C is one for Rattle, with the answer that its number says.
pub analyse_sheet_c_says : (sheet before after : List ℕ) (number : ℕ)
    → AnalyseSheetC sheet before number after
    → AnalyseSheet sheet before (decision_by number) after
analyse_sheet_c_says sheet before after number c =
    record { answers = ap decision_by c.answers ∙ decision_back _ (in_bits (entries.sheet_entry sheet before)) (sheet_named sheet before); leaves = c.leaves }

pub analyse_list_c_says : (policy : ℕ) (list : List Record) (before after : List ℕ) (number : ℕ)
    → AnalyseListC policy list before number after
    → AnalyseList policy list before (decision_by number) after
analyse_list_c_says policy list before after number c =
    record {
      answers = ap decision_by c.answers ∙ decision_back _ (in_bits (entries.list_entry policy list before)) (list_named policy list before);
      leaves = c.leaves;
    }

pub read_list_c_says : (sheet : List ℕ) (before after : List Record) (number : ℕ)
    → ReadListC sheet before number after
    → ReadList sheet before (list_read_by number) after
read_list_c_says sheet before after number c =
    record { answers = ap list_read_by c.answers ∙ read_back (list_read sheet before) (entries.known_read sheet before _ _ (entries.read_entry sheet before)) (read_named sheet before); leaves = c.leaves }

pub write_list_c_says : (version policy : ℕ) (list : List Record) (before after : List ℕ) (number : ℕ)
    → WriteListC version policy list before number after
    → WriteList version policy list before (written_by number) after
write_list_c_says version policy list before after number c =
    record { answers = ap written_by c.answers ∙ written_back (list_written version policy list before) (write_named version policy list before); leaves = c.leaves }

pub convert_c_says : (version : ℕ) (sheet before after : List ℕ) (number : ℕ)
    → ConvertC version sheet before number after
    → Convert version sheet before (written_by number) after
convert_c_says version sheet before after number c =
    record { answers = ap written_by c.answers ∙ written_back (converted version sheet before) (convert_named version sheet before); leaves = c.leaves }

pub report_c_says : (sheet before after : List ℕ) (number : ℕ)
    → ReportC sheet before number after
    → WriteReport sheet before (written_by number) after
report_c_says sheet before after number c =
    record { answers = ap written_by c.answers ∙ written_back (report_written sheet before) (report_named sheet before); leaves = c.leaves }

-- ---- Demand 1: every input is admitted or gets the one refusal that the order names; 12 comes last

pub analyse_set_turned : (set : TaskSet) (before after : List ℕ) (answer : Result Decision Refusal) → length set.tasks ≡ most_tasks
    → AnalyseSet set before answer after
    → (why : Refusal) → (answer ≡ Err why) ↔ (refusal_to (admission set) (most_frames * length (map task_in (records_of set))) (length before) ≡ Some why)
analyse_set_turned set before after answer sixteen c why = rw c.answers (entries.set_exactly set before sixteen why)

pub analyse_sheet_turned : (sheet before after : List ℕ) (answer : Result Decision Refusal)
    → AnalyseSheet sheet before answer after
    → (why : Refusal) → (answer ≡ Err why) ↔ (refusal_to (reading sheet) (most_frames * length (tasks_of sheet)) (length before) ≡ Some why)
analyse_sheet_turned sheet before after answer c why = rw c.answers (entries.sheet_exactly sheet before why)

pub analyse_list_turned : (policy : ℕ) (list : List Record) (before after : List ℕ) (answer : Result Decision Refusal)
    → AnalyseList policy list before answer after
    → (why : Refusal)
    → (answer ≡ Err why) ↔ (refusal_to (decided (list_checks policy (length list) list)) (most_frames * length (map task_in list)) (length before) ≡ Some why)
analyse_list_turned policy list before after answer c why = rw c.answers (entries.list_exactly policy list before why)

pub read_list_turned : (sheet : List ℕ) (before after : List Record) (answer : Result ListRead Refusal)
    → ReadList sheet before answer after
    → (why : Refusal) → (answer ≡ Err why) ↔ (refusal_to (reading sheet) (length (tasks_of sheet)) (length before) ≡ Some why)
read_list_turned sheet before after answer c why = rw c.answers (entries.read_exactly sheet before why)

pub write_list_turned : (version policy : ℕ) (list : List Record) (before after : List ℕ) (answer : Result ℕ Refusal)
    → WriteList version policy list before answer after
    → (why : Refusal)
    → (answer ≡ Err why)
    ↔ (refusal_to (decided (writing_checks version policy (length list) list)) (length (sheet_of version policy (map task_in list))) (length before) ≡ Some why)
write_list_turned version policy list before after answer c why = rw c.answers (entries.write_exactly version policy list before why)

pub convert_turned : (version : ℕ) (sheet before after : List ℕ) (answer : Result ℕ Refusal)
    → Convert version sheet before answer after
    → (why : Refusal)
    → (answer ≡ Err why) ↔ (refusal_to (decided (converting_checks version sheet)) (length (conversion version sheet)) (length before) ≡ Some why)
convert_turned version sheet before after answer c why = rw c.answers (entries.convert_exactly version sheet before why)

-- a report is refused for want of room alone
pub write_report_turned : (sheet before after : List ℕ) (answer : Result ℕ Refusal)
    → WriteReport sheet before answer after
    → (why : Refusal) → (answer ≡ Err why) ↔ (refusal_to {T = Unit {0}} (Ok tt) (length (report sheet)) (length before) ≡ Some why)
write_report_turned sheet before after answer c why = rw c.answers (entries.print_exactly sheet before why)

-- the number is that of the refusal; where there is none it is not from 1 to 12
pub check_sheet_c_turned : (sheet before after : List ℕ) (number : ℕ)
    → CheckSheetC sheet before number after
    → ((why : Refusal) → refusal_to (reading sheet) (4 * (most_frames * length (tasks_of sheet))) (length before) ≡ Some why → number ≡ number_of why)
    × (refusal_to (reading sheet) (4 * (most_frames * length (tasks_of sheet))) (length before) ≡ None → 1 ≤ number → ¬ (number ≤ 12))
check_sheet_c_turned sheet before after number c =
    let (numbered, analysed) = entries.check_exactly sheet before in (
      λ why e. c.answers ∙ numbered why e,
      λ e l h. outcome_number (outcome_of (policy_of sheet) (tasks_of sheet)) (rw (c.answers ∙ analysed e) at l) (rw (c.answers ∙ analysed e) at h),
    )

-- a sheet that is not admitted is reported as refused, by its number; one that is admitted is not
pub report_text_turned : (sheet : List ℕ) (answer : Text)
    → ReportText sheet answer
    → ((why : Refusal) → reading sheet ≡ Err why → said_in (words_in (text_in answer)) ≡ refused (number_of why))
    × (IsOk (reading sheet) → (number : ℕ) → ¬ (said_in (words_in (text_in answer)) ≡ refused number))
report_text_turned sheet answer c =
    let text : text_in answer ≡ report sheet = ap text_in c.answers ∙ text_back (report sheet) in (
      λ why e.
          ap (λ (l : List ℕ). said_in (words_in l)) (text ∙ entries.report_turned sheet why (one_applies (sheet_checks sheet) why (reading_refuses sheet why e)))
          ∙ refusing (policy_of sheet) (tasks_of sheet) why,
      λ a number e.
          let (sound, whole) = entries.reports sheet (decided_ok sheet a) in
          not_refusing (policy_of sheet) (tasks_of sheet) sound number (ap (λ (l : List ℕ). said_in (words_in l)) (sym (text ∙ whole)) ∙ e),
    )

-- ---- Demand 1: refusal 11 says why

-- The task that it names has no start, and the numbers that it gives are the reason.
pub analyse_set_says_why : (set : TaskSet) (before after : List ℕ) (answer : Result Decision Refusal) → length set.tasks ≡ most_tasks
    → AnalyseSet set before answer after → Explained (map task_in (records_of set)) (outcome_told answer)
unfolding admission Explained
analyse_set_says_why set before after answer sixteen c i why e =
    let whole = refused_whole answer (NotMonotonic i why) e in
    list_why set.policy set.task_count (records_of set) i why (of_input _ _ _ i why ((analyse_set_turned set before after answer sixteen c _).0 whole))

pub analyse_sheet_says_why : (sheet before after : List ℕ) (answer : Result Decision Refusal) → AnalyseSheet sheet before answer after → Explained (tasks_of sheet) (outcome_told answer)
unfolding Explained
analyse_sheet_says_why sheet before after answer c i why e =
    let whole = refused_whole answer (NotMonotonic i why) e in
    sheet_why sheet i why (of_input _ _ _ i why ((analyse_sheet_turned sheet before after answer c _).0 whole))

pub analyse_list_says_why : (policy : ℕ) (list : List Record) (before after : List ℕ) (answer : Result Decision Refusal)
    → AnalyseList policy list before answer after → Explained (map task_in list) (outcome_told answer)
unfolding Explained
analyse_list_says_why policy list before after answer c i why e =
    let whole = refused_whole answer (NotMonotonic i why) e in
    list_why policy (length list) list i why (of_input _ _ _ i why ((analyse_list_turned policy list before after answer c _).0 whole))

pub read_list_says_why : (sheet : List ℕ) (before after : List Record) (answer : Result ListRead Refusal) → ReadList sheet before answer after
    → (i : ℕ) (why : Reason) → answer ≡ Err (NotMonotonic i why) → NoStart (tasks_of sheet) i why
read_list_says_why sheet before after answer c i why e = sheet_why sheet i why (of_input _ _ _ i why ((read_list_turned sheet before after answer c _).0 e))

pub write_list_says_why : (version policy : ℕ) (list : List Record) (before after : List ℕ) (answer : Result ℕ Refusal)
    → WriteList version policy list before answer after → (i : ℕ) (why : Reason) → answer ≡ Err (NotMonotonic i why) → NoStart (map task_in list) i why
write_list_says_why version policy list before after answer c i why e =
    writing_why version policy (length list) list i why (of_input _ _ _ i why ((write_list_turned version policy list before after answer c _).0 e))

pub convert_says_why : (version : ℕ) (sheet before after : List ℕ) (answer : Result ℕ Refusal)
    → Convert version sheet before answer after → (i : ℕ) (why : Reason) → answer ≡ Err (NotMonotonic i why) → NoStart (tasks_of sheet) i why
convert_says_why version sheet before after answer c i why e =
    converting_why version sheet i why (of_input _ _ _ i why ((convert_turned version sheet before after answer c _).0 e))

-- The same through C, from the number alone.
pub analyse_sheet_c_says_why : (sheet before after : List ℕ) (number : ℕ) → AnalyseSheetC sheet before number after
    → Explained (tasks_of sheet) (outcome_told (decision_by number))
analyse_sheet_c_says_why sheet before after number c =
    analyse_sheet_says_why sheet before after (decision_by number) (analyse_sheet_c_says sheet before after number c)

pub analyse_list_c_says_why : (policy : ℕ) (list : List Record) (before after : List ℕ) (number : ℕ)
    → AnalyseListC policy list before number after → Explained (map task_in list) (outcome_told (decision_by number))
analyse_list_c_says_why policy list before after number c =
    analyse_list_says_why policy list before after (decision_by number) (analyse_list_c_says policy list before after number c)

pub read_list_c_says_why : (sheet : List ℕ) (before after : List Record) (number : ℕ) → ReadListC sheet before number after
    → (i : ℕ) (why : Reason) → list_read_by number ≡ Err (NotMonotonic i why) → NoStart (tasks_of sheet) i why
read_list_c_says_why sheet before after number c =
    read_list_says_why sheet before after (list_read_by number) (read_list_c_says sheet before after number c)

pub write_list_c_says_why : (version policy : ℕ) (list : List Record) (before after : List ℕ) (number : ℕ)
    → WriteListC version policy list before number after → (i : ℕ) (why : Reason) → written_by number ≡ Err (NotMonotonic i why) → NoStart (map task_in list) i why
write_list_c_says_why version policy list before after number c =
    write_list_says_why version policy list before after (written_by number) (write_list_c_says version policy list before after number c)

pub convert_c_says_why : (version : ℕ) (sheet before after : List ℕ) (number : ℕ)
    → ConvertC version sheet before number after → (i : ℕ) (why : Reason) → written_by number ≡ Err (NotMonotonic i why) → NoStart (tasks_of sheet) i why
convert_c_says_why version sheet before after number c =
    convert_says_why version sheet before after (written_by number) (convert_c_says version sheet before after number c)

-- There is one reason: other numbers are none.
pub one_reason_why : (tasks : List Task) (i : ℕ) (a b : Reason) → 1 ≤ frame_count (task_at tasks i) → NoStart tasks i a → NoStart tasks i b → a ≡ b
one_reason_why tasks i a b has x y =
    let (f, l, o) = one_reason (task_at tasks i) (x.reason has) (y.reason has) in
    ap₂ (λ (frame length : ℕ). record { frame = frame; length = length; other = a.other }) f l
    ∙ ap (λ (other : ℕ). record { frame = b.frame; length = b.length; other = other }) o

-- ---- Demand 1: a refused call changes nothing

pub analyse_set_refused : (set : TaskSet) (before after : List ℕ) (why : Refusal) → AnalyseSet set before (Err why) after → after ≡ before
analyse_set_refused set before after why c = c.leaves ∙ entries.set_unchanged why set before (sym c.answers)

pub analyse_sheet_refused : (sheet before after : List ℕ) (why : Refusal) → AnalyseSheet sheet before (Err why) after → after ≡ before
analyse_sheet_refused sheet before after why c = c.leaves ∙ entries.sheet_unchanged why sheet before (sym c.answers)

pub analyse_list_refused : (policy : ℕ) (list : List Record) (before after : List ℕ) (why : Refusal)
    → AnalyseList policy list before (Err why) after → after ≡ before
analyse_list_refused policy list before after why c = c.leaves ∙ entries.list_unchanged why policy list before (sym c.answers)

pub read_list_refused : (sheet : List ℕ) (before after : List Record) (why : Refusal) → ReadList sheet before (Err why) after → after ≡ before
read_list_refused sheet before after why c = c.leaves ∙ entries.read_unchanged why sheet before (sym c.answers)

pub write_list_refused : (version policy : ℕ) (list : List Record) (before after : List ℕ) (why : Refusal)
    → WriteList version policy list before (Err why) after → after ≡ before
write_list_refused version policy list before after why c = c.leaves ∙ entries.write_unchanged why version policy list before (sym c.answers)

pub convert_refused : (version : ℕ) (sheet before after : List ℕ) (why : Refusal)
    → Convert version sheet before (Err why) after → after ≡ before
convert_refused version sheet before after why c = c.leaves ∙ entries.convert_unchanged why version sheet before (sym c.answers)

pub write_report_refused : (sheet before after : List ℕ) (why : Refusal) → WriteReport sheet before (Err why) after → after ≡ before
write_report_refused sheet before after why c = c.leaves ∙ entries.print_unchanged why sheet before (sym c.answers)

pub check_sheet_c_refused : (sheet before after : List ℕ) (number : ℕ) → 1 ≤ number → number ≤ 12
    → CheckSheetC sheet before number after → after ≡ before
check_sheet_c_refused sheet before after number l h c =
    let (answer, same, a) = entries.check_entry sheet before in
    let e = c.answers ∙ same in
    c.leaves ∙ number_refused a (rw e at l) (rw e at h)

-- ---- Demand 1: an admitted sheet changed within sixteen neighbouring bits gets refusal 2 from every entry that answers the refusals of a sheet,
-- memory unchanged, and its report says so

-- one changed bit is such a change
pub one_bit_damages : (sheet : List ℕ) (i : ℕ) → IsBytes sheet → i < 8 * length sheet → Damaged sheet (with_bit_inverted i sheet)
one_bit_damages sheet i = damage.one_bit sheet i

module _ (sheet changed : List ℕ) (admitted : IsOk (reading sheet)) (damaged : Damaged sheet changed) where
  pub analyse_sheet_damaged : (before after : List ℕ) (answer : Result Decision Refusal) → AnalyseSheet changed before answer after
      → (answer ≡ Err CheckWord) × (after ≡ before)
  analyse_sheet_damaged before after answer c =
      let t = entries.sheet_turned changed CheckWord (damage.damaged_is_2 sheet changed admitted damaged) before in
      (c.answers ∙ t.0, c.leaves ∙ t.1)

  pub analyse_sheet_c_damaged : (before after : List ℕ) (number : ℕ) → AnalyseSheetC changed before number after
      → (decision_by number ≡ Err CheckWord) × (after ≡ before)
  analyse_sheet_c_damaged before after number c = analyse_sheet_damaged before after (decision_by number) (analyse_sheet_c_says changed before after number c)

  pub check_sheet_c_damaged : (before after : List ℕ) (number : ℕ) → CheckSheetC changed before number after
      → (number ≡ 2) × (after ≡ before)
  check_sheet_c_damaged before after number c =
      let t = entries.check_turned changed CheckWord (damage.damaged_is_2 sheet changed admitted damaged) before in
      (c.answers ∙ t.0, c.leaves ∙ t.1)

  pub read_list_damaged : (before after : List Record) (answer : Result ListRead Refusal) → ReadList changed before answer after
      → (answer ≡ Err CheckWord) × (after ≡ before)
  read_list_damaged before after answer c =
      let t = entries.read_turned changed CheckWord (damage.damaged_is_2 sheet changed admitted damaged) before in
      (c.answers ∙ t.0, c.leaves ∙ t.1)

  pub read_list_c_damaged : (before after : List Record) (number : ℕ) → ReadListC changed before number after
      → (list_read_by number ≡ Err CheckWord) × (after ≡ before)
  read_list_c_damaged before after number c = read_list_damaged before after (list_read_by number) (read_list_c_says changed before after number c)

  pub report_text_damaged : (answer : Text) → ReportText changed answer → text_in answer ≡ line (refused_word ∷ decimal 2 ∷ [])
  unfolding first_line
  report_text_damaged answer c =
      ap text_in c.answers ∙ text_back (report changed) ∙ entries.report_turned changed CheckWord (damage.damaged_is_2 sheet changed admitted damaged)

-- ---- Demand 2, of lists

-- What `read_list` leaves where it answers with a version, a policy and a count: a record of each task of the sheet, 0 in slots past its frame count.
pub read_list_fills : (sheet : List ℕ) (before after : List Record) (version policy n : ℕ)
    → ReadList sheet before (Ok (record { version = version; policy = policy; task_count = n })) after
    → IsOk (reading sheet) × (version ≡ version_of sheet) × (policy ≡ policy_of sheet) × (take n after ≡ map record_of (tasks_of sheet))
read_list_fills sheet before after version policy n r =
    trip.read_records sheet before after _ (Ok (record { version = version; policy = policy; task_count = n })) refl (subst₂ (entries.Read sheet before) (sym r.answers) (sym r.leaves) (entries.read_entry sheet before))

-- What `write_list` leaves where it answers with a number of bytes: the sheet of the policy and the tasks in that version.
pub write_list_writes : (version policy : ℕ) (list : List Record) (before after : List ℕ) (n : ℕ)
    → WriteList version policy list before (Ok n) after
    → take n after ≡ sheet_of version policy (map task_in list)
write_list_writes version policy list before after n w =
    (trip.written_sheet version policy list before after n (Ok n) refl
    (subst₂ (entries.Wrote version policy list before) (sym w.answers) (sym w.leaves) (entries.write_entry version policy list before))).1

-- What `write_report` leaves where it answers with a number of bytes: the whole report, of a refused sheet too.
pub write_report_writes : (sheet before after : List ℕ) (n : ℕ)
    → WriteReport sheet before (Ok n) after
    → (n ≡ length (report sheet)) × (take n after ≡ report sheet)
write_report_writes sheet before after n w =
    printed_text sheet before n (Ok n) refl (subst₂ (entries.Printed sheet before) (sym w.answers) (sym w.leaves) (entries.print_entry sheet before))

-- so of a sheet that was damaged (demand 1) a line that refuses it
pub write_report_damaged : (sheet changed : List ℕ) → IsOk (reading sheet) → Damaged sheet changed
    → (before after : List ℕ) (n : ℕ) → WriteReport changed before (Ok n) after → take n after ≡ line (refused_word ∷ decimal 2 ∷ [])
unfolding first_line
write_report_damaged sheet changed admitted damaged before after n w =
    (write_report_writes changed before after n w).1 ∙ entries.report_turned changed CheckWord (damage.damaged_is_2 sheet changed admitted damaged)

-- `write_list`, then `read_list` of the bytes written into a list that is long enough: the same version and policy, and the same tasks over the slots in use.
pub write_then_read_list : (version policy : ℕ) (list before after : List Record) (room written : List ℕ) (n : ℕ) (answer : Result ListRead Refusal)
    → WriteList version policy list room (Ok n) written
    → length list ≤ length before
    → ReadList (take n written) before answer after
    → (answer ≡ Ok (record { version = version; policy = policy; task_count = length list }))
    × (map task_in (take (length list) after) ≡ map task_in list)
    × (drop (length list) after ≡ drop (length list) before)
write_then_read_list version policy list before after room written n answer w fits r =
    let (held, same) =
    trip.written_sheet version policy list room written n (Ok n) refl
    (subst₂ (entries.Wrote version policy list room) (sym w.answers) (sym w.leaves) (entries.write_entry version policy list room)) in
    let (said, tasks, rest) = trip.read_back version policy list before held fits in (
      r.answers ∙ ap (λ (s : List ℕ). list_read s before) same ∙ said,
      ap (λ (l : List Record). map task_in (take (length list) l)) (r.leaves ∙ ap (λ (s : List ℕ). list_filled s before) same) ∙ tasks,
      ap (drop (length list)) (r.leaves ∙ ap (λ (s : List ℕ). list_filled s before) same) ∙ rest,
    )

-- `read_list`, then `write_list` of the records read into room that is long enough: the same bytes.
pub read_then_write_list : (sheet room written : List ℕ) (before after : List Record) (version policy n : ℕ) (answer : Result ℕ Refusal) → IsBytes sheet
    → ReadList sheet before (Ok (record { version = version; policy = policy; task_count = n })) after
    → length sheet ≤ length room
    → WriteList version policy (take n after) room answer written
    → (answer ≡ Ok (length sheet))
    × (take (length sheet) written ≡ sheet)
    × (drop (length sheet) written ≡ drop (length sheet) room)
unfolding laid
read_then_write_list sheet room written before after version policy n answer byte r fits w =
    let (admitted, v, p, records) = trip.read_records sheet before after _ (Ok (record { version = version; policy = policy; task_count = n })) refl (subst₂ (entries.Read sheet before) (sym r.answers) (sym r.leaves) (entries.read_entry sheet before)) in
    let (said, left) = trip.write_back sheet room byte admitted fits in
    let whole =
    w.leaves ∙ ap (λ (f : ℕ). list_left f policy (take n after) room) v ∙ ap₂ (λ (q : ℕ) (l : List Record). list_left (version_of sheet) q l room) p records ∙ left in (
      w.answers
          ∙ ap (λ (f : ℕ). list_written f policy (take n after) room) v
          ∙ ap₂ (λ (q : ℕ) (l : List Record). list_written (version_of sheet) q l room) p records
          ∙ said,
      ap (take (length sheet)) whole ∙ take_laid sheet room,
      ap (drop (length sheet)) whole ∙ drop_at sheet _ (length sheet) refl,
    )

-- The same through C.
pub write_then_read_list_c : (version policy : ℕ) (list before after : List Record) (room written : List ℕ) (n number answer : ℕ)
    → WriteListC version policy list room number written → written_by number ≡ Ok n
    → length list ≤ length before
    → ReadListC (take n written) before answer after
    → (list_read_by answer ≡ Ok (record { version = version; policy = policy; task_count = length list }))
    × (map task_in (take (length list) after) ≡ map task_in list)
    × (drop (length list) after ≡ drop (length list) before)
write_then_read_list_c version policy list before after room written n number answer w e fits r =
    write_then_read_list version policy list before after room written n (list_read_by answer)
    (rw e at (write_list_c_says version policy list room written number w)) fits (read_list_c_says (take n written) before after answer r)

pub read_then_write_list_c : (sheet room written : List ℕ) (before after : List Record) (version policy n number answer : ℕ) → IsBytes sheet
    → ReadListC sheet before number after → list_read_by number ≡ Ok (record { version = version; policy = policy; task_count = n })
    → length sheet ≤ length room
    → WriteListC version policy (take n after) room answer written
    → (written_by answer ≡ Ok (length sheet))
    × (take (length sheet) written ≡ sheet)
    × (drop (length sheet) written ≡ drop (length sheet) room)
read_then_write_list_c sheet room written before after version policy n number answer byte r e fits w =
    read_then_write_list sheet room written before after version policy n (written_by answer) byte
    (rw e at (read_list_c_says sheet before after number r)) fits (write_list_c_says version policy (take n after) room written answer w)

-- ---- Demand 3: a time that is written is a time

-- Zero is no worst time, so that a task with its times has no zero among its frames.
pub no_worst_time_is_zero : (policy : ℕ) (tasks : List Task) (i k : ℕ) → ¬ WorstTime policy tasks i k 0
no_worst_time_is_zero policy tasks i k w = omega (arith, w.least.positive)

-- ---- Demand 3: what the answer says is so of every run, and the lent memory holds the worst times

-- `analyse_set`. A set by value has sixteen records, of which `task_count` are in use.
pub analyse_set_signed : (set : TaskSet) (before after : List ℕ) (answer : Result Decision Refusal) → length set.tasks ≡ most_tasks
    → AnalyseSet set before answer after
    → Signed set.policy (map task_in (records_of set)) in_numbers before after (said (outcome_told answer))
analyse_set_signed set before after answer sixteen c = rw (c.answers, c.leaves) (promised (entries.set_entry set before sixteen))

-- `analyse_sheet`
pub analyse_sheet_signed : (sheet before after : List ℕ) (answer : Result Decision Refusal)
    → AnalyseSheet sheet before answer after
    → Signed (policy_of sheet) (tasks_of sheet) in_numbers before after (said (outcome_told answer))
analyse_sheet_signed sheet before after answer c = rw (c.answers, c.leaves) (promised (entries.sheet_entry sheet before))

-- `analyse_list`
pub analyse_list_signed : (policy : ℕ) (list : List Record) (before after : List ℕ) (answer : Result Decision Refusal)
    → AnalyseList policy list before answer after
    → Signed policy (map task_in list) in_numbers before after (said (outcome_told answer))
analyse_list_signed policy list before after answer c = rw (c.answers, c.leaves) (promised (entries.list_entry policy list before))

-- `burrbeech_check_sheet`: what its number says, and the times in four bytes each
pub check_sheet_c_signed : (sheet before after : List ℕ) (number : ℕ)
    → CheckSheetC sheet before number after
    → Signed (policy_of sheet) (tasks_of sheet) in_bytes before after (said_by number)
check_sheet_c_signed sheet before after number c =
    let (answer, same, a) = entries.check_entry sheet before in
    rw (c.answers ∙ same, c.leaves, said_back (outcome_told answer) (few_of a)) (promised a)

pub analyse_sheet_c_signed : (sheet before after : List ℕ) (number : ℕ)
    → AnalyseSheetC sheet before number after
    → Signed (policy_of sheet) (tasks_of sheet) in_numbers before after (said (outcome_told (decision_by number)))
analyse_sheet_c_signed sheet before after number c =
    analyse_sheet_signed sheet before after (decision_by number) (analyse_sheet_c_says sheet before after number c)

pub analyse_list_c_signed : (policy : ℕ) (list : List Record) (before after : List ℕ) (number : ℕ)
    → AnalyseListC policy list before number after
    → Signed policy (map task_in list) in_numbers before after (said (outcome_told (decision_by number)))
analyse_list_c_signed policy list before after number c =
    analyse_list_signed policy list before after (decision_by number) (analyse_list_c_says policy list before after number c)

-- `report_text`: what the first line says, and the line of each task
pub report_text_signed : (sheet : List ℕ) (answer : Text)
    → ReportText sheet answer
    → ReportSigned (policy_of sheet) (tasks_of sheet) (text_in answer) (said_in (words_in (text_in answer)))
report_text_signed sheet answer c =
    rw (ap text_in c.answers ∙ text_back (report sheet)) (report_promised (policy_of sheet) (tasks_of sheet) (report sheet) (entries.report_entry sheet))

-- the same of its text in lent bytes
pub write_report_signed : (sheet before after : List ℕ) (answer : Result ℕ Refusal)
    → WriteReport sheet before answer after
    → ReportLeft (policy_of sheet) (tasks_of sheet) before after answer
write_report_signed sheet before after answer c = rw (c.answers, c.leaves) (printed_signed sheet before (entries.print_entry sheet before))

pub report_c_signed : (sheet before after : List ℕ) (number : ℕ)
    → ReportC sheet before number after
    → ReportLeft (policy_of sheet) (tasks_of sheet) before after (written_by number)
report_c_signed sheet before after number c = write_report_signed sheet before after (written_by number) (report_c_says sheet before after number c)

-- ---- The count that an answer gives is that of the tasks; 0 where the call is refused

pub analyse_set_counts : (set : TaskSet) (before after : List ℕ) (answer : Result Decision Refusal) → length set.tasks ≡ most_tasks
    → AnalyseSet set before answer after
    → count_told answer ≡ count_said (length (map task_in (records_of set))) (said (outcome_told answer))
analyse_set_counts set before after answer sixteen c = rw c.answers (counted (entries.set_entry set before sixteen))

pub analyse_sheet_counts : (sheet before after : List ℕ) (answer : Result Decision Refusal)
    → AnalyseSheet sheet before answer after
    → count_told answer ≡ count_said (length (tasks_of sheet)) (said (outcome_told answer))
analyse_sheet_counts sheet before after answer c = rw c.answers (counted (entries.sheet_entry sheet before))

pub analyse_list_counts : (policy : ℕ) (list : List Record) (before after : List ℕ) (answer : Result Decision Refusal)
    → AnalyseList policy list before answer after
    → count_told answer ≡ count_said (length (map task_in list)) (said (outcome_told answer))
analyse_list_counts policy list before after answer c = rw c.answers (counted (entries.list_entry policy list before))

-- ---- For the same input a second conforming call answers and leaves the same

pub one_call : {X A : Type 0} {due : X} {left : List A} {a b : X} {x y : List A} → Keeps due left a x → Keeps due left b y → (a ≡ b) × (x ≡ y)
one_call c d = (c.answers ∙ sym d.answers, c.leaves ∙ sym d.leaves)

pub one_analyse_set : (set : TaskSet) (before x y : List ℕ) (a b : Result Decision Refusal) → AnalyseSet set before a x → AnalyseSet set before b y → (a ≡ b) × (x ≡ y)
one_analyse_set set before x y a b c d = one_call c d

pub one_analyse_sheet : (sheet before x y : List ℕ) (a b : Result Decision Refusal) → AnalyseSheet sheet before a x → AnalyseSheet sheet before b y → (a ≡ b) × (x ≡ y)
one_analyse_sheet sheet before x y a b c d = one_call c d

pub one_analyse_list : (policy : ℕ) (list : List Record) (before x y : List ℕ) (a b : Result Decision Refusal)
    → AnalyseList policy list before a x → AnalyseList policy list before b y → (a ≡ b) × (x ≡ y)
one_analyse_list policy list before x y a b c d = one_call c d

pub one_read_list : (sheet : List ℕ) (before x y : List Record) (a b : Result ListRead Refusal) → ReadList sheet before a x → ReadList sheet before b y → (a ≡ b) × (x ≡ y)
one_read_list sheet before x y a b c d = one_call c d

pub one_write_list : (version policy : ℕ) (list : List Record) (before x y : List ℕ) (a b : Result ℕ Refusal)
    → WriteList version policy list before a x → WriteList version policy list before b y → (a ≡ b) × (x ≡ y)
one_write_list version policy list before x y a b c d = one_call c d

pub one_check_sheet_c : (sheet before x y : List ℕ) (a b : ℕ) → CheckSheetC sheet before a x → CheckSheetC sheet before b y → (a ≡ b) × (x ≡ y)
one_check_sheet_c sheet before x y a b c d = one_call c d

pub one_analyse_sheet_c : (sheet before x y : List ℕ) (a b : ℕ) → AnalyseSheetC sheet before a x → AnalyseSheetC sheet before b y → (a ≡ b) × (x ≡ y)
one_analyse_sheet_c sheet before x y a b c d = one_call c d

pub one_analyse_list_c : (policy : ℕ) (list : List Record) (before x y : List ℕ) (a b : ℕ)
    → AnalyseListC policy list before a x → AnalyseListC policy list before b y → (a ≡ b) × (x ≡ y)
one_analyse_list_c policy list before x y a b c d = one_call c d

pub one_read_list_c : (sheet : List ℕ) (before x y : List Record) (a b : ℕ) → ReadListC sheet before a x → ReadListC sheet before b y → (a ≡ b) × (x ≡ y)
one_read_list_c sheet before x y a b c d = one_call c d

pub one_write_list_c : (version policy : ℕ) (list : List Record) (before x y : List ℕ) (a b : ℕ)
    → WriteListC version policy list before a x → WriteListC version policy list before b y → (a ≡ b) × (x ≡ y)
one_write_list_c version policy list before x y a b c d = one_call c d

pub one_convert : (version : ℕ) (sheet before x y : List ℕ) (a b : Result ℕ Refusal) → Convert version sheet before a x → Convert version sheet before b y → (a ≡ b) × (x ≡ y)
one_convert version sheet before x y a b c d = one_call c d

pub one_convert_c : (version : ℕ) (sheet before x y : List ℕ) (a b : ℕ) → ConvertC version sheet before a x → ConvertC version sheet before b y → (a ≡ b) × (x ≡ y)
one_convert_c version sheet before x y a b c d = one_call c d

pub one_report_text : (sheet : List ℕ) (a b : Text) → ReportText sheet a → ReportText sheet b → a ≡ b
one_report_text sheet a b c d = c.answers ∙ sym d.answers

pub one_write_report : (sheet before x y : List ℕ) (a b : Result ℕ Refusal) → WriteReport sheet before a x → WriteReport sheet before b y → (a ≡ b) × (x ≡ y)
one_write_report sheet before x y a b c d = one_call c d

pub one_report_c : (sheet before x y : List ℕ) (a b : ℕ) → ReportC sheet before a x → ReportC sheet before b y → (a ≡ b) × (x ≡ y)
one_report_c sheet before x y a b c d = one_call c d
