-- From the steps to the entries: what the ordered copy of an admitted set gives, and what lent numbers hold.
use Rattle.std.specs.Prelude.{Err, None, Ok, Result, Some}
use Rattle.std.specs.Result.{result_ok}
use mathlib.Core.List.{List, [], ◌∷◌, ◌++◌, map}
use mathlib.Core.Path.{◌≡◌, refl, sym, ap, ◌∙◌}
use Prim.Native.Nat.{ℕ, ◌≤◌, ◌<◌, zero, suc, ◌+◌, ◌*◌, zero-le}
use native.Mathlib.Omega.{arith}
use lib.ListN.{length, get_or, drop, length-append, length-replicate, drop_of_length-le, get_or-eq_default}
use lib.Seq.{take_at, drop-cons}
use Rattle.theory.specs.Tasks.{Task, task_at, frame_count}
use Rattle.theory.specs.Analysis.{verdict}
use Rattle.lent.specs.Checks.{Check, first_refusal}
use Rattle.lent.specs.Lent.{Call, refusal_of, answered, left_after}
use Rattle.lent.proofs.Checks.{none_first}
use Rattle.lent.proofs.Lent.{by_checks}
use Rattle.sheet.specs.Constants.{most_tasks, most_frames}
use Rattle.sheet.specs.Tasks.{task_in, records_of, set_with}
use Rattle.sheet.specs.Admission.{decided, list_checks, admission}
use Rattle.sheet.specs.Reading.{sheet_checks, policy_of, tasks_of}
use Rattle.sheet.specs.declared.TaskSet.{TaskSet}
use Rattle.sheet.specs.declared.Refusal.{Refusal}
use Rattle.sheet.specs.declared.Refusal.TheVariants.{Room}
use Rattle.sheet.proofs.Checks.{none_applies, one_applies}
use Rattle.sheet.proofs.Records.{tasks_with}
use Rattle.sheet.proofs.Carried.{by_admission, by_reading, to_admission, many_found}
use Rattle.sheet.proofs.Analysable.{admitted_set_is_admitted}
use Rattle.reader.specs.Sheets.{sheet_judged}
use Rattle.admission.specs.Judged.{shapes_of, judged}
use Rattle.admission.specs.declared.Judged.{Judged}
use Rattle.admission.specs.declared.Shape.{Shape}
use Rattle.admission.proofs.Shapes.{shape_there}
use Rattle.order.specs.Order.{priority_order, ordered_set}
use Rattle.order.specs.Ordered.{order_of, ordered, tasks_in_order, numbers_of}
use Rattle.order.specs.declared.Ordered.{Ordered}
use Rattle.order.proofs.Laws.{ordered_admitted, ordered_tasks, ordered_numbers, ordered_length, ordered_at, order_of_length}
use Rattle.analysis.specs.Times.{verdict_number, outcome_of, number_at, place_of, written_slots, slots_of, slots_from, times_of}
use Rattle.analysis.specs.Findings.{no_finding, findings_of, finding_at, findings_from, finding_in, slots_in, numbers_found, in_turn, times_by_number}
use Rattle.analysis.specs.Answers.{analysed, analysis_by, set_analysis, sheet_analysis, analysing, set_analysing, set_decision, set_left, sheet_analysing, sheet_decision, sheet_left}
use Rattle.analysis.specs.Misses.{miss_in, miss_of, set_miss}
use Rattle.analysis.specs.Inside.Steps.{RightlyJudged, ShapesStand}
use Rattle.analysis.specs.Inside.Numbered.{Numbered}
use Rattle.analysis.specs.Inside.Delivery.{delivering, delivered_decision, delivered}
use Rattle.analysis.specs.declared.Verdict.{Verdict}
use Rattle.analysis.specs.declared.Analysis.{Analysis}
use Rattle.analysis.specs.declared.Decision.{Decision}
use Rattle.analysis.specs.declared.Finding.{Finding}
use native.Mathlib.Decide.{dec_lt}
use Rattle.sheet.proofs.InFields.{Each, no_task, task_more, FramesCounted}
use Rattle.order.proofs.Order.{order_length, order_permutes}
use Rattle.analysis.proofs.ByPlace.{length_findings, finding_is}
use Rattle.analysis.proofs.ByNumber.{turn_same}
use Rattle.analysis.proofs.Numbering.{place_in}
use Rattle.analysis.proofs.TimesAt.{length_slots, length_all}

-- ---- the frames of a set are few

pub few : (ts : List Task) → Each FramesCounted ts → (p : ℕ) → frame_count (task_at ts p) ≤ most_frames
unfolding task_at frame_count
few [] no_task p = zero-le
few (t ∷ ts) (task_more h e) zero = h.1
few (t ∷ ts) (task_more h e) (suc p) = few ts e p

module _ (policy : ℕ) (tasks : List Task) (counted : Each FramesCounted tasks) where
  pub small_ordered : (p : ℕ) → frame_count (task_at (ordered_set policy tasks) p) ≤ most_frames
  unfolding task_at frame_count
  small_ordered p = go (dec_lt p (length tasks))
    where
      go : Dec (p < length tasks) → frame_count (task_at (ordered_set policy tasks) p) ≤ most_frames
      go (yes h) = rw (ordered_at policy tasks p h) (few tasks counted (get_or (priority_order policy tasks) p 0))
      go (no n) =
          rw (get_or-eq_default (ordered_set policy tasks) (record { period = 0; lock = 0; frames = []; deadlines = [] }) {n = p} (omega (arith, ordered_length policy tasks))) zero-le

  pub times_long : length (times_of policy tasks) ≡ most_frames * length tasks
  unfolding times_of
  times_long = length_all _ _ small_ordered 0 (length tasks)

-- ---- the analysis by task number

module _ (policy : ℕ) (tasks : List Task) where
  abbrev order : List ℕ
  order = priority_order policy tasks

  abbrev set : List Task
  set = ordered_set policy tasks

  abbrev analysis : Analysis
  analysis = analysed policy tasks

  numbers_from : (p n : ℕ) → p + n ≡ length order → map (λ f. f.number) (findings_from order set p n) ≡ drop p order
  unfolding findings_from finding_at number_at
  numbers_from p zero h = sym (drop_of_length-le order {i = p} (omega arith))
  numbers_from p (suc n) h = rw (drop-cons order p 0 (omega arith)) (ap (λ (l : List ℕ). get_or order p 0 ∷ l) (numbers_from (suc p) n (omega arith)))

  numbers_found_are : numbers_found analysis ≡ order
  unfolding numbers_found analysed findings_of
  numbers_found_are =
      ap (map (λ f. f.number)) (take_at (findings_from order set 0 (length set)) _ (length tasks) (length_findings order set 0 (length set) ∙ ordered_length policy tasks))
      ∙ numbers_from 0 (length set) (omega (arith, ordered_length policy tasks, order_length policy tasks))

  pub found_at : (p : ℕ) → p < length tasks → finding_in analysis p ≡ finding_at order set p
  unfolding analysed
  found_at p h = finding_is order set p no_finding (rw (ordered_length policy tasks) h)

  slots_are : (p : ℕ) → p < length tasks → slots_in analysis p ≡ slots_of set p
  unfolding finding_at slots_of
  slots_are p h = ap (λ (f : Finding). written_slots f.times) (found_at p h)

  slots_in_turn : (i n : ℕ) → in_turn (λ j. slots_of set (place_of order j)) i n ≡ slots_from order set i n
  unfolding in_turn slots_from
  slots_in_turn i zero = refl
  slots_in_turn i (suc n) = ap (λ (l : List ℕ). slots_of set (place_of order i) ++ l) (slots_in_turn (suc i) n)

  -- the times by number are those of the definition
  pub by_number_is : times_by_number analysis ≡ times_of policy tasks
  unfolding times_by_number times_of analysed
  by_number_is =
      turn_same (λ i. slots_in analysis (place_of (numbers_found analysis) i)) (λ i. slots_of set (place_of order i)) 0 (length tasks)
      (λ i h. ap (λ (l : List ℕ). slots_in analysis (place_of l i)) numbers_found_are
      ∙ slots_are (place_of order i) (place_in (length tasks) order (order_permutes policy tasks) i (omega arith)))
      ∙ slots_in_turn 0 (length tasks)

  pub analysis_numbered : length tasks ≤ most_tasks → Each FramesCounted tasks → Numbered analysis
  unfolding analysed findings_of
  analysis_numbered small counted =
      record {
        few = small;
        numbers = rw numbers_found_are (order_permutes policy tasks);
        room = simp (length-append, length-replicate) (omega (arith, length_findings order set 0 (length set), ordered_length policy tasks));
        eight = λ p h. ap length (slots_are p h) ∙ length_slots set p (small_ordered policy tasks counted p);
      }

-- an analysis can go to task-number order
numbered_by : (a : Result Unit Refusal) (policy : ℕ) (tasks : List Task) (x : Analysis) → analysis_by a policy tasks ≡ Ok x
    → (a ≡ Ok tt → (length tasks ≤ most_tasks) × Each FramesCounted tasks) → Numbered x
unfolding analysis_by
numbered_by (Ok tt) policy tasks x e h =
    let (small, counted) = h refl in
    let is : analysed policy tasks ≡ x = cc in
    rw (← is) (analysis_numbered policy tasks small counted)
numbered_by (Err r) policy tasks x e h = cc

pub set_numbered : (s : TaskSet) (x : Analysis) → length s.tasks ≡ most_tasks → set_analysis s ≡ Ok x → Numbered x
unfolding set_analysis
set_numbered s x room e = numbered_by (admission s) s.policy (map task_in (records_of s)) x e (λ a. let c = by_admission s room a in (c.few_tasks, c.counted))

pub sheet_numbered : (s : List ℕ) (x : Analysis) → sheet_analysis s ≡ Ok x → Numbered x
unfolding sheet_analysis
sheet_numbered s x e = numbered_by (decided (sheet_checks s)) (policy_of s) (tasks_of s) x e (λ a. let c = by_reading s a in (c.few_tasks, c.counted))

-- ---- the ordered copy of an admitted set

module _ (s : TaskSet) (room : length s.tasks ≡ most_tasks) (e : admission s ≡ Ok tt) where
  abbrev tasks : List Task
  tasks = map task_in (records_of s)

  few_tasks : length tasks ≤ most_tasks
  few_tasks = (by_admission s room e).few_tasks

  pub numbers_are : numbers_of (ordered s) ≡ priority_order s.policy tasks
  unfolding order_of
  numbers_are = ordered_numbers s

  counted : (ordered s).count ≡ length tasks
  unfolding ordered
  counted = order_of_length s

  in_tasks : (p : ℕ) → p < length (tasks_in_order (ordered s)) → p < length tasks
  in_tasks p h = omega (arith, ap length (ordered_tasks s), ordered_length s.policy tasks)

  pub shaped : (shapes : List Shape) → shapes ≡ shapes_of tasks → ShapesStand (ordered s) shapes
  unfolding shapes_of number_at
  shaped shapes es =
      record {
        few = rw (ordered_tasks s) (omega (arith, ordered_length s.policy tasks, few_tasks));
        admitted = λ p h. rw (ordered_tasks s) ((ordered_admitted s.policy tasks (admitted_set_is_admitted s room e)).each_task p (rw (ordered_tasks s) at h));
        numbered = λ p h. rw numbers_are (omega (arith, (order_permutes s.policy tasks).each_place p (in_tasks p h), few_tasks));
        shape_is = λ p h. let k = in_tasks p h in
            rw (es, numbers_are, ordered_tasks s, ordered_at s.policy tasks p k) (shape_there tasks (get_or (priority_order s.policy tasks) p 0) ((order_permutes s.policy tasks).each_place p k));
      }

  pub shaped_order : (o : Ordered) (shapes : List Shape) → o ≡ ordered s → shapes ≡ shapes_of tasks → ShapesStand o shapes
  shaped_order o shapes eo es = rw eo (shaped shapes es)

  -- what the steps find is the analysis
  pub analysis_is : (o : Ordered) (v : Verdict) (findings : List Finding) → o ≡ ordered s
      → v ≡ verdict_number (numbers_of o) (verdict (tasks_in_order o)) → findings ≡ findings_of (numbers_of o) (tasks_in_order o)
      → ◌≡◌ {A = Analysis} (record { verdict = v; task_count = o.count; findings = findings }) (analysed s.policy tasks)
  unfolding analysed outcome_of
  analysis_is o v findings eo ev ef = rw (ev, ef, eo, numbers_are, ordered_tasks s, counted)

-- ---- a set that was judged

-- one that is admitted is handed on with the shapes of its tasks
pub judged_is : (a : Result Unit Refusal) (s : TaskSet) (j : Judged) → judged a s ≡ Ok j
    → (a ≡ Ok tt) × (j.set ≡ s) × (j.shapes ≡ shapes_of (map task_in (records_of s)))
unfolding judged
judged_is (Ok tt) s j e = let is : record { set = s; shapes = shapes_of (map task_in (records_of s)) } ≡ j = cc in rw (← is) (refl, refl, refl)
judged_is (Err why) s j e = cc

-- and one that is turned away has the refusal alone
pub refused_is : (a : Result Unit Refusal) (s : TaskSet) (why : Refusal) → judged a s ≡ Err why → a ≡ Err why
unfolding judged
refused_is (Ok tt) s why e = cc
refused_is (Err r) s why e = cc

-- the analysis of an admitted set
analysed_by : (a : Result Unit Refusal) (s : TaskSet) (j : Judged) → judged a s ≡ Ok j
    → Ok (analysed j.set.policy (map task_in (records_of j.set))) ≡ analysis_by a s.policy (map task_in (records_of s))
unfolding analysis_by
analysed_by a s j e = let (admitted, set_is, _) = judged_is a s j e in rw (admitted, set_is)

-- a set by value
module _ (s : TaskSet) where
  pub set_admits : (j : Judged) → judged (admission s) s ≡ Ok j → RightlyJudged j
  set_admits j e =
      let (admitted, set_is, shapes_are) = judged_is (admission s) s j e in record { admits = rw set_is admitted; shapes_are = rw set_is shapes_are }

  pub of_set : (j : Judged) → judged (admission s) s ≡ Ok j → Ok (analysed j.set.policy (map task_in (records_of j.set))) ≡ set_analysis s
  unfolding set_analysis
  of_set j e = analysed_by (admission s) s j e

  pub refused_set : (why : Refusal) → judged (admission s) s ≡ Err why → Err why ≡ set_analysis s
  unfolding set_analysis analysis_by
  refused_set why e = rw (refused_is (admission s) s why e)

  -- and its missed frame, looked for where it is admitted
  pub judged_admits : (j : Judged) → result_ok (judged (admission s) s) ≡ Some j
      → (admission s ≡ Ok tt) × (j.set ≡ s) × (j.shapes ≡ shapes_of (map task_in (records_of s)))
  judged_admits j e = go (judged (admission s) s) refl e
    where
      go : (r : Result Judged Refusal) → judged (admission s) s ≡ r → result_ok r ≡ Some j
          → (admission s ≡ Ok tt) × (j.set ≡ s) × (j.shapes ≡ shapes_of (map task_in (records_of s)))
      go (Ok x) d e = let is : x ≡ j = cc in judged_is (admission s) s j (d ∙ ap Ok is)
      go (Err why) d e = cc

  pub shapes_stand : (j : Judged) → length s.tasks ≡ most_tasks → result_ok (judged (admission s) s) ≡ Some j → ShapesStand (ordered j.set) j.shapes
  shapes_stand j room e = let (admitted, set_is, shapes_are) = judged_admits j e in rw set_is (shaped s room admitted j.shapes shapes_are)

  pub miss_is : (j : Judged) → result_ok (judged (admission s) s) ≡ Some j → miss_in (tasks_in_order (ordered j.set)) ≡ set_miss s
  unfolding set_miss miss_of
  miss_is j e = let (admitted, set_is, _) = judged_admits j e in rw (admitted, set_is, ordered_tasks s)

  pub no_miss_is : result_ok (judged (admission s) s) ≡ None → None ≡ set_miss s
  unfolding set_miss miss_of
  no_miss_is e = go (judged (admission s) s) refl e
    where
      go : (r : Result Judged Refusal) → judged (admission s) s ≡ r → result_ok r ≡ None → None ≡ miss_of (admission s) s.policy (map task_in (records_of s))
      go (Ok x) d e = cc
      go (Err why) d e = rw (refused_is (admission s) s why d)

-- a sheet: its set is admitted
module _ (s : List ℕ) where
  pub sheet_admits : (j : Judged) → sheet_judged s ≡ Ok j → RightlyJudged j
  unfolding sheet_judged
  sheet_admits j e =
      let (admitted, set_is, shapes_are) = judged_is (decided (sheet_checks s)) _ j e in
      record { admits = rw set_is (to_admission (by_reading s admitted)); shapes_are = rw set_is shapes_are }

  pub of_sheet : (j : Judged) → sheet_judged s ≡ Ok j → Ok (analysed j.set.policy (map task_in (records_of j.set))) ≡ sheet_analysis s
  unfolding sheet_judged sheet_analysis set_with
  of_sheet j e =
      analysed_by (decided (sheet_checks s)) _ j e ∙ ap (analysis_by (decided (sheet_checks s)) (policy_of s)) (tasks_with (policy_of s) (tasks_of s) (many_found s))

  pub refused_sheet : (why : Refusal) → sheet_judged s ≡ Err why → Err why ≡ sheet_analysis s
  unfolding sheet_judged sheet_analysis analysis_by
  refused_sheet why e = rw (refused_is (decided (sheet_checks s)) _ why e)

-- ---- lent numbers

-- What an analysis delivers is what the call answers and leaves.
module _ (cs : List (Check Refusal)) (policy : ℕ) (tasks : List Task) (room : List ℕ) where
  abbrev call : Call Refusal ℕ Decision
  call = analysing cs policy tasks

  pub admitted_delivers : (x : Analysis) → analysis_by (decided cs) policy tasks ≡ Ok x
      → (delivered_decision x room ≡ answered Room call room) × (delivered x room ≡ left_after Room call room)
  unfolding analysis_by
  admitted_delivers x e = go (decided cs) refl e
    where
      go : (a : Result Unit Refusal) → decided cs ≡ a → analysis_by a policy tasks ≡ Ok x
          → (delivered_decision x room ≡ answered Room call room) × (delivered x room ≡ left_after Room call room)
      go (Ok tt) d e =
          let is : analysed policy tasks ≡ x = cc in
          rw (← is) (unfold delivered_decision delivered delivering analysing answered left_after refusal_of first_refusal analysed in
          rw (none_first cs _ (none_applies cs d), by_number_is policy tasks) (refl, refl))
      go (Err r) d e = cc

  pub refused_delivers : (r : Refusal) → analysis_by (decided cs) policy tasks ≡ Err r → (Err r ≡ answered Room call room) × (room ≡ left_after Room call room)
  unfolding analysis_by analysing
  refused_delivers r e = go (decided cs) refl e
    where
      go : (a : Result Unit Refusal) → decided cs ≡ a → analysis_by a policy tasks ≡ Err r → (Err r ≡ answered Room call room) × (room ≡ left_after Room call room)
      go (Ok tt) d e = cc
      go (Err q) d e = let same : q ≡ r = cc in let t = by_checks Room call room r (one_applies cs r (d ∙ ap Err same)) in (sym t.answer, sym t.unchanged)

module _ (s : TaskSet) (room : List ℕ) where
  pub set_delivers : (x : Analysis) → set_analysis s ≡ Ok x → (delivered_decision x room ≡ set_decision s room) × (delivered x room ≡ set_left s room)
  unfolding set_analysis set_decision set_left set_analysing admission
  set_delivers x e = admitted_delivers (list_checks s.policy s.task_count (records_of s)) s.policy (map task_in (records_of s)) room x e

  pub set_turned_away : (why : Refusal) → set_analysis s ≡ Err why → (Err why ≡ set_decision s room) × (room ≡ set_left s room)
  unfolding set_analysis set_decision set_left set_analysing admission
  set_turned_away why e = refused_delivers (list_checks s.policy s.task_count (records_of s)) s.policy (map task_in (records_of s)) room why e

module _ (s room : List ℕ) where
  pub sheet_delivers : (x : Analysis) → sheet_analysis s ≡ Ok x → (delivered_decision x room ≡ sheet_decision s room) × (delivered x room ≡ sheet_left s room)
  unfolding sheet_analysis sheet_decision sheet_left sheet_analysing
  sheet_delivers x e = admitted_delivers (sheet_checks s) (policy_of s) (tasks_of s) room x e

  pub sheet_turned_away : (why : Refusal) → sheet_analysis s ≡ Err why → (Err why ≡ sheet_decision s room) × (room ≡ sheet_left s room)
  unfolding sheet_analysis sheet_decision sheet_left sheet_analysing
  sheet_turned_away why e = refused_delivers (sheet_checks s) (policy_of s) (tasks_of s) room why e
