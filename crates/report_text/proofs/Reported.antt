-- What is printed for a byte string is its report: the lines printed from what the analysis finds are those of the definition.
use Rattle.std.proofs.Common.{Bool, true, false, not, ◌&&◌, List, [], ◌∷◌, ◌++◌, ◌≡◌, ℕ, zero, suc, ◌+◌, ◌*◌, ◌≤◌, ◌<◌, length, take, length-append, length-take, append-nil, arith, refl, sym, ap, ap₂, ◌∙◌, Result, Ok, Err}
use Rattle.std.specs.List.{flat_map, All}
use Rattle.std.proofs.lemmas.List.{length-take-le}
use Prim.Native.Nat.{zero-le}
use native.Mathlib.Nat.{le_refl}
use borrow.Author.Tests.{lt-leb}
use lib.Dec.{leb}
use lib.Seq.{take_at}
use Rattle.theory.specs.Tasks.{Task, task_at, frame_count}
use Rattle.theory.specs.Analysis.{passes}
use Rattle.sheet.specs.Constants.{most_tasks, least_size, greatest_size}
use Rattle.sheet.specs.Admission.{decided}
use Rattle.sheet.specs.Reading.{checks_among, sheet_checks, policy_of, tasks_of}
use Rattle.sheet.specs.declared.Refusal.{Refusal}
use Rattle.sheet.specs.declared.Refusal.TheVariants.{Length}
use Rattle.sheet.proofs.Checks.{applies}
use Rattle.sheet.proofs.Carried.{Carried, by_reading}
use Rattle.order.specs.Order.{priority_order, ordered_set}
use Rattle.order.proofs.Order.{order_permutes}
use Rattle.order.proofs.Laws.{ordered_length}
use Rattle.analysis.specs.Times.{number_at, outcome_of, times_from, slots_by, slots_found}
use Rattle.analysis.specs.Findings.{finding_at, findings_from, findings_of}
use Rattle.analysis.specs.Answers.{outcome_by, analysed, analysis_by, sheet_analysis}
use Rattle.analysis.specs.declared.Analysis.{Analysis}
use Rattle.analysis.specs.declared.Finding.{Finding}
use Rattle.analysis.proofs.Entries.{small_ordered}
use Rattle.analysis.proofs.TimesAt.{length_times}
use Rattle.report_text.specs.Report.{first_line, time_words, task_line, task_lines, lines_behind, report}
use Rattle.report_text.specs.Text.{room}
use Rattle.report_text.specs.Inside.Lines.{found_words, finding_line, Printable, line_room}
use Rattle.report_text.proofs.Lines.{first_line_length, line_length}

-- ---- the line of a place

-- of the eight slots those with a frame are printed
words_same : (b : Bool) (times : List ℕ) (n : ℕ) → length times ≡ n → found_words (slots_by b times) n ≡ time_words b times
unfolding found_words time_words slots_by
words_same true times n e = ap (time_words true) (take_at times _ n e)
words_same false times n e = refl

line_same : (order : List ℕ) (set : List Task) (p : ℕ) → finding_line (finding_at order set p) ≡ task_line order set p
unfolding finding_line finding_at task_line slots_found
line_same order set p =
    rw (words_same (passes set p) (times_from set p 0 (frame_count (task_at set p))) (frame_count (task_at set p)) (length_times set p 0 (frame_count (task_at set p))))

-- ---- the lines of n places

lines_same : (order : List ℕ) (set : List Task) (p n : ℕ) → flat_map finding_line (findings_from order set p n) ≡ task_lines order set p n
unfolding findings_from task_lines
lines_same order set p zero = refl
lines_same order set p (suc n) = ap₂ (λ (l m : List ℕ). l ++ m) (line_same order set p) (lines_same order set (suc p) n)

from_length : (order : List ℕ) (set : List Task) (p n : ℕ) → length (findings_from order set p n) ≡ n
unfolding findings_from
from_length order set p zero = refl
from_length order set p (suc n) = ap suc (from_length order set (suc p) n)

from_prints : (order : List ℕ) (set : List Task) (p n : ℕ) → ((q : ℕ) → q < p + n → Printable (finding_at order set q)) → All Printable (findings_from order set p n)
unfolding findings_from
from_prints order set p zero each k d h = let z : ⊥ = omega arith in absurd z
from_prints order set p (suc n) each zero d h = each p (omega arith)
from_prints order set p (suc n) each (suc k) d h = from_prints order set (suc p) n (λ q l. each q (omega arith)) k d (omega arith)

-- ---- tasks that were analysed

-- what the findings in use say is the report's
pub record Reported (a : Analysis) (text : List ℕ) : Type 0 where
  pub few_tasks : a.task_count ≤ most_tasks
  pub prints : All Printable (take a.task_count a.findings)
  pub says : first_line (Ok a.verdict) a.task_count ++ flat_map finding_line (take a.task_count a.findings) ≡ text

module _ (policy : ℕ) (tasks : List Task) (c : Carried policy tasks) where
  abbrev order : List ℕ
  order = priority_order policy tasks

  abbrev set : List Task
  set = ordered_set policy tasks

  place_prints : (q : ℕ) → q < length tasks → Printable (finding_at order set q)
  unfolding finding_at number_at
  place_prints q h =
      record {
        known_number = omega (arith, (order_permutes policy tasks).each_place q h, c.few_tasks);
        few_frames = small_ordered policy tasks c.counted q;
      }

  in_use : take (length tasks) (findings_of order set) ≡ findings_from order set 0 (length tasks)
  unfolding findings_of
  in_use = rw (ordered_length policy tasks) (take_at (findings_from order set 0 (length tasks)) _ (length tasks) (from_length order set 0 (length tasks)))

  analysed_reported : Reported (analysed policy tasks) (first_line (Ok (outcome_of policy tasks)) (length tasks) ++ task_lines order set 0 (length tasks))
  unfolding analysed
  analysed_reported =
      record {
        few_tasks = c.few_tasks;
        prints = rw in_use (from_prints order set 0 (length tasks) (λ q h. place_prints q (omega arith)));
        says = rw (in_use, lines_same);
      }

-- ---- a byte string

module _ (s : List ℕ) where
  abbrev policy : ℕ
  policy = policy_of s

  abbrev tasks : List Task
  tasks = tasks_of s

  reported_by : (d : Result Unit Refusal) → decided (sheet_checks s) ≡ d → (a : Analysis) → analysis_by d policy tasks ≡ Ok a
      → Reported a (first_line (outcome_by d policy tasks) (length tasks) ++ lines_behind (outcome_by d policy tasks) policy tasks)
  unfolding analysis_by outcome_by lines_behind
  reported_by (Ok tt) e a q =
      let same : analysed policy tasks ≡ a = cc in
      rw (← same) (analysed_reported policy tasks (by_reading s e))
  reported_by (Err r) e a q = let z : ◌≡◌ {A = ℕ} 0 1 = cc in let z : ⊥ = omega arith in absurd z

  -- what is printed of an analysed sheet
  pub reported : (a : Analysis) → sheet_analysis s ≡ Ok a → Reported a (report s)
  unfolding sheet_analysis report
  reported a e = reported_by (decided (sheet_checks s)) refl a e

  refused_by : (d : Result Unit Refusal) (r : Refusal) → analysis_by d policy tasks ≡ Err r
      → first_line (Err r) 0 ≡ first_line (outcome_by d policy tasks) (length tasks) ++ lines_behind (outcome_by d policy tasks) policy tasks
  unfolding analysis_by outcome_by first_line lines_behind
  refused_by (Ok tt) r q = let z : ◌≡◌ {A = ℕ} 0 1 = cc in let z : ⊥ = omega arith in absurd z
  refused_by (Err why) r q = let same : r ≡ why = cc in rw same (sym (append-nil _))

  -- and of a refused one
  pub refused : (r : Refusal) → sheet_analysis s ≡ Err r → first_line (Err r) 0 ≡ report s
  unfolding sheet_analysis report
  refused r e = refused_by (decided (sheet_checks s)) r e

  lines_fit : (fs : List Finding) → All Printable fs → length (flat_map finding_line fs) ≤ line_room * length fs
  lines_fit [] each = zero-le
  lines_fit (f ∷ fs) each =
      rw (length-append (finding_line f) (flat_map finding_line fs))
      (omega (arith, line_length f (each 0 f (omega arith)), lines_fit fs (λ k d h. each (suc k) d (omega arith))))

  fits_by : (x : Result Analysis Refusal) → sheet_analysis s ≡ x → length (report s) ≤ room
  fits_by (Ok a) e =
      let h = reported a e in
      rw (← h.says, length-append)
      (omega (arith, first_line_length (Ok a.verdict) a.task_count, lines_fit (take a.task_count a.findings) h.prints, length-take a.task_count a.findings, h.few_tasks))
  fits_by (Err r) e = rw (← refused r e) (omega (arith, first_line_length (Err r) 0))

  -- A report never needs more than its room.
  pub report_fits : length (report s) ≤ room
  report_fits = fits_by (sheet_analysis s) refl

-- ---- one byte more than the greatest sheet has

length_refused : (s : List ℕ) → greatest_size < length s → decided (sheet_checks s) ≡ Err Length
unfolding sheet_checks checks_among
length_refused s h = applies (not (leb least_size (length s) && leb (length s) greatest_size)) Length _ (go (leb least_size (length s)))
  where
    go : (b : Bool) → not (b && leb (length s) greatest_size) ≡ true
    go true = ap not (lt-leb (length s) greatest_size h)
    go false = refl

too_long : (s : List ℕ) → greatest_size < length s → report s ≡ first_line (Err Length) 0
unfolding report outcome_by first_line lines_behind
too_long s h = rw (length_refused s h) (append-nil _)

-- Of a longer input the first bytes decide, one more than the greatest sheet has.
pub first_bytes_decide : (s : List ℕ) → suc greatest_size ≤ length s → report (take (suc greatest_size) s) ≡ report s
first_bytes_decide s h = too_long (take (suc greatest_size) s) (rw (length-take-le (suc greatest_size) s h) (le_refl _)) ∙ sym (too_long s h)
