-- What a report's first line says is so, and each task's line holds its worst times.
use Rattle.std.specs.Prelude.{None, Ok, Err, Option, Result, Some}
use mathlib.Core.Bool.{Bool, true, false}
use mathlib.Core.List.{List, [], ◌∷◌, ◌++◌, append-nil}
use mathlib.Core.Logic.{◌⊎◌, inl, inr}
use mathlib.Core.Path.{◌≡◌, refl, sym, ap, ap₂, ◌∙◌, subst}
use Prim.Native.Nat.{ℕ, zero, suc, ◌+◌, ◌^◌, ◌≤◌, ◌<◌}
use native.Mathlib.Omega.{arith}
use lib.ListN.{length, take}
use lib.Seq.{take_at, drop_at}
use Rattle.theory.specs.Tasks.{Task, task_at, frame_count, shortest_deadline}
use Rattle.theory.specs.Analysis.{lower, blocking, passes}
use Rattle.lent.specs.Lent.{laid}
use Rattle.lent.proofs.Laid.{take_laid, laid_length}
use Rattle.sheet.specs.Refusals.{number_of}
use Rattle.sheet.specs.Reading.{policy_of, tasks_of}
use Rattle.sheet.specs.declared.Refusal.{Refusal}
use Rattle.order.specs.Order.{priority_order, ordered_set}
use Rattle.order.proofs.Order.{order_permutes}
use Rattle.order.proofs.Laws.{ordered_at}
use Rattle.analysis.specs.Times.{number_at, outcome_of, times_from, times_of}
use Rattle.analysis.specs.Runs.{place}
use Rattle.analysis.specs.declared.Verdict.{Verdict}
use Rattle.analysis.specs.declared.Verdict.TheVariants.{Holds, Missed}
use Rattle.analysis.proofs.Entries.{few}
use Rattle.analysis.proofs.Numbering.{place_back}
use Rattle.analysis.proofs.Numbering.{number_in as number_below}
use Rattle.analysis.proofs.TimesAt.{length_times}
use Rattle.analysis.proofs.Promises.{holds_then_passes, missed_names, times_of_place}
use Rattle.report_text.specs.Words.{holds_word, missed_word, refused_word, decimal, line}
use Rattle.report_text.specs.Report.{blocker_word, first_line, time_words, task_line, task_lines, report}
use Rattle.report_text.specs.Text.{text_of}
use Rattle.report_text.proofs.Reported.{report_fits}
use Rattle.signed.specs.Claims.{missed, refused, said, in_numbers, WorstTime, Signed}
use Rattle.signed.specs.Reports.{words_in, blocker_in, said_in, task_words, TimedWords, MissedWords, WordsUpTo, lines, Lines, text_in, ReportSigned, ReportLeft}
use Rattle.signed.proofs.Words.{Plain, AllPlain, words_of_line, decimal_plain, decimal_no_dash, number_read}
use Rattle.signed.proofs.Numbers.{refusal_range, Twelve}
use Rattle.signed.proofs.Times.{worst_time, some_miss}
use Rattle.signed.proofs.Promised.{laid_signed}
use Rattle.signed.proofs.Entries.{Sound, Reported, no_report, is_reported, report_entry, Printed, no_room, is_printed}

-- the text that a report has
pub text_back : (l : List ℕ) → text_in (text_of l) ≡ l
unfolding text_in text_of
text_back l = take_at l _ (length l) refl

-- ---- the first line

-- its words
unfoldable first_words : Result Verdict Refusal → ℕ → List (List ℕ)
first_words (Ok Holds) n = holds_word ∷ decimal n ∷ []
first_words (Ok (Missed i b)) n = missed_word ∷ decimal n ∷ decimal i ∷ blocker_word b ∷ []
first_words (Err r) n = refused_word ∷ decimal (number_of r) ∷ []

line_of_words : (o : Result Verdict Refusal) (n : ℕ) → first_line o n ≡ line (first_words o n)
unfolding first_line first_words
line_of_words (Ok Holds) n = refl
line_of_words (Ok (Missed i b)) n = refl
line_of_words (Err r) n = refl

blocker_plain : (b : Option ℕ) → Plain (blocker_word b)
unfolding blocker_word
blocker_plain (Some q) = decimal_plain q
blocker_plain None = unfold Plain in (refl, refl, tt)

plain_words : (Plain holds_word) × (Plain missed_word) × (Plain refused_word)
unfolding Plain
plain_words = (
  (refl, refl, (refl, refl, (refl, refl, (refl, refl, (refl, refl, tt))))),
  (refl, refl, (refl, refl, (refl, refl, (refl, refl, (refl, refl, (refl, refl, tt)))))),
  (refl, refl, (refl, refl, (refl, refl, (refl, refl, (refl, refl, (refl, refl, (refl, refl, tt))))))),
)

words_back : (o : Result Verdict Refusal) (n : ℕ) (rest : List ℕ) → words_in (first_line o n ++ rest) ≡ first_words o n
unfolding first_line first_words AllPlain
words_back (Ok Holds) n rest = words_of_line holds_word (decimal n ∷ []) rest (plain_words.0, (decimal_plain n, tt))
words_back (Ok (Missed i b)) n rest =
    words_of_line missed_word (decimal n ∷ decimal i ∷ blocker_word b ∷ []) rest (plain_words.1, (decimal_plain n, (decimal_plain i, (blocker_plain b, tt))))
words_back (Err r) n rest = words_of_line refused_word (decimal (number_of r) ∷ []) rest (plain_words.2, (decimal_plain (number_of r), tt))

-- its numbers are small
unfoldable Small : Result Verdict Refusal → Type 0
Small (Ok Holds) = Unit {0}
Small (Ok (Missed i b)) = (i < 10 ^ 10) × ((q : ℕ) → b ≡ Some q → q < 10 ^ 10)
Small (Err r) = Unit {0}

blocker_read : (b : Option ℕ) → ((q : ℕ) → b ≡ Some q → q < 10 ^ 10) → blocker_in (blocker_word b) ≡ b
unfolding blocker_in blocker_word
blocker_read (Some q) h = rw (decimal_no_dash q) (ap Some (number_read q (h q refl)))
blocker_read None h = refl

said_back : (o : Result Verdict Refusal) (n : ℕ) → Small o → said_in (first_words o n) ≡ said o
unfolding said_in first_words said Small
said_back (Ok Holds) n h = refl
said_back (Ok (Missed i b)) n h = ap₂ missed (number_read i h.0) (blocker_read b h.1)
said_back (Err r) n h = ap refused (number_read (number_of r) (omega (arith, refusal_range r)))

-- ---- the lines of the tasks

module _ (policy : ℕ) (tasks : List Task) (sound : Sound policy tasks) where
  abbrev set : List Task
  set = ordered_set policy tasks

  abbrev order : List ℕ
  order = priority_order policy tasks

  eight : (i : ℕ) → frame_count (task_at tasks i) ≤ 8
  eight = few tasks sound.carried.counted

  words : ℕ → List (List ℕ)
  words q = task_words policy tasks q ++ time_words (passes set q) (times_from set q 0 (frame_count (task_at set q)))

  module _ (q : ℕ) (hq : q < length tasks) where
    inside : number_at order q < length tasks
    inside = number_below (length tasks) order (order_permutes policy tasks) q hq

    here : place policy tasks (number_at order q) ≡ q
    unfolding place
    here = place_back (length tasks) order (order_permutes policy tasks) q hq

    same : task_at set q ≡ task_at tasks (number_at order q)
    unfolding number_at
    same = ordered_at policy tasks q hq

    line_same : task_line order set q ≡ line (words q)
    unfolding task_line words task_words
    line_same =
        ap (λ (t : Task). line (decimal (number_at order q) ∷ decimal t.period ∷ decimal (shortest_deadline t) ∷ decimal (blocking (lower set q)) ∷ time_words (passes set q) (times_from set q 0 (frame_count (task_at set q))))) same

    timed : passes set q ≡ true → TimedWords policy tasks q (words q)
    unfolding words time_words
    timed pass =
        let count : length (times_from set q 0 (frame_count (task_at set q))) ≡ frame_count (task_at set q) = length_times set q 0 (frame_count (task_at set q)) in
        record {
          times = times_from set q 0 (frame_count (task_at set q));
          one_each = count ∙ ap frame_count same;
          worst = λ k h.
              subst (λ (t : ℕ). WorstTime policy tasks (number_at order q) k t)
              (sym (times_of_place policy tasks sound.admitted eight q hq pass k (rw count at h)))
              (worst_time policy tasks sound.admitted eight (number_at order q) inside (ap (passes set) here ∙ pass) k (rw (count ∙ ap frame_count same) at h));
          are = ap (λ (b : Bool). task_words policy tasks q ++ time_words b (times_from set q 0 (frame_count (task_at set q)))) pass;
        }

    untimed : passes set q ≡ false → MissedWords policy tasks q (words q)
    unfolding words time_words
    untimed fails =
        record {
          misses = some_miss policy tasks sound.admitted eight (number_at order q) inside (ap (passes set) here ∙ fails);
          are = ap (λ (b : Bool). task_words policy tasks q ++ time_words b (times_from set q 0 (frame_count (task_at set q)))) fails;
        }

    either : TimedWords policy tasks q (words q) ⊎ MissedWords policy tasks q (words q)
    either = go (passes set q) refl
      where
        go : (b : Bool) → passes set q ≡ b → TimedWords policy tasks q (words q) ⊎ MissedWords policy tasks q (words q)
        go true e = inl (timed e)
        go false e = inr (untimed e)

  lines_same : (q n : ℕ) → q + n ≤ length tasks → task_lines order set q n ≡ lines words q n
  unfolding task_lines lines
  lines_same q zero h = refl
  lines_same q (suc n) h = ap₂ ◌++◌ (line_same q (omega arith)) (lines_same (suc q) n (omega arith))

  abbrev text : List ℕ
  text = first_line (Ok (outcome_of policy tasks)) (length tasks) ++ task_lines order set 0 (length tasks)

  text_words : words_in text ≡ first_words (Ok (outcome_of policy tasks)) (length tasks)
  text_words = words_back (Ok (outcome_of policy tasks)) (length tasks) (task_lines order set 0 (length tasks))

  lines_of : (Words : ℕ → List (List ℕ) → Type 0) → ((q : ℕ) → q < length tasks → Words q (words q)) → Lines (length tasks) Words text
  lines_of Words each =
      record {
        words = words;
        whole = ap₂ ◌++◌ (line_of_words (Ok (outcome_of policy tasks)) (length tasks) ∙ ap line (sym text_words)) (lines_same 0 (length tasks) (omega arith));
        each = each;
      }

  -- what the outcome says, with the times laid over themselves
  outcome_so : Signed policy tasks in_numbers (times_of policy tasks) (laid (times_of policy tasks) (times_of policy tasks)) (said (Ok (outcome_of policy tasks)))
  outcome_so = laid_signed policy tasks sound in_numbers (times_of policy tasks) (omega arith)

  small_by : (v : Verdict) (before after : List ℕ) → Signed policy tasks in_numbers before after (said (Ok v)) → Small (Ok v)
  unfolding Signed said Small
  small_by Holds before after s = tt
  small_by (Missed p b) before after s =
      (omega (arith, s.0.in_set, sound.carried.few_tasks), λ q e. omega (arith, s.0.blocker_in_set q e, sound.carried.few_tasks))

  reported_so : (v : Verdict) (before after : List ℕ) → outcome_of policy tasks ≡ v → Signed policy tasks in_numbers before after (said (Ok v))
      → ReportSigned policy tasks text (said (Ok v))
  unfolding Signed ReportSigned said first_words
  reported_so Holds before after e s = (
    s.0,
    text_words ∙ ap (λ (v : Verdict). first_words (Ok v) (length tasks)) e,
    lines_of (TimedWords policy tasks)
        (λ q hq. timed q hq (ap (passes set) (sym (here q hq)) ∙ holds_then_passes policy tasks sound.admitted e (number_at order q) (inside q hq))),
    sound.admitted,
  )
  reported_so (Missed p b) before after e s = (
    s.0,
    text_words ∙ ap (λ (v : Verdict). first_words (Ok v) (length tasks)) e,
    lines_of (WordsUpTo policy tasks p)
        (λ q hq. record { either = either q hq; above = λ h. timed q hq ((missed_names policy tasks sound.admitted p b e).1 q h) }),
    sound.admitted,
  )

  text_said : said_in (words_in text) ≡ said (Ok (outcome_of policy tasks))
  text_said = ap said_in text_words ∙ said_back (Ok (outcome_of policy tasks)) (length tasks) (small_by (outcome_of policy tasks) _ _ outcome_so)

  -- it does not say that it refuses
  pub not_refusing : (c : ℕ) → ¬ (said_in (words_in text) ≡ refused c)
  not_refusing c e = go (outcome_of policy tasks) (sym text_said ∙ e)
    where
      go : (v : Verdict) → ¬ (said (Ok v) ≡ refused c)
      go Holds q = unfold said in cc
      go (Missed p b) q = unfold said in cc

  text_signed : ReportSigned policy tasks text (said_in (words_in text))
  text_signed = subst (ReportSigned policy tasks text) (sym text_said) (reported_so (outcome_of policy tasks) _ _ refl outcome_so)

-- a line that refuses
module _ (policy : ℕ) (tasks : List Task) (why : Refusal) where
  abbrev refusal_line : List ℕ
  refusal_line = first_line (Err why) (length tasks)

  refusal_words : words_in refusal_line ≡ first_words (Err why) (length tasks)
  refusal_words = ap words_in (sym (append-nil refusal_line)) ∙ words_back (Err why) (length tasks) []

  pub refusing : said_in (words_in refusal_line) ≡ refused (number_of why)
  unfolding said Small
  refusing = ap said_in refusal_words ∙ said_back (Err why) (length tasks) tt

  refusal_signed : Twelve why → ReportSigned policy tasks refusal_line (said_in (words_in refusal_line))
  unfolding ReportSigned first_words
  refusal_signed few =
      subst (ReportSigned policy tasks refusal_line) (sym refusing) ((refusal_range why).0, few, line_of_words (Err why) (length tasks))

pub report_promised : (policy : ℕ) (tasks : List Task) (text : List ℕ) → Reported policy tasks text → ReportSigned policy tasks text (said_in (words_in text))
report_promised policy tasks _ (no_report why few) = refusal_signed policy tasks why few
report_promised policy tasks _ (is_reported sound) = text_signed policy tasks sound

-- the text in lent bytes
pub printed_signed : (sheet before : List ℕ) {answer : Result ℕ Refusal} {after : List ℕ} → Printed sheet before answer after
    → ReportLeft (policy_of sheet) (tasks_of sheet) before after answer
unfolding ReportLeft laid
printed_signed sheet before no_room = (refl, refl)
printed_signed sheet before (is_printed fits) =
    let text : take (length (report sheet)) (laid (report sheet) before) ≡ report sheet = take_laid (report sheet) before in (
      rw text (report_promised (policy_of sheet) (tasks_of sheet) (report sheet) (report_entry sheet)),
      fits,
      laid_length (report sheet) before fits,
      drop_at (report sheet) _ (length (report sheet)) refl,
      report_fits sheet,
    )

-- where bytes were written they are the report
pub printed_text : (sheet before : List ℕ) (n : ℕ) (w : Result ℕ Refusal) {after : List ℕ} → w ≡ Ok n → Printed sheet before w after
    → (n ≡ length (report sheet)) × (take n after ≡ report sheet)
printed_text sheet before n w e no_room = cc
printed_text sheet before n w e (is_printed fits) =
    let count : length (report sheet) ≡ n = cc in
    (sym count, rw (← count) (take_laid (report sheet) before))
