-- What the answers of the converter say of the sheet and of the bytes, from its definition.
use Rattle.std.specs.Prelude.{Err, None, Ok, Option, Result, Some}
use Rattle.sheet.specs.Admission.{decided}
use mathlib.Core.Bool.{Bool, true, false, not, ◌||◌, and-eq-true_iff, true≢false}
use mathlib.Core.List.{List, [], ◌∷◌, ◌++◌}
use mathlib.Core.Logic.{◌↔◌, ◌⊎◌, inl, inr}
use mathlib.Core.Path.{◌≡◌, refl, sym, ap, ap₂, ◌∙◌, subst}
use Prim.Native.Nat.{ℕ, ◌≤◌, ◌<◌}
use native.Mathlib.Decide.{dec_le, dec_lt}
use native.Mathlib.Omega.{arith}
use borrow.Author.Tests.{leb-true, le-leb, lt-ltb, le-ltb}
use lib.Dec.{leb, ltb, lit≤}
use lib.ListN.{length, take, drop}
use lib.Seq.{drop_at}
use Rattle.bits.specs.Packed.{Bytes as IsBytes}
use Rattle.theory.specs.Tasks.{Task}
use Rattle.theory.proofs.Search.{bool_cases}
use Rattle.lent.specs.Checks.{Check, ◌⇒◌, first_refusal}
use Rattle.lent.specs.Lent.{laid, refusal_of}
use Rattle.lent.proofs.Checks.{each_first, applies, passed_over, no_check, none_first, some_first}
use Rattle.lent.proofs.Laid.{take_laid, laid_length}
use Rattle.sheet.specs.Constants.{version_1, version_2}
use Rattle.sheet.specs.Fields.{own_deadlines}
use Rattle.sheet.specs.Reading.{version_among, checks_among, sheet_checks, version_of, policy_of, tasks_of}
use Rattle.sheet.specs.Writing.{one_deadline_each, version_check, deadlines_check}
use Rattle.sheet.specs.declared.Refusal.{Refusal}
use Rattle.sheet.specs.declared.Refusal.TheVariants.{Version, Room, Deadlines}
use Rattle.sheet.proofs.Checks.{none_applies, admits}
use Rattle.sheet.proofs.Refused.{each_among}
use Rattle.sheet.proofs.Records.{tasks_with}
use Rattle.sheet.proofs.Carried.{passed_among, admitted_reading, reading_admits, many_found}
use Rattle.sheet.proofs.RoundTrip.{read_is_writable}
use Rattle.order.specs.Order.{priority_order, ordered_set}
use Rattle.analysis.specs.Times.{outcome_of, times_of}
use Rattle.analysis.specs.Answers.{decision, analysing, sheet_analysing, sheet_decision, sheet_left}
use Rattle.report_text.specs.Report.{first_line, task_lines, report}
use Rattle.converter.specs.Converting.{other_version, converting_checks, conversion, converting, converted, converted_left}
use Rattle.converter.proofs.Outcomes.{same_calls, Convertible}
use Rattle.converter.proofs.ThereAndBack.{other_limits, conversion_is_read, conversion_carries, there_and_back}
use Rattle.signed.specs.Conversions.{SameSet, written_said, Taken, CanHold, ConvertSigned}
use Rattle.signed.proofs.Numbers.{Up, numbered}
use Rattle.signed.proofs.Read.{reading_ok, decided_ok}
use Rattle.signed.proofs.Entries.{Converted, no_conversion, is_converted, convert_entry, converts, convert_said, convert_unchanged, reports}

-- ---- the same set

-- two admitted sheets with the same policy and tasks have the same analysis and the same report
module _ (s t : List ℕ) (a : decided (sheet_checks s) ≡ Ok tt) (b : decided (sheet_checks t) ≡ Ok tt) (p : policy_of s ≡ policy_of t) (ts : tasks_of s ≡ tasks_of t) where
  analysed_alike : (times : List ℕ) → (sheet_decision s times ≡ sheet_decision t times) × (sheet_left s times ≡ sheet_left t times)
  unfolding sheet_decision sheet_left sheet_analysing analysing
  analysed_alike times =
      same_calls Room (sheet_analysing s) (sheet_analysing t) times
      (none_applies (sheet_checks s) a ∙ sym (none_applies (sheet_checks t) b))
      (ap₂ times_of p ts)
      (ap₂ decision p ts)

  reported_alike : report s ≡ report t
  reported_alike = (reports s a).1 ∙ ap₂ told p ts ∙ sym (reports t b).1
    where
      told : ℕ → List Task → List ℕ
      told policy tasks =
          first_line (Ok (outcome_of policy tasks)) (length tasks) ++ task_lines (priority_order policy tasks) (ordered_set policy tasks) 0 (length tasks)

-- ---- versions

-- a version that is between a number and the same number
only : (n v : ℕ) → version_among n n v ≡ true → v ≡ n
only n v e =
    let both = (and-eq-true_iff (leb n v) (leb v n)).0 e in
    omega (arith, leb-true n v both.0, leb-true v n both.1)

itself : (n : ℕ) → version_among n n n ≡ true
itself n = (and-eq-true_iff (leb n n) (leb n n)).1 (le-leb n n (omega arith), le-leb n n (omega arith))

-- the known versions are 1 and 2
known_so : (version : ℕ) → (version ≡ version_1) ⊎ (version ≡ version_2) → version_among version_1 version_2 version ≡ true
known_so version (inl e) = rw e
known_so version (inr e) = rw e

one_of_both : (version : ℕ) → version_among version_1 version_2 version ≡ true → (version ≡ version_1) ⊎ (version ≡ version_2)
one_of_both version e = go (dec_le version 1)
  where
    both : (leb version_1 version ≡ true) × (leb version version_2 ≡ true)
    both = (and-eq-true_iff (leb version_1 version) (leb version version_2)).0 e

    go : Dec (version ≤ 1) → (version ≡ version_1) ⊎ (version ≡ version_2)
    go (yes h) = inl (omega (arith, leb-true version_1 version both.0))
    go (no h) = inr (omega (arith, leb-true version version_2 both.1))

-- so that the other one is known, and the other of it is the first
other_known : (version : ℕ) → (version ≡ version_1) ⊎ (version ≡ version_2) → version_among version_1 version_2 (other_version version) ≡ true
other_known version (inl e) = rw e
other_known version (inr e) = rw e

other_twice : (version : ℕ) → (version ≡ version_1) ⊎ (version ≡ version_2) → other_version (other_version version) ≡ version
other_twice version (inl e) = rw e
other_twice version (inr e) = rw e

-- a version can hold tasks, by the test of the definitions
or_right : (a b : Bool) → b ≡ true → (a || b) ≡ true
or_right true b e = refl
or_right false b e = e

held_so : (version : ℕ) (tasks : List Task) → CanHold version tasks → (own_deadlines version || one_deadline_each tasks) ≡ true
held_so version tasks (inl e) = rw e
held_so version tasks (inr e) = or_right (own_deadlines version) (one_deadline_each tasks) e

holds_so : (version : ℕ) (tasks : List Task) → (version ≡ version_1) ⊎ (version ≡ version_2) → (own_deadlines version || one_deadline_each tasks) ≡ true → CanHold version tasks
holds_so version tasks (inl e) h = inr (subst (λ (v : ℕ). (own_deadlines v || one_deadline_each tasks) ≡ true) e h)
holds_so version tasks (inr e) h = inl e

-- ---- a sheet that is taken

module _ (version : ℕ) (sheet : List ℕ) where
  is_taken : version_among version_1 version_2 version ≡ true → decided (checks_among (other_version version) (other_version version) sheet) ≡ Ok tt → Taken version sheet
  unfolding sheet_checks
  is_taken known a =
      let both = one_of_both version known in
      let other : version_of sheet ≡ other_version version = only (other_version version) (version_of sheet) (passed_among (other_version version) (other_version version) sheet a).version_known in
      record {
        known = both;
        admitted = reading_ok sheet (other_limits (other_version version) (other_version version) version_1 version_2 sheet a (rw other (other_known version both)));
        of_other = other;
      }

  among_so : Taken version sheet → decided (checks_among (other_version version) (other_version version) sheet) ≡ Ok tt
  unfolding sheet_checks
  among_so t = other_limits version_1 version_2 (other_version version) (other_version version) sheet (decided_ok sheet t.admitted) (rw t.of_other (itself (other_version version)))

  can_convert : Taken version sheet → CanHold version (tasks_of sheet) → Convertible version sheet
  can_convert t h = record { known = known_so version t.known; admitted = among_so t; held = held_so version (tasks_of sheet) h }

  takes : Convertible version sheet → Taken version sheet × CanHold version (tasks_of sheet)
  takes c = let t = is_taken c.known c.admitted in (t, holds_so version (tasks_of sheet) t.known c.held)

-- its conversion is the same set, and can be converted back
module _ (version : ℕ) (sheet : List ℕ) (c : Convertible version sheet) where
  taken : Taken version sheet
  taken = (takes version sheet c).0

  admitted : decided (sheet_checks sheet) ≡ Ok tt
  admitted = decided_ok sheet taken.admitted

  given : decided (sheet_checks (conversion version sheet)) ≡ Ok tt
  given = (reading_admits (conversion version sheet) _ (conversion_is_read sheet admitted version c.known c.held)).0

  carried : (version_of (conversion version sheet) ≡ version) × (policy_of (conversion version sheet) ≡ policy_of sheet) × (tasks_of (conversion version sheet) ≡ tasks_of sheet)
  carried = conversion_carries sheet admitted version c.known c.held

  same_set : SameSet version sheet (conversion version sheet)
  same_set =
      let alike = analysed_alike (conversion version sheet) sheet given admitted carried.1 carried.2 in
      record {
        taken = taken.admitted;
        of_other = taken.of_other;
        given = reading_ok (conversion version sheet) given;
        of_this = carried.0;
        same_policy = carried.1;
        same_tasks = carried.2;
        same_decision = λ times. (alike times).0;
        same_times = λ times. (alike times).1;
        same_report = reported_alike (conversion version sheet) sheet given admitted carried.1 carried.2;
        back = λ byte. rw taken.of_other at (there_and_back sheet admitted version c.known c.held byte);
      }

  back_again : Convertible (other_version version) (conversion version sheet)
  unfolding sheet_checks
  back_again =
      let holds : (own_deadlines (version_of sheet) || one_deadline_each (tasks_of sheet)) ≡ true =
      rw (tasks_with (policy_of sheet) (tasks_of sheet) (many_found sheet)) at (read_is_writable sheet _ (admitted_reading sheet admitted)).held in
      record {
        known = other_known version taken.known;
        admitted =
            rw (other_twice version taken.known)
            (other_limits version_1 version_2 version version (conversion version sheet) given (rw carried.0 (itself version)));
        held = rw carried.2 (rw taken.of_other at holds);
      }

-- ---- which way a call goes

-- by the first of its order, with what that says of the sheet
data Way (version : ℕ) (sheet before : List ℕ) : Option Refusal → Type 0 where
  own_refusal : (r : Refusal) → Up 11 r → ¬ Taken version sheet → Way version sheet before (Some r)
  not_held : Taken version sheet → ¬ CanHold version (tasks_of sheet) → Way version sheet before (Some Deadlines)
  short : Convertible version sheet → length before < length (conversion version sheet) → Way version sheet before (Some Room)
  long : Convertible version sheet → length (conversion version sheet) ≤ length before → Way version sheet before None

module _ (version : ℕ) (sheet before : List ℕ) where
  abbrev own_row : List (Check Refusal)
  own_row = checks_among (other_version version) (other_version version) sheet

  abbrev held_row : List (Check Refusal)
  held_row = deadlines_check version (tasks_of sheet) ∷ []

  abbrev room_row : List (Check Refusal)
  room_row = (ltb (length before) (length (conversion version sheet)) ⇒ Room) ∷ []

  abbrev its_held : Bool
  its_held = own_deadlines version || one_deadline_each (tasks_of sheet)

  abbrev Goes : Type 0
  Goes = Way version sheet before (refusal_of Room (converting version sheet) before)

  module _ (known : version_among version_1 version_2 version ≡ true) where
    behind_version : refusal_of Room (converting version sheet) before ≡ first_refusal ((own_row ++ held_row) ++ room_row)
    unfolding refusal_of converting converting_checks version_check
    behind_version = passed_over _ _ _ (ap not known)

    turned_own : (r : Refusal) → first_refusal own_row ≡ Some r → Goes
    turned_own r e =
        rw (behind_version ∙ some_first (own_row ++ held_row) room_row r (some_first own_row held_row r e))
        (own_refusal r (each_first (Up 11) own_row (each_among _ _ sheet (numbered 11 (lit≤ tt) (tasks_of sheet))) r e) not_taken)
      where
        not_taken : ¬ Taken version sheet
        not_taken t =
            let passed : first_refusal own_row ≡ None = none_applies own_row (among_so version sheet t) in
            let clash : None ≡ Some r = sym passed ∙ e in
            cc

    module _ (e : first_refusal own_row ≡ None) where
      own_admitted : decided own_row ≡ Ok tt
      own_admitted = admits own_row e

      turned_held : its_held ≡ false → Goes
      unfolding deadlines_check
      turned_held f =
          rw (behind_version ∙ some_first (own_row ++ held_row) room_row Deadlines (none_first own_row held_row e ∙ applies _ Deadlines [] (ap not f)))
          (not_held (is_taken version sheet known own_admitted) (λ h. true≢false (sym (held_so version (tasks_of sheet) h) ∙ f)))

      by_room : its_held ≡ true → Dec (length before < length (conversion version sheet)) → Goes
      unfolding deadlines_check
      by_room held short_or_long = go short_or_long
        where
          its_own : Convertible version sheet
          its_own = record { known = known; admitted = own_admitted; held = held }

          behind_all : refusal_of Room (converting version sheet) before ≡ first_refusal room_row
          behind_all =
              behind_version ∙ none_first (own_row ++ held_row) room_row (none_first own_row held_row e ∙ passed_over _ Deadlines [] (ap not held) ∙ no_check)

          go : Dec (length before < length (conversion version sheet)) → Goes
          go (yes h) = rw (behind_all ∙ applies _ Room [] (lt-ltb (length before) (length (conversion version sheet)) h)) (short its_own h)
          go (no h) =
              rw (behind_all ∙ passed_over _ Room [] (le-ltb (length before) (length (conversion version sheet)) (omega arith)) ∙ no_check)
              (long its_own (omega arith))

      by_deadlines : (its_held ≡ true) ⊎ (its_held ≡ false) → Goes
      by_deadlines (inl h) = by_room h (dec_lt (length before) (length (conversion version sheet)))
      by_deadlines (inr h) = turned_held h

    by_sheet : (o : Option Refusal) → first_refusal own_row ≡ o → Goes
    by_sheet (Some r) e = turned_own r e
    by_sheet None e = by_deadlines e (bool_cases its_held)

  by_version : (version_among version_1 version_2 version ≡ true) ⊎ (version_among version_1 version_2 version ≡ false) → Goes
  unfolding refusal_of converting converting_checks version_check
  by_version (inl known) = by_sheet known (first_refusal own_row) refl
  by_version (inr f) =
      rw (applies _ Version _ (ap not f))
      (own_refusal Version (lit≤ tt) (λ t. true≢false (sym (known_so version t.known) ∙ f)))

  way : Goes
  way = by_version (bool_cases (version_among version_1 version_2 version))

  -- 17 and 12, each exactly where it is so
  seventeen : (o : Option Refusal) → Way version sheet before o → (o ≡ Some Deadlines) ↔ (Taken version sheet × ¬ CanHold version (tasks_of sheet))
  seventeen _ (own_refusal r own not_taken) =
      (λ e. let same : r ≡ Deadlines = cc in let z : ⊥ = omega (arith, subst (Up 11) same own) in absurd z, λ h. absurd (not_taken h.0))
  seventeen _ (not_held t h) = (λ _. (t, h), λ _. refl)
  seventeen _ (short c l) = (λ e. cc, λ h. absurd (h.1 (takes version sheet c).1))
  seventeen _ (long c l) = (λ e. cc, λ h. absurd (h.1 (takes version sheet c).1))

  twelve : (o : Option Refusal) → Way version sheet before o
      → (o ≡ Some Room) ↔ (Taken version sheet × CanHold version (tasks_of sheet) × (length before < length (conversion version sheet)))
  twelve _ (own_refusal r own not_taken) =
      (λ e. let same : r ≡ Room = cc in let z : ⊥ = omega (arith, subst (Up 11) same own) in absurd z, λ h. absurd (not_taken h.0))
  twelve _ (not_held t h) = (λ e. cc, λ q. absurd (h q.1))
  twelve _ (short c l) = (λ _. let t = takes version sheet c in (t.0, t.1, l), λ _. refl)
  twelve _ (long c l) = (λ e. cc, λ q. let z : ⊥ = omega (arith, q.2) in absurd z)

-- ---- what the answer says, and the bytes

module _ (version : ℕ) (sheet before : List ℕ) where
  abbrev View : Result ℕ Refusal → List ℕ → Type 0
  View = Converted version sheet before

  set_in : (n : ℕ) (answer : Result ℕ Refusal) (after : List ℕ) → answer ≡ Ok n → View answer after → (take n after ≡ conversion version sheet) × SameSet version sheet (take n after)
  set_in n answer after e (no_conversion why) = cc
  set_in n answer after e (is_converted c fits) =
      let count : length (conversion version sheet) ≡ n = cc in
      let bytes : take n (laid (conversion version sheet) before) ≡ conversion version sheet = rw (← count) (take_laid (conversion version sheet) before) in
      (bytes, rw bytes (same_set version sheet c))

  bytes_said : (n : ℕ) (answer : Result ℕ Refusal) (after : List ℕ) → answer ≡ Ok n → View answer after
      → Taken version sheet × CanHold version (tasks_of sheet) × (length (conversion version sheet) ≡ n) × (n ≤ length before)
  bytes_said n answer after e (no_conversion why) = cc
  bytes_said n answer after e (is_converted c fits) =
      let count : length (conversion version sheet) ≡ n = cc in
      let t = takes version sheet c in
      (t.0, t.1, count, rw (← count) fits)

  long_as_before : (answer : Result ℕ Refusal) (after : List ℕ) → View answer after → length after ≡ length before
  long_as_before _ _ (no_conversion why) = refl
  long_as_before _ _ (is_converted c fits) = laid_length (conversion version sheet) before fits

  behind : (answer : Result ℕ Refusal) (after : List ℕ) → View answer after → drop (written_said answer) after ≡ drop (written_said answer) before
  unfolding written_said laid
  behind _ _ (no_conversion why) = refl
  behind _ _ (is_converted c fits) = drop_at (conversion version sheet) _ (length (conversion version sheet)) refl

  wrote : (n : ℕ) → (converted version sheet before ≡ Ok n)
      ↔ (Taken version sheet × CanHold version (tasks_of sheet) × (length (conversion version sheet) ≡ n) × (n ≤ length before))
  wrote n = (
    λ e. bytes_said n _ _ e (convert_entry version sheet before),
    λ (t, h, count, fits). (converts version sheet before (can_convert version sheet t h) (omega (arith, count, fits))).0 ∙ ap Ok count,
  )

  exactly : {X : Type 0} (why : Refusal) → ((refusal_of Room (converting version sheet) before ≡ Some why) ↔ X) → (converted version sheet before ≡ Err why) ↔ X
  exactly why both = let said = convert_said version sheet before why in (λ e. both.0 (said.0 e), λ x. said.1 (both.1 x))

  pub signed_so : ConvertSigned version sheet before (converted version sheet before) (converted_left version sheet before)
  signed_so =
      let view = convert_entry version sheet before in
      record {
        turned = convert_said version sheet before;
        seventeen = exactly Deadlines (seventeen version sheet before _ (way version sheet before));
        no_room = exactly Room (twelve version sheet before _ (way version sheet before));
        written = wrote;
        converts = λ n e. set_in n _ _ e view;
        unchanged = λ why e. convert_unchanged why version sheet before e;
        same_length = long_as_before _ _ view;
        same_behind = behind _ _ view;
      }

  -- there and back: the conversion of what was written
  pub there_again : (n : ℕ) (room : List ℕ) → IsBytes sheet → converted version sheet before ≡ Ok n → length sheet ≤ length room
      → let bytes = take n (converted_left version sheet before) in
      (converted (other_version version) bytes room ≡ Ok (length sheet)) × (converted_left (other_version version) bytes room ≡ laid sheet room)
  there_again n room byte e fits =
      let (t, h, _, _) = (wrote n).0 e in
      let c = can_convert version sheet t h in
      let bytes = (set_in n _ _ e (convert_entry version sheet before)).0 in
      let same : conversion (other_version version) (conversion version sheet) ≡ sheet = (same_set version sheet c).back byte in
      let (said, left) = converts (other_version version) (conversion version sheet) room (back_again version sheet c) (rw same fits) in (
        ap (λ (s : List ℕ). converted (other_version version) s room) bytes ∙ said ∙ ap (λ (s : List ℕ). Ok (length s)) same,
        ap (λ (s : List ℕ). converted_left (other_version version) s room) bytes ∙ left ∙ ap (λ (s : List ℕ). laid s room) same,
      )
