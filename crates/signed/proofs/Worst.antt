-- What is signed for the worst run written is so of what it answers and leaves by its definitions.
use Rattle.std.specs.Prelude.{Err, None, Ok, Option, Some, Result}
use mathlib.Core.List.{List, []}
use mathlib.Core.Path.{◌≡◌, refl, sym, ap, ◌∙◌}
use Prim.Native.Nat.{ℕ, suc, ◌≤◌, ◌<◌, zero-le}
use native.Mathlib.Decide.{dec_lt}
use native.Mathlib.Omega.{arith}
use lib.Dec.{lit≤}
use lib.ListN.{length, take, drop}
use Rattle.lent.specs.Checks.{first_refusal}
use Rattle.lent.specs.Lent.{laid, refusal_of, answered}
use Rattle.lent.proofs.Laid.{take_laid, laid_length}
use Rattle.lent.proofs.Lent.{Done, by_checks, by_room, done, each_refusal}
use Rattle.theory.specs.Tasks.{Task, Admitted, task_at, deadline_of}
use Rattle.theory.specs.Analysis.{Verdict, holds, missed, blocker, verdict, FirstWithout}
use Rattle.theory.proofs.Laws.{IsMissed, verdict_missed}
use Rattle.sheet.specs.Admission.{decided}
use Rattle.sheet.specs.Reading.{sheet_checks, policy_of, tasks_of}
use Rattle.sheet.specs.declared.Refusal.{Refusal}
use Rattle.sheet.specs.declared.Refusal.TheVariants.{Room}
use Rattle.sheet.proofs.Checks.{admits}
use Rattle.sheet.proofs.Carried.{Carried, by_reading}
use Rattle.sheet.proofs.Analysable.{admitted_sheet_is_admitted}
use Rattle.order.specs.Order.{priority_order}
use Rattle.analysis.specs.Times.{number_at}
use Rattle.analysis.specs.Misses.{miss_by, miss_in}
use Rattle.analysis.specs.declared.MissedFrame.{MissedFrame}
use Rattle.analysis.proofs.MissedFrames.{miss_names}
use Rattle.plays.specs.WorstScript.{worst_script}
use Rattle.records.proofs.Filling.{length_sealed}
use Rattle.scripts.specs.Writing.{script_bits, script_of}
use Rattle.player.specs.Answers.{order_in, script_for, ended, stops_at, play_end}
use Rattle.player.specs.declared.Played.TheVariants.{Missed}
use Rattle.player.proofs.Turned.{nothing_turns}
use Rattle.player.proofs.Ways.{played_ends}
use Rattle.workbench.specs.Numbers.{worst_number}
use Rattle.workbench.proofs.Small.{NamesBelow, names_more, room_names, sheet_names}
use Rattle.worst.specs.Writing.{worst_bytes, most_bytes, worst_says, writing_by, worst_writing, worst_answer, worst_left}
use Rattle.worst.proofs.Shown.{worst_made, worst_reads_back, worst_kept, worst_is, worst_ends, worst_bytes_few}
use Rattle.signed.specs.Numbers.{worst_by}
use Rattle.signed.specs.WorstRuns.{set_of, script_due, ShowsMiss, bytes_said, WorstSigned}
use Rattle.signed.proofs.Numbers.{worst_back}
use Rattle.signed.proofs.Read.{admitted_is, refused_is, not_for_room, behind_laid}

-- ---- the bytes of an admitted sheet that misses

module _ (s : List ℕ) (checked : first_refusal (sheet_checks s) ≡ None) (p k : ℕ) (e : miss_in (set_of s) ≡ Some (record { place = p; frame = k })) where
  admitted_reading : decided (sheet_checks s) ≡ Ok tt
  admitted_reading = admits (sheet_checks s) checked

  abbrev tasks : List Task
  tasks = tasks_of s

  carried : Carried (policy_of s) tasks
  carried = by_reading s admitted_reading

  sound : Admitted tasks
  sound = admitted_sheet_is_admitted s admitted_reading

  abbrev bytes : List ℕ
  bytes = script_of (worst_script (priority_order (policy_of s) tasks) tasks p k)

  names : IsMissed (set_of s) p (blocker (set_of s) p) × FirstWithout (set_of s) p k
  names = miss_names (set_of s) p k e

  reads : script_for s bytes ≡ worst_script (priority_order (policy_of s) tasks) tasks p k
  unfolding script_for
  reads = worst_reads_back (policy_of s) tasks carried sound p k e

  abbrev D : ℕ
  D = deadline_of (task_at (set_of s) p) k

  ends : play_end s bytes ≡ Missed (suc D) (number_at (order_in s) p)
  unfolding play_end stops_at order_in ended
  ends =
      let it = worst_ends (policy_of s) tasks carried sound p k e in
      rw (reads, it.0, it.1)

  shows : ShowsMiss s bytes
  unfolding order_in
  shows =
      record {
        place = p;
        frame = k;
        named = (verdict_missed (set_of s)).1 names.0;
        first = names.1;
        is_worst = rw reads (worst_is (policy_of s) tasks carried sound p k e);
        plays =
            sym (played_ends s bytes
            (nothing_turns s bytes checked (worst_made (policy_of s) tasks carried sound p k e)
            (rw reads (worst_kept (policy_of s) tasks carried sound p k e))))
            ∙ ap Ok ends;
      }

-- ---- the answers are three

abbrev Answer : Type 0
Answer = Result (Option ℕ) Refusal

hold_not_turned : {why : Refusal} → ◌≡◌ {A = Answer} (Ok None) (Err why) → ⊥
hold_not_turned e = cc

hold_not_written : {n : ℕ} → ◌≡◌ {A = Answer} (Ok None) (Ok (Some n)) → ⊥
hold_not_written e = cc

written_not_turned : {n : ℕ} {why : Refusal} → ◌≡◌ {A = Answer} (Ok (Some n)) (Err why) → ⊥
written_not_turned e = cc

turned_one : {r why : Refusal} → ◌≡◌ {A = Answer} (Err r) (Err why) → r ≡ why
turned_one e = cc

written_one : {m n : ℕ} → ◌≡◌ {A = Answer} (Ok (Some m)) (Ok (Some n)) → m ≡ n
written_one e = cc

-- ---- what the call is

module _ (s : List ℕ) where
  pub checks_for : first_refusal (worst_writing s).checks ≡ first_refusal (sheet_checks s)
  unfolding worst_writing writing_by
  checks_for = refl

  writes_due : (worst_writing s).writes ≡ script_due s
  unfolding worst_writing writing_by
  writes_due = refl

  says_for : {m : Option MissedFrame} → miss_in (set_of s) ≡ m → (worst_writing s).says ≡ worst_says (policy_of s) (tasks_of s) m
  unfolding worst_writing writing_by
  says_for e = ap (worst_says (policy_of s) (tasks_of s)) e

  -- the set holds exactly where no frame is missed
  nothing_holds : (v : Verdict) → verdict (set_of s) ≡ v → miss_in (set_of s) ≡ None → verdict (set_of s) ≡ holds
  unfolding miss_in miss_by
  nothing_holds holds q e = q
  nothing_holds (missed p b) q e = let f : miss_by (set_of s) (missed p b) ≡ None = ap (miss_by (set_of s)) (sym q) ∙ e in cc

  holds_nothing : verdict (set_of s) ≡ holds → miss_in (set_of s) ≡ None
  unfolding miss_in miss_by
  holds_nothing q = ap (miss_by (set_of s)) q

  -- no byte is due then
  none_due : miss_in (set_of s) ≡ None → script_due s ≡ []
  unfolding worst_bytes
  none_due e = ap (worst_bytes (policy_of s) (tasks_of s)) e

  -- a script has a byte, if only those of its check word
  some_due : ¬ (miss_in (set_of s) ≡ None) → 1 ≤ length (script_due s)
  unfolding worst_bytes script_of
  some_due q = go (miss_in (set_of s)) refl
    where
      go : (m : Option MissedFrame) → miss_in (set_of s) ≡ m → 1 ≤ length (script_due s)
      go None e = absurd (q e)
      go (Some m) e =
          rw e (omega (arith, length_sealed (script_bits (worst_script (priority_order (policy_of s) (tasks_of s)) (tasks_of s) m.place m.frame))))

  -- and never more than so many
  pub due_few : first_refusal (sheet_checks s) ≡ None → length (script_due s) ≤ most_bytes
  unfolding worst_bytes
  due_few checked = go (miss_in (set_of s)) refl
    where
      go : (m : Option MissedFrame) → miss_in (set_of s) ≡ m → length (script_due s) ≤ most_bytes
      go None e = rw e zero-le
      go (Some m) e =
          let reads = admits (sheet_checks s) checked in
          rw e (worst_bytes_few (policy_of s) (tasks_of s) (by_reading s reads) (admitted_sheet_is_admitted s reads) m.place m.frame e)

laid_nothing : (memory : List ℕ) → laid [] memory ≡ memory
unfolding laid
laid_nothing memory = refl

module _ (s before : List ℕ) where
  -- the call is turned away by the sheet or for want of room, or it is done, and then the set holds or its miss is shown
  pub data Way : Type 0 where
    refused : (r : Refusal) → first_refusal (sheet_checks s) ≡ Some r → refusal_of Room (worst_writing s) before ≡ Some r → worst_answer s before ≡ Err r
        → worst_left s before ≡ before → Way
    short : first_refusal (sheet_checks s) ≡ None → length before < length (script_due s) → refusal_of Room (worst_writing s) before ≡ Some Room
        → worst_answer s before ≡ Err Room → worst_left s before ≡ before → Way
    all_hold : first_refusal (sheet_checks s) ≡ None → miss_in (set_of s) ≡ None → worst_answer s before ≡ Ok None → worst_left s before ≡ before → Way
    misses : first_refusal (sheet_checks s) ≡ None → ¬ (miss_in (set_of s) ≡ None) → ShowsMiss s (script_due s) → length (script_due s) ≤ length before
        → worst_answer s before ≡ Ok (Some (length (script_due s))) → worst_left s before ≡ laid (script_due s) before → Way

  by_sheet : (r : Refusal) → first_refusal (sheet_checks s) ≡ Some r → Way
  unfolding worst_answer worst_left
  by_sheet r e = let t = by_checks Room (worst_writing s) before r (checks_for s ∙ e) in refused r e t.why t.answer t.unchanged

  for_room : first_refusal (sheet_checks s) ≡ None → length before < length (script_due s) → Way
  unfolding worst_answer worst_left
  for_room e h = let t = by_room Room (worst_writing s) before (checks_for s ∙ e) (rw (writes_due s) h) in short e h t.why t.answer t.unchanged

  is_done : first_refusal (sheet_checks s) ≡ None → length (script_due s) ≤ length before → Way
  unfolding worst_answer worst_left worst_says worst_bytes
  is_done e h = go (miss_in (set_of s)) refl
    where
      d : Done Room (worst_writing s) before
      d = done Room (worst_writing s) before (checks_for s ∙ e) (rw (writes_due s) h)

      left : worst_left s before ≡ laid (script_due s) before
      left = d.holds ∙ ap (λ w. laid w before) (writes_due s)

      go : (m : Option MissedFrame) → miss_in (set_of s) ≡ m → Way
      go None q = all_hold e q (d.answer ∙ ap Ok (says_for s q)) (left ∙ ap (λ w. laid w before) (none_due s q) ∙ laid_nothing before)
      go (Some m) q =
          let due : script_due s ≡ worst_bytes (policy_of s) (tasks_of s) (Some m) = ap (worst_bytes (policy_of s) (tasks_of s)) q in
          misses e (λ n. let f : Some m ≡ None = sym q ∙ n in cc) (rw due (shows s e m.place m.frame q)) h
          (d.answer ∙ ap Ok (says_for s q) ∙ ap (λ w. Ok (Some (length w))) (sym due)) left

  way : Way
  way = go (first_refusal (sheet_checks s)) refl
    where
      roomy : first_refusal (sheet_checks s) ≡ None → Dec (length before < length (script_due s)) → Way
      roomy e (yes h) = for_room e h
      roomy e (no h) = is_done e (omega arith)

      go : (o : Option Refusal) → first_refusal (sheet_checks s) ≡ o → Way
      go None e = roomy e (dec_lt (length before) (length (script_due s)))
      go (Some r) e = by_sheet r e

  -- each answer is given only where it is so

  turned_so : (why : Refusal) → Way → worst_answer s before ≡ Err why → refusal_of Room (worst_writing s) before ≡ Some why
  turned_so why (refused r f w a l) e = w ∙ ap Some (turned_one (sym a ∙ e))
  turned_so why (short f h w a l) e = w ∙ ap Some (turned_one (sym a ∙ e))
  turned_so why (all_hold f n a l) e = absurd (hold_not_turned (sym a ∙ e))
  turned_so why (misses f n m h a l) e = absurd (written_not_turned (sym a ∙ e))

  own_so : (why : Refusal) → Way → worst_answer s before ≡ Err why → ¬ (why ≡ Room) → first_refusal (sheet_checks s) ≡ Some why
  own_so why (refused r f w a l) e o = f ∙ ap Some (turned_one (sym a ∙ e))
  own_so why (short f h w a l) e o = absurd (o (sym (turned_one (sym a ∙ e))))
  own_so why (all_hold f n a l) e o = absurd (hold_not_turned (sym a ∙ e))
  own_so why (misses f n m h a l) e o = absurd (written_not_turned (sym a ∙ e))

  short_so : Way → worst_answer s before ≡ Err Room → (first_refusal (sheet_checks s) ≡ None) × (length before < length (script_due s))
  short_so (refused r f w a l) e = absurd (not_for_room s (f ∙ ap Some (turned_one (sym a ∙ e))))
  short_so (short f h w a l) e = (f, h)
  short_so (all_hold f n a l) e = absurd (hold_not_turned (sym a ∙ e))
  short_so (misses f n m h a l) e = absurd (written_not_turned (sym a ∙ e))

  holds_so : Way → worst_answer s before ≡ Ok None → (first_refusal (sheet_checks s) ≡ None) × (miss_in (set_of s) ≡ None)
  holds_so (refused r f w a l) e = absurd (hold_not_turned (sym e ∙ a))
  holds_so (short f h w a l) e = absurd (hold_not_turned (sym e ∙ a))
  holds_so (all_hold f n a l) e = (f, n)
  holds_so (misses f n m h a l) e = absurd (hold_not_written (sym e ∙ a))

  written_so : (n : ℕ) → Way → worst_answer s before ≡ Ok (Some n)
      → (first_refusal (sheet_checks s) ≡ None) × ¬ (miss_in (set_of s) ≡ None) × (length (script_due s) ≡ n) × (n ≤ length before)
  written_so n (refused r f w a l) e = absurd (written_not_turned (sym e ∙ a))
  written_so n (short f h w a l) e = absurd (written_not_turned (sym e ∙ a))
  written_so n (all_hold f q a l) e = absurd (hold_not_written (sym a ∙ e))
  written_so n (misses f q m h a l) e = let same : length (script_due s) ≡ n = written_one (sym a ∙ e) in (f, q, same, rw (← same) h)

  -- and wherever it is so

  pub turned_back : {r : Refusal} → refusal_of Room (worst_writing s) before ≡ Some r → worst_answer s before ≡ Err r
  unfolding worst_answer answered
  turned_back e = rw (e, answered)

  own_back : {why : Refusal} → first_refusal (sheet_checks s) ≡ Some why → worst_answer s before ≡ Err why
  own_back {why} e = turned_back (by_checks Room (worst_writing s) before why (checks_for s ∙ e)).why

  short_back : first_refusal (sheet_checks s) ≡ None → length before < length (script_due s) → worst_answer s before ≡ Err Room
  short_back f h = turned_back (by_room Room (worst_writing s) before (checks_for s ∙ f) (rw (writes_due s) h)).why

  done_back : first_refusal (sheet_checks s) ≡ None → length (script_due s) ≤ length before → worst_answer s before ≡ Ok (worst_writing s).says
  unfolding worst_answer
  done_back f h = (done Room (worst_writing s) before (checks_for s ∙ f) (rw (writes_due s) h)).answer

  holds_back : first_refusal (sheet_checks s) ≡ None → miss_in (set_of s) ≡ None → worst_answer s before ≡ Ok None
  unfolding worst_says
  holds_back f q = done_back f (omega (arith, ap length (none_due s q))) ∙ ap Ok (says_for s q)

  written_back : (n : ℕ) → first_refusal (sheet_checks s) ≡ None → ¬ (miss_in (set_of s) ≡ None) → length (script_due s) ≡ n → n ≤ length before
      → worst_answer s before ≡ Ok (Some n)
  unfolding worst_says worst_bytes
  written_back n f q same h = go (miss_in (set_of s)) refl
    where
      go : (m : Option MissedFrame) → miss_in (set_of s) ≡ m → worst_answer s before ≡ Ok (Some n)
      go None e = absurd (q e)
      go (Some m) e =
          done_back f (omega arith) ∙ ap Ok (says_for s e) ∙ ap (λ w. Ok (Some (length w))) (sym (ap (worst_bytes (policy_of s) (tasks_of s)) e)) ∙ ap (λ (m : ℕ). Ok (Some m)) same

  -- ---- the bytes

  shown_so : (n : ℕ) → Way → worst_answer s before ≡ Ok (Some n) → (take n (worst_left s before) ≡ script_due s) × ShowsMiss s (take n (worst_left s before))
  shown_so n (refused r f w a l) e = absurd (written_not_turned (sym e ∙ a))
  shown_so n (short f h w a l) e = absurd (written_not_turned (sym e ∙ a))
  shown_so n (all_hold f q a l) e = absurd (hold_not_written (sym a ∙ e))
  shown_so n (misses f q m h a l) e =
      let same : length (script_due s) ≡ n = written_one (sym a ∙ e) in
      let front : take n (worst_left s before) ≡ script_due s =
      ap (take n) l ∙ ap (λ x. take x (laid (script_due s) before)) (sym same) ∙ take_laid (script_due s) before in
      (front, rw front m)

  same_so : Way → ((n : ℕ) → ¬ (worst_answer s before ≡ Ok (Some n))) → worst_left s before ≡ before
  same_so (refused r f w a l) none_written = l
  same_so (short f h w a l) none_written = l
  same_so (all_hold f q a l) none_written = l
  same_so (misses f q m h a l) none_written = absurd (none_written _ a)

  long_so : Way → length (worst_left s before) ≡ length before
  long_so (refused r f w a l) = ap length l
  long_so (short f h w a l) = ap length l
  long_so (all_hold f q a l) = ap length l
  long_so (misses f q m h a l) = ap length l ∙ laid_length (script_due s) before h

  behind_so : Way → drop (bytes_said (worst_answer s before)) (worst_left s before) ≡ drop (bytes_said (worst_answer s before)) before
  unfolding bytes_said
  behind_so (refused r f w a l) = ap (drop (bytes_said (worst_answer s before))) l
  behind_so (short f h w a l) = ap (drop (bytes_said (worst_answer s before))) l
  behind_so (all_hold f q a l) = ap (drop (bytes_said (worst_answer s before))) l
  behind_so (misses f q m h a l) = rw (a, l) (behind_laid (script_due s) before (length (script_due s)) refl)

  pub signed_so : WorstSigned s before (worst_answer s before) (worst_left s before)
  signed_so =
      record {
        turned = λ why. (turned_so why way, turned_back);
        own = λ why. (
          λ (e, o). (refused_is s why).0 (own_so why way e o),
          λ q. let f = (refused_is s why).1 q in (own_back f, λ r. not_for_room s (f ∙ ap Some r)),
        );
        no_room = (λ e. let (f, h) = short_so way e in ((admitted_is s).0 f, h), λ (q, h). short_back ((admitted_is s).1 q) h);
        set_holds = (
          λ e. let (f, n) = holds_so way e in ((admitted_is s).0 f, nothing_holds s (verdict (set_of s)) refl n),
          λ (q, v). holds_back ((admitted_is s).1 q) (holds_nothing s v),
        );
        written = λ n. (
          λ e. let (f, q, same, h) = written_so n way e in ((admitted_is s).0 f, λ v. q (holds_nothing s v), same, h),
          λ (q, v, same, h). written_back n ((admitted_is s).1 q) (λ m. v (nothing_holds s (verdict (set_of s)) refl m)) same h,
        );
        shows = λ n e. shown_so n way e;
        unchanged = same_so way;
        same_length = long_so way;
        same_behind = behind_so way;
      }

  -- the answer comes back from its number
  pub answer_back : worst_by (worst_number (worst_answer s before)) ≡ worst_answer s before
  unfolding worst_writing writing_by
  answer_back =
      worst_back (worst_answer s before)
      (λ n e. let (f, q, same, h) = written_so n way e in rw (← same) (some_due s q))
      (λ why e. names_more (lit≤ tt) (each_refusal Room (worst_writing s) before (NamesBelow 32) (sheet_names s) room_names why (turned_so why way e)))
