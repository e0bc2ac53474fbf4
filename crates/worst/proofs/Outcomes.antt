-- The outcomes of the call: the set holds, no room, written, and a refusal of the sheet.
use Rattle.std.specs.Prelude.{Err, None, Ok, Option, Result, Some}
use mathlib.Core.List.{List, [], map}
use mathlib.Core.Path.{◌≡◌, sym, ap, ◌∙◌}
use Prim.Native.Nat.{ℕ, ◌≤◌, ◌<◌}
use native.Mathlib.Omega.{arith}
use lib.ListN.{length}
use Rattle.theory.specs.Tasks.{Task}
use Rattle.lent.specs.Checks.{first_refusal}
use Rattle.lent.specs.Lent.{Call, laid, refusal_of, answered, left_after}
use Rattle.lent.proofs.Checks.{no_check, none_first}
use Rattle.lent.proofs.Lent.{by_checks, by_room, done, turned_tells, done_tells}
use Rattle.sheet.specs.Admission.{decided, admission}
use Rattle.sheet.specs.Tasks.{task_in, records_of, set_with}
use Rattle.sheet.specs.Reading.{sheet_checks, policy_of, tasks_of}
use Rattle.sheet.specs.declared.TaskSet.{TaskSet}
use Rattle.sheet.specs.declared.Refusal.{Refusal}
use Rattle.sheet.specs.declared.Refusal.TheVariants.{Room}
use Rattle.sheet.proofs.Checks.{none_applies, one_applies}
use Rattle.sheet.proofs.Records.{tasks_with}
use Rattle.sheet.proofs.Carried.{many_found}
use Rattle.admission.specs.declared.Judged.{Judged}
use Rattle.reader.specs.Sheets.{sheet_judged}
use Rattle.order.specs.Order.{priority_order, ordered_set}
use Rattle.analysis.specs.Misses.{miss_in, miss_of, set_miss}
use Rattle.analysis.specs.declared.MissedFrame.{MissedFrame}
use Rattle.analysis.proofs.Entries.{judged_is, refused_is}
use Rattle.plays.specs.WorstScript.{worst_script}
use Rattle.scripts.specs.Writing.{script_of}
use Rattle.worst.specs.Writing.{worst_bytes, worst_says, writing_by, worst_writing, worst_answer, worst_left}
use Rattle.worst.specs.Inside.Steps.{set_writing}

-- what a call is to answer and to leave
abbrev Tells : Result (Option ℕ) Refusal → List ℕ → Call Refusal ℕ (Option ℕ) → List ℕ → Type 0
Tells r left call room = (r ≡ answered Room call room) × (left ≡ left_after Room call room)

module _ (policy : ℕ) (tasks : List Task) (room : List ℕ) where
  abbrev call : Call Refusal ℕ (Option ℕ)
  call = writing_by [] policy tasks

  writes_are : (m : Option MissedFrame) → miss_in (ordered_set policy tasks) ≡ m → call.writes ≡ worst_bytes policy tasks m
  unfolding writing_by
  writes_are m e = ap (worst_bytes policy tasks) e

  says_are : (m : Option MissedFrame) → miss_in (ordered_set policy tasks) ≡ m → call.says ≡ worst_says policy tasks m
  unfolding writing_by
  says_are m e = ap (worst_says policy tasks) e

  no_checks : first_refusal call.checks ≡ None
  unfolding writing_by
  no_checks = no_check

  -- a set that holds is answered so, and nothing is written
  pub set_holds : miss_in (ordered_set policy tasks) ≡ None → Tells (Ok None) room call room
  unfolding worst_bytes worst_says laid
  set_holds e =
      let w : call.writes ≡ [] = writes_are None e in
      let d = done_tells Room call room (done Room call room no_checks (rw w (omega arith))) in
      (sym (ap Ok (says_are None e)) ∙ d.0, sym (ap (λ (l : List ℕ). laid l room) w) ∙ d.1)

  module _ (m : MissedFrame) (e : miss_in (ordered_set policy tasks) ≡ Some m) where
    abbrev bytes : List ℕ
    bytes = script_of (worst_script (priority_order policy tasks) tasks m.place m.frame)

    bytes_are : call.writes ≡ bytes
    unfolding worst_bytes
    bytes_are = writes_are (Some m) e

    -- a script that finds no room is not written
    pub no_room : length room < length bytes → Tells (Err Room) room call room
    no_room h = turned_tells Room call room (by_room Room call room no_checks (rw bytes_are h))

    -- a script that finds room is written, and its size is answered
    pub script_done : length bytes ≤ length room → Tells (Ok (Some (length bytes))) (laid bytes room) call room
    unfolding worst_says worst_bytes
    script_done h =
        let d = done_tells Room call room (done Room call room no_checks (rw bytes_are h)) in
        (sym (ap Ok (says_are (Some m) e)) ∙ d.0, sym (ap (λ (l : List ℕ). laid l room) bytes_are) ∙ d.1)

-- the missed frame of an admitted set
pub set_miss_is : (s : TaskSet) (m : Option MissedFrame) → admission s ≡ Ok tt → m ≡ set_miss s → miss_in (ordered_set s.policy (map task_in (records_of s))) ≡ m
unfolding set_miss miss_of
set_miss_is s m e em = sym (em ∙ ap (λ (a : Result Unit Refusal). miss_of a s.policy (map task_in (records_of s))) e)

-- ---- a sheet

module _ (s room : List ℕ) where
  -- a refusal of the sheet is the answer, and nothing is written
  pub sheet_refused : (why : Refusal) → sheet_judged s ≡ Err why → (Err why ≡ worst_answer s room) × (room ≡ worst_left s room)
  unfolding sheet_judged worst_answer worst_left worst_writing writing_by
  sheet_refused why e =
      let refused = refused_is (decided (sheet_checks s)) (set_with (policy_of s) (tasks_of s)) why e in
      turned_tells Room (worst_writing s) room (by_checks Room (worst_writing s) room why (one_applies (sheet_checks s) why refused))

  abbrev set_call : Call Refusal ℕ (Option ℕ)
  set_call = writing_by [] (policy_of s) (tasks_of s)

  same_refusal : decided (sheet_checks s) ≡ Ok tt → refusal_of Room set_call room ≡ refusal_of Room (worst_writing s) room
  unfolding refusal_of writing_by worst_writing
  same_refusal e = sym (none_first (sheet_checks s) _ (none_applies (sheet_checks s) e))

  -- the call on the set that was read
  call_is : writing_by [] (set_with (policy_of s) (tasks_of s)).policy (map task_in (records_of (set_with (policy_of s) (tasks_of s)))) ≡ set_call
  unfolding set_with
  call_is = ap (writing_by [] (policy_of s)) (tasks_with (policy_of s) (tasks_of s) (many_found s))

  -- an admitted sheet is answered as its set is
  pub sheet_passed : (j : Judged) → sheet_judged s ≡ Ok j → (answered Room (set_writing j.set) room ≡ worst_answer s room) × (left_after Room (set_writing j.set) room ≡ worst_left s room)
  unfolding sheet_judged worst_answer worst_left worst_writing writing_by answered left_after
  sheet_passed j ej =
      let (e, es, _) = judged_is (decided (sheet_checks s)) (set_with (policy_of s) (tasks_of s)) j ej in
      let call = ap (λ (x : TaskSet). writing_by [] x.policy (map task_in (records_of x))) es ∙ call_is in (
        ap (λ (x : Call Refusal ℕ (Option ℕ)). answered Room x room) call ∙ ap (λ (o : Option Refusal). elim o as (λ _. Result (Option ℕ) Refusal) [ None ↦ Ok set_call.says | Some r ↦ Err r ]) (same_refusal e),
        ap (λ (x : Call Refusal ℕ (Option ℕ)). left_after Room x room) call ∙ ap (λ (o : Option Refusal). elim o as (λ _. List ℕ) [ None ↦ laid set_call.writes room | Some r ↦ room ]) (same_refusal e),
      )
