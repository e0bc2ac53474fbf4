-- What the writer's answer says: bytes were written exactly where the version is known, the set is admitted, its version can hold it and its sheet has room.
use Rattle.std.specs.Prelude.{Ok}
use Rattle.std.proofs.Common.{◌≡◌, ℕ, ◌≤◌, true, not, ◌||◌, List, map, length, take, ap, ◌∙◌}
use borrow.Author.Tests.{not-false}
use Rattle.lent.specs.Lent.{laid}
use Rattle.lent.proofs.Laid.{take_laid}
use Rattle.lent.proofs.Lent.{Done, Told, turned_away, is_done, told, done}
use Rattle.sheet.specs.Constants.{version_1, version_2}
use Rattle.sheet.specs.Fields.{own_deadlines}
use Rattle.sheet.specs.Tasks.{task_in, records_of}
use Rattle.sheet.specs.Admission.{decided, list_checks, admission}
use Rattle.sheet.specs.Reading.{version_among}
use Rattle.sheet.specs.Writing.{sheet_bytes, version_check, one_deadline_each, deadlines_check, writing_checks, writing, written, left}
use Rattle.sheet.specs.declared.TaskSet.{TaskSet}
use Rattle.sheet.specs.declared.Refusal.TheVariants.{Room}
use Rattle.sheet.proofs.Checks.{none_applies, admits, passed, both_passed, passed_over, admitted_first, no_check}

-- a set that can be written in a version
pub record Writable (version : ℕ) (s : TaskSet) : Type 0 where
  pub known : version_among version_1 version_2 version ≡ true
  pub admitted : admission s ≡ Ok tt
  pub held : (own_deadlines version || one_deadline_each (map task_in (records_of s))) ≡ true

-- an admitted set whose sheet has room is written
pub record IsWritten (version : ℕ) (s : TaskSet) (room : List ℕ) : Type 0 where
  pub writable : Writable version s
  pub fits : length (sheet_bytes version s) ≤ length room
  pub answer : written version s room ≡ Ok (length (sheet_bytes version s))
  pub holds : left version s room ≡ laid (sheet_bytes version s) room

module _ (version : ℕ) (s : TaskSet) where
  pub checks_pass : Writable version s → decided (writing_checks version s.policy s.task_count (records_of s)) ≡ Ok tt
  unfolding writing_checks version_check deadlines_check admission
  checks_pass w =
      let own_checks = list_checks s.policy s.task_count (records_of s) in
      passed_over _ _ _ (ap not w.known) ∙ admitted_first own_checks _ w.admitted ∙ passed_over _ _ _ (ap not w.held) ∙ no_check

  pub passed_checks : decided (writing_checks version s.policy s.task_count (records_of s)) ≡ Ok tt → Writable version s
  unfolding writing_checks version_check deadlines_check admission
  passed_checks e =
      let three = passed _ _ e in
      let both = both_passed (list_checks s.policy s.task_count (records_of s)) _ three.1 in
      let held = passed _ _ both.1 in
      record { known = not-false _ three.0; admitted = both.0; held = not-false _ held.0 }

module _ (version : ℕ) (s : TaskSet) (room : List ℕ) where
  written_so : Done Room (writing version s) room → IsWritten version s room
  unfolding writing written left
  written_so d =
      record {
        writable = passed_checks version s (admits (writing_checks version s.policy s.task_count (records_of s)) d.admitted);
        fits = d.room;
        answer = d.answer;
        holds = d.holds;
      }

  pub is_written : Writable version s → length (sheet_bytes version s) ≤ length room → IsWritten version s room
  unfolding writing
  is_written w h =
      written_so (done Room (writing version s) room (none_applies (writing_checks version s.policy s.task_count (records_of s)) (checks_pass version s w)) h)

  -- an answer of bytes was written, and counts the sheet
  pub bytes_written : (n : ℕ) → written version s room ≡ Ok n → IsWritten version s room × (n ≡ length (sheet_bytes version s))
  unfolding written
  bytes_written n e = go (told Room (writing version s) room)
    where
      go : Told Room (writing version s) room → IsWritten version s room × (n ≡ length (sheet_bytes version s))
      go (is_done d) = let w : IsWritten version s room = written_so d in let a = w.answer in (w, cc)
      go (turned_away r t) = let a = t.answer in cc

  -- the bytes that were written are the sheet
  pub take_left : IsWritten version s room → take (length (sheet_bytes version s)) (left version s room) ≡ sheet_bytes version s
  take_left w = ap (take (length (sheet_bytes version s))) w.holds ∙ take_laid (sheet_bytes version s) room
