-- The outcomes of the writer: a refusal of its checks, no room, written.
use Rattle.std.specs.Prelude.{Err, Ok}
use mathlib.Core.Bool.{true, false, not, ◌||◌, and-eq-true_iff}
use mathlib.Core.List.{List, map}
use mathlib.Core.Path.{◌≡◌, ap, ◌∙◌}
use Prim.Native.Nat.{ℕ, ◌≤◌, ◌<◌}
use borrow.Author.Tests.{leb-true}
use lib.Dec.{leb}
use lib.ListN.{length}
use Rattle.lent.specs.Lent.{laid}
use Rattle.lent.proofs.Lent.{by_checks, by_room, turned_tells, done_tells}
use Rattle.lent.proofs.Lent.{done as all_done}
use Rattle.sheet.specs.Constants.{version_1, version_2}
use Rattle.sheet.specs.Fields.{own_deadlines}
use Rattle.sheet.specs.Tasks.{task_in, records_of}
use Rattle.sheet.specs.Admission.{decided, list_checks, admission}
use Rattle.sheet.specs.Reading.{version_among}
use Rattle.sheet.specs.Writing.{sheet_bytes, one_deadline_each, version_check, deadlines_check, writing_checks, writing, written, left}
use Rattle.sheet.specs.declared.TaskSet.{TaskSet}
use Rattle.sheet.specs.declared.Refusal.{Refusal}
use Rattle.sheet.specs.declared.Refusal.TheVariants.{Version, Deadlines, Room}
use Rattle.sheet.proofs.Checks.{none_applies, one_applies, applies, passed_over, refused_first, admitted_first}
use Rattle.sheet.proofs.WhatIsWritten.{Writable, checks_pass}

-- a known version is no more than the last
pub version_most : (version : ℕ) → version_among version_1 version_2 version ≡ true → version ≤ version_2
version_most version e = leb-true version version_2 ((and-eq-true_iff (leb version_1 version) (leb version version_2)).0 e).1

module _ (version : ℕ) (s : TaskSet) (room : List ℕ) where
  turned : (r : Refusal) → decided (writing_checks version s.policy s.task_count (records_of s)) ≡ Err r
      → (Err r ≡ written version s room) × (room ≡ left version s room)
  unfolding written left writing
  turned r e = turned_tells Room (writing version s) room (by_checks Room (writing version s) room r (one_applies _ r e))

  pub version_wrong : version_among version_1 version_2 version ≡ false → (Err Version ≡ written version s room) × (room ≡ left version s room)
  unfolding writing_checks version_check
  version_wrong e = turned Version (applies _ Version _ (ap not e))

  module _ (known : version_among version_1 version_2 version ≡ true) where
    pub refused : (r : Refusal) → admission s ≡ Err r → (Err r ≡ written version s room) × (room ≡ left version s room)
    unfolding writing_checks version_check admission
    refused r e =
        turned r (passed_over _ Version _ (ap not known) ∙ refused_first (list_checks s.policy s.task_count (records_of s)) _ r e)

    module _ (e : admission s ≡ Ok tt) where
      pub not_held : (own_deadlines version || one_deadline_each (map task_in (records_of s))) ≡ false
          → (Err Deadlines ≡ written version s room) × (room ≡ left version s room)
      unfolding writing_checks version_check deadlines_check admission
      not_held f =
          turned Deadlines
          (passed_over _ Version _ (ap not known)
          ∙ admitted_first (list_checks s.policy s.task_count (records_of s)) _ e
          ∙ applies _ Deadlines _ (ap not f))

      module _ (held : (own_deadlines version || one_deadline_each (map task_in (records_of s))) ≡ true) where
        writable : Writable version s
        writable = record { known = known; admitted = e; held = held }

        pub no_room : length room < length (sheet_bytes version s) → (Err Room ≡ written version s room) × (room ≡ left version s room)
        unfolding written left writing
        no_room h =
            turned_tells Room (writing version s) room (by_room Room (writing version s) room (none_applies _ (checks_pass version s writable)) h)

        pub done : length (sheet_bytes version s) ≤ length room
            → (Ok (length (sheet_bytes version s)) ≡ written version s room) × (laid (sheet_bytes version s) room ≡ left version s room)
        unfolding written left writing
        done h = done_tells Room (writing version s) room (all_done Room (writing version s) room (none_applies _ (checks_pass version s writable)) h)
