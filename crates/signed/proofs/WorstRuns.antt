-- What we sign for the worst run written, at the entries: every theorem is about any call that keeps its contract (specs/Calls.antt).
-- What is claimed stands in specs/WorstRuns.antt and specs/Numbers.antt.
use Rattle.std.specs.Prelude.{Err, Option, Result, IsOk}
use Rattle.sheet.specs.declared.Refusal.{Refusal}
use mathlib.Core.List.{List}
use mathlib.Core.Path.{◌≡◌, refl, ap, ◌∙◌}
use Prim.Native.Nat.{ℕ, ◌≤◌}
use native.Mathlib.Omega.{arith}
use lib.ListN.{length}
use Rattle.lent.proofs.Lent.{by_checks}
use Rattle.sheet.specs.Reading.{reading}
use Rattle.sheet.specs.declared.Refusal.TheVariants.{CheckWord, Room}
use Rattle.workbench.specs.Numbers.{worst_number}
use Rattle.worst.specs.Writing.{most_bytes, worst_writing, worst_left}
use Rattle.signed.specs.Calls.{WorstRun, WorstRunC}
use Rattle.signed.specs.Claims.{Damaged}
use Rattle.signed.specs.Numbers.{worst_by}
use Rattle.signed.specs.WorstRuns.{WorstSigned}
use Rattle.signed.proofs.Damage.{damaged_is_2}
use Rattle.signed.proofs.Signed.{one_call}
use Rattle.signed.proofs.Read.{admitted_is}
use Rattle.signed.proofs.Worst.{checks_for, due_few, turned_back, signed_so, answer_back}

-- ---- What the answer says is so of the sheet and of the bytes

-- `worst_run`
pub worst_run_signed : (sheet before after : List ℕ) (answer : Result (Option ℕ) Refusal) → WorstRun sheet before answer after → WorstSigned sheet before answer after
worst_run_signed sheet before after answer c = rw (c.answers, c.leaves) (signed_so sheet before)

-- The entry for C is that for Rattle, with the answer that the number says: the set holds, the bytes written, or the refusal.
pub worst_run_c_says : (sheet before after : List ℕ) (number : ℕ) → WorstRunC sheet before number after → WorstRun sheet before (worst_by number) after
worst_run_c_says sheet before after number c = record { answers = ap worst_by c.answers ∙ answer_back sheet before; leaves = c.leaves }

-- `burrbeech_worst_run`
pub worst_run_c_signed : (sheet before after : List ℕ) (number : ℕ) → WorstRunC sheet before number after → WorstSigned sheet before (worst_by number) after
worst_run_c_signed sheet before after number c = worst_run_signed sheet before after (worst_by number) (worst_run_c_says sheet before after number c)

-- Lent bytes of this number are never too few, whatever the sheet.
pub worst_run_room : (sheet before after : List ℕ) (answer : Result (Option ℕ) Refusal) → WorstRun sheet before answer after → most_bytes ≤ length before → ¬ (answer ≡ Err Room)
worst_run_room sheet before after answer c h e =
    let (admitted, fewer) = (worst_run_signed sheet before after answer c).no_room.0 e in
    let most = due_few sheet ((admitted_is sheet).1 admitted) in
    omega arith

-- ---- For the same input a second conforming call answers and leaves the same

pub one_worst_run : (sheet before x y : List ℕ) (a b : Result (Option ℕ) Refusal) → WorstRun sheet before a x → WorstRun sheet before b y → (a ≡ b) × (x ≡ y)
one_worst_run sheet before x y a b c d = one_call c d

pub one_worst_run_c : (sheet before x y : List ℕ) (a b : ℕ) → WorstRunC sheet before a x → WorstRunC sheet before b y → (a ≡ b) × (x ≡ y)
one_worst_run_c sheet before x y a b c d = one_call c d

-- ---- Damage: an admitted sheet changed within sixteen neighbouring bits gets 2, and nothing else changes

module _ (sheet changed : List ℕ) (admitted : IsOk (reading sheet)) (damaged : Damaged sheet changed) where
  pub worst_run_damaged : (before after : List ℕ) (answer : Result (Option ℕ) Refusal) → WorstRun changed before answer after → (answer ≡ Err CheckWord) × (after ≡ before)
  unfolding worst_left
  worst_run_damaged before after answer c =
      let t = by_checks Room (worst_writing changed) before CheckWord (checks_for changed ∙ damaged_is_2 sheet changed admitted damaged) in
      (c.answers ∙ turned_back changed before t.why, c.leaves ∙ t.unchanged)

  pub worst_run_c_damaged : (before after : List ℕ) (number : ℕ) → WorstRunC changed before number after → (number ≡ 2) × (after ≡ before)
  worst_run_c_damaged before after number c =
      let (said, left) = worst_run_damaged before after _ (record { answers = refl; leaves = c.leaves }) in
      (c.answers ∙ ap worst_number said, left)
