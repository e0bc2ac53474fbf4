-- What we sign for a sheet that is converted, at the entries: every theorem is about any call that keeps its contract (specs/Calls.antt).
-- What is claimed stands in specs/Conversions.antt and specs/Numbers.antt.
use Rattle.std.specs.Prelude.{Err, Ok, Result, Some, IsOk}
use Rattle.sheet.specs.declared.Refusal.{Refusal}
use mathlib.Core.Bool.{true, not}
use mathlib.Core.List.{List}
use mathlib.Core.Path.{◌≡◌, refl, sym, ap, ◌∙◌}
use Prim.Native.Nat.{ℕ, ◌≤◌}
use lib.ListN.{length, take, drop}
use Rattle.bits.specs.Packed.{Bytes as IsBytes}
use Rattle.lent.specs.Checks.{first_refusal}
use Rattle.lent.proofs.Checks.{passed_over, some_first}
use Rattle.lent.proofs.Laid.{take_laid}
use Rattle.lent.proofs.Lent.{by_checks}
use Rattle.sheet.specs.Constants.{version_1, version_2}
use Rattle.sheet.specs.Reading.{version_among, checks_among, reading}
use Rattle.sheet.specs.Writing.{version_check}
use Rattle.sheet.specs.declared.Refusal.TheVariants.{CheckWord, Room}
use Rattle.converter.specs.Converting.{other_version, converting_checks, converting, converted, converted_left}
use Rattle.signed.specs.Calls.{Convert, ConvertC}
use Rattle.signed.specs.Claims.{Damaged}
use Rattle.signed.specs.Numbers.{written_by}
use Rattle.signed.specs.Conversions.{ConvertSigned}
use Rattle.signed.proofs.Read.{behind_laid}
use Rattle.signed.proofs.Damage.{damaged_among}
use Rattle.signed.proofs.Signed.{convert_c_says}
use Rattle.signed.proofs.Converting.{signed_so, there_again}

-- ---- What the answer says is so of the sheet and of the bytes

-- `convert`
pub convert_signed : (version : ℕ) (sheet before after : List ℕ) (answer : Result ℕ Refusal) → Convert version sheet before answer after → ConvertSigned version sheet before answer after
convert_signed version sheet before after answer c = rw (c.answers, c.leaves) (signed_so version sheet before)

-- `burrbeech_convert`
pub convert_c_signed : (version : ℕ) (sheet before after : List ℕ) (number : ℕ) → ConvertC version sheet before number after
    → ConvertSigned version sheet before (written_by number) after
convert_c_signed version sheet before after number c = convert_signed version sheet before after (written_by number) (convert_c_says version sheet before after number c)

-- ---- There and back

-- `convert`, then `convert` of the bytes written into room that is long enough: the same bytes.
pub convert_there_and_back : (version : ℕ) (sheet before after room back : List ℕ) (n : ℕ) (answer : Result ℕ Refusal) → IsBytes sheet
    → Convert version sheet before (Ok n) after
    → length sheet ≤ length room
    → Convert (other_version version) (take n after) room answer back
    → (answer ≡ Ok (length sheet))
    × (take (length sheet) back ≡ sheet)
    × (drop (length sheet) back ≡ drop (length sheet) room)
convert_there_and_back version sheet before after room back n answer byte there fits then =
    let (said, left) = there_again version sheet before n room byte (sym there.answers) fits in
    let whole = then.leaves ∙ ap (λ (s : List ℕ). converted_left (other_version version) (take n s) room) there.leaves ∙ left in (
      then.answers ∙ ap (λ (s : List ℕ). converted (other_version version) (take n s) room) there.leaves ∙ said,
      ap (take (length sheet)) whole ∙ take_laid sheet room,
      ap (drop (length sheet)) whole ∙ behind_laid sheet room (length sheet) refl,
    )

-- The same through C.
pub convert_there_and_back_c : (version : ℕ) (sheet before after room back : List ℕ) (n number answer : ℕ) → IsBytes sheet
    → ConvertC version sheet before number after → written_by number ≡ Ok n
    → length sheet ≤ length room
    → ConvertC (other_version version) (take n after) room answer back
    → (written_by answer ≡ Ok (length sheet))
    × (take (length sheet) back ≡ sheet)
    × (drop (length sheet) back ≡ drop (length sheet) room)
convert_there_and_back_c version sheet before after room back n number answer byte there e fits then =
    convert_there_and_back version sheet before after room back n (written_by answer) byte
    (rw e at (convert_c_says version sheet before after number there)) fits (convert_c_says (other_version version) (take n after) room back answer then)

-- ---- Damage: an admitted sheet changed within sixteen neighbouring bits gets 2, and nothing else changes

module _ (version : ℕ) (known : version_among version_1 version_2 version ≡ true) (sheet changed : List ℕ) (admitted : IsOk (reading sheet)) (damaged : Damaged sheet changed) where
  pub convert_damaged : (before after : List ℕ) (answer : Result ℕ Refusal) → Convert version changed before answer after → (answer ≡ Err CheckWord) × (after ≡ before)
  unfolding converted converted_left converting converting_checks version_check
  convert_damaged before after answer c =
      let first : first_refusal (converting_checks version changed) ≡ Some CheckWord =
      passed_over _ _ _ (ap not known)
      ∙ some_first (checks_among (other_version version) (other_version version) changed) _ CheckWord
      (damaged_among (other_version version) (other_version version) sheet changed admitted damaged) in
      let t = by_checks Room (converting version changed) before CheckWord first in
      (c.answers ∙ t.answer, c.leaves ∙ t.unchanged)

  pub convert_c_damaged : (before after : List ℕ) (number : ℕ) → ConvertC version changed before number after → (written_by number ≡ Err CheckWord) × (after ≡ before)
  convert_c_damaged before after number c = convert_damaged before after (written_by number) (convert_c_says version changed before after number c)
