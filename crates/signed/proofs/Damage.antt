-- Demand 1: a sheet changed within sixteen neighbouring bits is turned away by its check word.
use Rattle.std.specs.Prelude.{Some, IsOk}
use mathlib.Core.List.{List}
use mathlib.Core.Path.{◌≡◌, sym}
use Prim.Native.Nat.{ℕ, ◌*◌, ◌<◌}
use lib.ListN.{length}
use Rattle.bits.specs.Packed.{Bytes, bits_of}
use Rattle.bits.proofs.Laws.{length_bytes, bytes_are_bytes}
use Rattle.check_word.specs.Change.{inverted, with_bit_inverted}
use Rattle.check_word.proofs.Detects.{inverted_elsewhere, inverted_differs}
use Rattle.lent.specs.Checks.{first_refusal}
use Rattle.sheet.specs.Constants.{version_1, version_2}
use Rattle.sheet.specs.Reading.{checks_among, sheet_checks, reading}
use Rattle.sheet.specs.declared.Refusal.TheVariants.{CheckWord}
use Rattle.sheet.proofs.Checks.{one_applies}
use Rattle.sheet.proofs.Changes.{burst_among}
use Rattle.signed.specs.Claims.{Damaged}
use Rattle.signed.proofs.Read.{decided_ok}

-- by every reader, whatever versions it takes
pub damaged_among : (least most : ℕ) (s t : List ℕ) → IsOk (reading s) → Damaged s t → first_refusal (checks_among least most t) ≡ Some CheckWord
damaged_among least most s t a d =
    one_applies (checks_among least most t) CheckWord
    (burst_among least most s t d.from d.bytes_before d.bytes_after (decided_ok s a) d.same_length d.elsewhere_same d.changed)

pub damaged_is_2 : (s t : List ℕ) → IsOk (reading s) → Damaged s t → first_refusal (sheet_checks t) ≡ Some CheckWord
unfolding sheet_checks
damaged_is_2 = damaged_among version_1 version_2

-- one changed bit
pub one_bit : (s : List ℕ) (i : ℕ) → Bytes s → i < 8 * length s → Damaged s (with_bit_inverted i s)
unfolding with_bit_inverted
one_bit s i byte h =
    record {
      bytes_before = byte;
      bytes_after = bytes_are_bytes (length s) (inverted i (bits_of s));
      same_length = sym (length_bytes (length s) (inverted i (bits_of s)));
      from = i;
      elsewhere_same = inverted_elsewhere s i;
      changed = inverted_differs s i h;
    }
