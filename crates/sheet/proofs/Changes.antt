-- Demand 1: an admitted sheet changed within sixteen neighbouring bits, so in any one bit, is refused, and the refusal is 2.
use Rattle.std.specs.Prelude.{Err, Ok}
use Rattle.std.proofs.Common.{◌≡◌, ℕ, ◌*◌, ◌<◌, ◌≤◌, false, not, ◌&&◌, leb, List, length, ap, ◌∙◌, arith, le-leb}
use Rattle.bits.specs.Packed.{Bytes, bits_of}
use Rattle.bits.proofs.Laws.{length_bytes}
use Rattle.check_word.specs.Change.{AgreeOutside, inverted, with_bit_inverted}
use Rattle.check_word.specs.Division.{sealed}
use Rattle.check_word.proofs.Detects.{detects_burst, detects_one_bit}
use Rattle.sheet.specs.Constants.{version_1, version_2, least_size, greatest_size}
use Rattle.sheet.specs.Admission.{decided}
use Rattle.sheet.specs.Reading.{checks_among, sheet_checks, reading}
use Rattle.sheet.specs.declared.Refusal.TheVariants.{Length, CheckWord}
use Rattle.sheet.proofs.Checks.{applies, passed_over}
use Rattle.sheet.proofs.Carried.{PassedSheet, passed_sheet, refused_reading}

-- a byte string of a lawful length that is not sealed gets 2 from every reader, whatever versions it takes
unsealed : (least most : ℕ) (t : List ℕ) → least_size ≤ length t → length t ≤ greatest_size → sealed t ≡ false → decided (checks_among least most t) ≡ Err CheckWord
unfolding checks_among
unsealed least most t l h e =
    passed_over (not (leb least_size (length t) && leb (length t) greatest_size)) Length _
    (rw (le-leb least_size (length t) l, le-leb (length t) greatest_size h))
    ∙ applies (not (sealed t)) CheckWord _ (ap not e)

read_as_2 : (t : List ℕ) → decided (checks_among version_1 version_2 t) ≡ Err CheckWord → reading t ≡ Err CheckWord
unfolding sheet_checks
read_as_2 t e = refused_reading t CheckWord e

-- So does an admitted sheet changed in any way within sixteen neighbouring bits, its length kept.
pub burst_among : (least most : ℕ) (s t : List ℕ) (k : ℕ) → Bytes s → Bytes t → decided (sheet_checks s) ≡ Ok tt → length s ≡ length t
    → AgreeOutside k 16 (bits_of s) (bits_of t) → ¬ (s ≡ t)
    → decided (checks_among least most t) ≡ Err CheckWord
burst_among least most s t k hs ht a l same ne =
    let f : PassedSheet version_1 version_2 s = passed_sheet s a in
    unsealed least most t (omega arith) (omega arith) (detects_burst s t k hs ht l f.sealed_well same ne)

-- An admitted sheet changed in any way within sixteen neighbouring bits, its length kept, is refused, and the refusal is 2.
pub burst_is_refused_2 : (s t : List ℕ) (k : ℕ) → Bytes s → Bytes t → decided (sheet_checks s) ≡ Ok tt → length s ≡ length t
    → AgreeOutside k 16 (bits_of s) (bits_of t) → ¬ (s ≡ t)
    → reading t ≡ Err CheckWord
burst_is_refused_2 s t k hs ht a l same ne = read_as_2 t (burst_among version_1 version_2 s t k hs ht a l same ne)

length_inverted : (s : List ℕ) (i : ℕ) → length (with_bit_inverted i s) ≡ length s
unfolding with_bit_inverted
length_inverted s i = length_bytes (length s) (inverted i (bits_of s))

-- So is an admitted sheet with any one bit changed.
pub one_bit_is_refused : (s : List ℕ) (i : ℕ) → Bytes s → decided (sheet_checks s) ≡ Ok tt → i < 8 * length s
    → reading (with_bit_inverted i s) ≡ Err CheckWord
one_bit_is_refused s i hs a h =
    let f : PassedSheet version_1 version_2 s = passed_sheet s a in
    let l : length (with_bit_inverted i s) ≡ length s = length_inverted s i in
    read_as_2 (with_bit_inverted i s) (unsealed version_1 version_2 (with_bit_inverted i s) (omega arith) (omega arith) (detects_one_bit s i hs h f.sealed_well))
