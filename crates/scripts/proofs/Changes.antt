-- A script changed within sixteen neighbouring bits is turned away.
use Rattle.std.specs.Prelude.{Err}
use mathlib.Core.Bool.{Bool, true, false, not, ◌&&◌, cond, and-false}
use mathlib.Core.List.{List}
use mathlib.Core.Path.{◌≡◌, ap, ◌∙◌}
use Prim.Native.Nat.{ℕ}
use lib.Dec.{eqb}
use lib.ListN.{length, drop}
use Rattle.bits.specs.Packed.{Bytes, bits_of}
use Rattle.check_word.specs.Change.{AgreeOutside}
use Rattle.check_word.specs.Division.{body, sealed}
use Rattle.check_word.proofs.Detects.{detects_burst}
use Rattle.records.specs.Sealed.{sealed_size, some_set}
use Rattle.theory.specs.Tasks.{Task}
use Rattle.plays.specs.Items.{item_checks}
use Rattle.scripts.specs.Format.{script_width}
use Rattle.scripts.specs.Reading.{entry_count_in, script_in, there, well_made}
use Rattle.scripts.specs.Judging.{judged, judgement}
use Rattle.scripts.specs.declared.Flaw.TheVariants.{Malformed}
use Rattle.scripts.proofs.Made.{made}

unsealed : (n : ℕ) (s : List ℕ) → sealed s ≡ false → well_made n s ≡ false
unfolding well_made
unsealed n s e =
    let width = script_width n (entry_count_in n (bits_of (body s))) in
    let clear = not (some_set (drop width (bits_of (body s)))) in
    let sized = there n 0 s && eqb (length s) (sealed_size width) in
    ap (λ (b : Bool). (sized && b) && clear) e ∙ ap (λ (b : Bool). b && clear) (and-false sized)

-- A script changed in any way within sixteen neighbouring bits, its length kept, is not made as a script is.
pub damaged_script : (n : ℕ) (s t : List ℕ) (k : ℕ) → Bytes s → Bytes t → well_made n s ≡ true → length s ≡ length t
    → AgreeOutside k 16 (bits_of s) (bits_of t) → ¬ (s ≡ t) → well_made n t ≡ false
damaged_script n s t k hs ht w l same ne = unsealed n t (detects_burst s t k hs ht l (made s n w).right same ne)

-- So it is turned away as such, whatever the tasks are.
pub damaged_is_malformed : (tasks : List Task) (s t : List ℕ) (k : ℕ) → Bytes s → Bytes t → well_made (length tasks) s ≡ true → length s ≡ length t
    → AgreeOutside k 16 (bits_of s) (bits_of t) → ¬ (s ≡ t) → judgement tasks t ≡ Err Malformed
unfolding judgement
damaged_is_malformed tasks s t k hs ht w l same ne =
    ap (λ (b : Bool). cond b (judged (item_checks tasks (script_in (length tasks) t))) (Err Malformed)) (damaged_script (length tasks) s t k hs ht w l same ne)
