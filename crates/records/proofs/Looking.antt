-- A row that is looked for in a string whose end a position reaches: it is there exactly where so many bits are left.
use Rattle.std.specs.Prelude.{None, Option, Some}
use Rattle.std.proofs.lemmas.Bool.Decides.{nat_tests}
use mathlib.Core.Bool.{Bool, true, false}
use mathlib.Core.List.{List}
use mathlib.Core.Path.{◌≡◌, ap, ◌∙◌}
use Prim.Native.Nat.{ℕ, ◌+◌, ◌*◌, ◌≤◌, ◌<◌}
use native.Mathlib.Decide.{dec_le}
use native.Mathlib.Omega.{arith}
use lib.ListN.{length, drop}
use Rattle.bits.specs.Packed.{bits_of}
use Rattle.lent.specs.Lent.{laid}
use Rattle.records.specs.Rows.{unpacked, total}
use Rattle.records.specs.Faces.{last_position, lawful, row_there, ends, row_has_slots, taken_row}
use Rattle.records.proofs.Filling.{length_rest}

module _ (s : List ℕ) (at : ℕ) (ws ns : List ℕ) (widths : lawful ws ≡ true) (near : 8 * length s ≤ last_position) (slots : length ws ≤ length ns) (some : 1 ≤ total ws) where
  abbrev bits_left : List Bool
  bits_left = drop at (bits_of s)

  there : total ws ≤ length bits_left → row_has_slots (length s) at ws (length ns) ≡ true
  unfolding row_has_slots row_there
  there h = let l = length_rest s at in grind (arith, nat_tests)

  missing : length bits_left < total ws → row_has_slots (length s) at ws (length ns) ≡ false
  unfolding row_has_slots row_there
  missing h = let l = length_rest s at in grind (arith, nat_tests)

  pub row_numbers : total ws ≤ length bits_left → taken_row s at ws ns ≡ laid (unpacked ws bits_left) ns
  unfolding taken_row
  row_numbers h = rw (there h)

  module _ (r : Option ℕ) (e : r ≡ ends (row_has_slots (length s) at ws (length ns)) at ws) where
    pub row_found : (next : ℕ) → r ≡ Some next → (total ws ≤ length bits_left) × (next ≡ at + total ws)
    row_found next f = go (dec_le (total ws) (length bits_left))
      where
        go : Dec (total ws ≤ length bits_left) → (total ws ≤ length bits_left) × (next ≡ at + total ws)
        go (yes h) = let is = e ∙ ap (λ (b : Bool). ends b at ws) (there h) in (h, cc)
        go (no h) =
            let is = e ∙ ap (λ (b : Bool). ends b at ws) (missing (omega arith)) in
            let z : ◌≡◌ {A = ℕ} 0 1 = cc in
            let y : ⊥ = omega arith in
            absurd y

    pub row_missing : r ≡ None → length bits_left < total ws
    row_missing f = go (dec_le (total ws) (length bits_left))
      where
        go : Dec (total ws ≤ length bits_left) → length bits_left < total ws
        go (yes h) =
            let is = e ∙ ap (λ (b : Bool). ends b at ws) (there h) in
            let z : ◌≡◌ {A = ℕ} 0 1 = cc in
            let y : ⊥ = omega arith in
            absurd y
        go (no h) = omega arith
