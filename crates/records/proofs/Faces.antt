-- Laws of the public faces: what putting or taking a row answers and leaves, by the tests that lead there.
use Rattle.std.specs.Prelude.{None, Option, Some}
use Rattle.std.proofs.lemmas.Bool.Decides.{nat_tests}
use mathlib.Core.Bool.{true, false, and-false}
use mathlib.Core.List.{List}
use mathlib.Core.Path.{◌≡◌, sym, ap₂, ◌∙◌}
use Prim.Native.Nat.{ℕ, ◌+◌, ◌*◌, ◌≤◌, ◌<◌}
use native.Mathlib.Omega.{arith}
use lib.ListN.{length, drop}
use Rattle.bits.specs.Packed.{Bytes, bits_of, bytes_of}
use Rattle.bits.proofs.Laws.{bytes_bits}
use Rattle.lent.specs.Lent.{laid}
use Rattle.records.specs.Rows.{packed, unpacked, total}
use Rattle.records.specs.Faces.{end_of, lawful, row_there, each_fits, ends, row_fits, with_bits, stored_row, row_has_slots, taken_row}
use Rattle.records.specs.Inside.Steps.{Placed}
use Rattle.records.proofs.Packing.{length_packed}
use Rattle.records.proofs.Placing.{placed_long}
use Rattle.records.proofs.Rows.{there_has, as_many}

-- ---- a row that is put

module _ (n at : ℕ) (ws vs : List ℕ) where
  pub put_there : row_there n at ws ≡ false → row_fits n at ws vs ≡ false
  unfolding row_fits
  put_there e = rw e

  pub put_fits : each_fits ws vs ≡ false → row_fits n at ws vs ≡ false
  unfolding row_fits
  put_fits e = rw (e, and-false)

  pub put_both : row_there n at ws ≡ true → each_fits ws vs ≡ true → row_fits n at ws vs ≡ true
  unfolding row_fits
  put_both e f = rw (e, f)

-- what a row that can be put has
pub record Puts (n at : ℕ) (ws vs : List ℕ) : Type 0 where
  pub widths : lawful ws ≡ true
  pub room : at + total ws ≤ 8 * n
  pub short : at + total ws ≤ end_of n
  pub fits : each_fits ws vs ≡ true

pub row_put : (n at : ℕ) (ws vs : List ℕ) → row_fits n at ws vs ≡ true → row_there n at ws ≡ true
unfolding row_fits
row_put n at ws vs e = grind (arith, nat_tests)

pub puts : (n at : ℕ) (ws vs : List ℕ) → row_fits n at ws vs ≡ true → Puts n at ws vs
unfolding row_fits
puts n at ws vs e =
    let there = there_has n at ws (row_put n at ws vs e) in
    record { widths = there.0; room = omega arith; short = there.1; fits = grind (arith, nat_tests) }

module _ (s : List ℕ) (at : ℕ) (ws vs : List ℕ) where
  abbrev IsPut : Option ℕ → List ℕ → Type 0
  IsPut r t = (r ≡ ends (row_fits (length s) at ws vs) at ws) × (t ≡ stored_row s at ws vs)

  pub not_put : row_fits (length s) at ws vs ≡ false → IsPut None s
  unfolding stored_row
  not_put e = (rw e, rw e)

  pub was_put : (t : List ℕ) (next : ℕ) → row_fits (length s) at ws vs ≡ true → Bytes t → Placed s at (packed ws vs) t next → IsPut (Some next) t
  unfolding stored_row with_bits
  was_put t next e bytes p =
      let h = puts (length s) at ws vs e in
      let wide = length_packed ws vs (as_many ws vs h.fits) in
      let long : length t ≡ length s = placed_long (rw wide h.room) p in (
        rw (e, p.behind, wide),
        sym (bytes_bits t bytes) ∙ ap₂ bytes_of long p.placed ∙ rw e,
      )

-- ---- a row that is taken

module _ (n at : ℕ) (ws : List ℕ) (slots : ℕ) where
  pub take_there : row_there n at ws ≡ false → row_has_slots n at ws slots ≡ false
  unfolding row_has_slots
  take_there e = rw e

  pub take_slots : slots < length ws → row_has_slots n at ws slots ≡ false
  unfolding row_has_slots
  take_slots h = grind (arith, nat_tests)

  pub take_both : row_there n at ws ≡ true → length ws ≤ slots → row_has_slots n at ws slots ≡ true
  unfolding row_has_slots
  take_both e h = grind (arith, nat_tests)

-- what a row that can be taken has
pub record Takes (n at : ℕ) (ws : List ℕ) (slots : ℕ) : Type 0 where
  pub widths : lawful ws ≡ true
  pub room : at + total ws ≤ 8 * n
  pub short : at + total ws ≤ end_of n
  pub enough : length ws ≤ slots

pub takes : (n at : ℕ) (ws : List ℕ) (slots : ℕ) → row_has_slots n at ws slots ≡ true → Takes n at ws slots
unfolding row_has_slots
takes n at ws slots e =
    let there : row_there n at ws ≡ true = grind (arith, nat_tests) in
    let has = there_has n at ws there in
    record { widths = has.0; room = omega arith; short = has.1; enough = grind (arith, nat_tests) }

module _ (s : List ℕ) (at : ℕ) (ws ns : List ℕ) where
  abbrev IsTaken : Option ℕ → List ℕ → Type 0
  IsTaken r ms = (r ≡ ends (row_has_slots (length s) at ws (length ns)) at ws) × (ms ≡ taken_row s at ws ns)

  pub not_taken : row_has_slots (length s) at ws (length ns) ≡ false → IsTaken None ns
  unfolding taken_row
  not_taken e = (rw e, rw e)

  pub was_taken : (next : ℕ) (ms : List ℕ) → row_has_slots (length s) at ws (length ns) ≡ true → next ≡ at + total ws → ms ≡ laid (unpacked ws (drop at (bits_of s))) ns
      → IsTaken (Some next) ms
  unfolding taken_row
  was_taken next ms e f g = (rw (e, f), rw (e, g))
