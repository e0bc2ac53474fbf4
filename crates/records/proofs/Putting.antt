-- Rows put one behind the other: each finds its room behind the one before it.
use Rattle.std.specs.Prelude.{unwrap_or}
use mathlib.Core.Bool.{Bool, true}
use mathlib.Core.List.{List}
use mathlib.Core.Path.{◌≡◌, sym, ap, ◌∙◌}
use Prim.Native.Nat.{ℕ, ◌+◌, ◌≤◌}
use native.Mathlib.Omega.{arith}
use borrow.Author.Tests.{le-leb}
use lib.ListN.{length, take, drop}
use lib.Seq.{take_at}
use Rattle.bits.specs.Packed.{bits_of, with_field}
use Rattle.records.specs.Rows.{packed, total}
use Rattle.records.specs.Faces.{end_of, lawful, ends, row_fits, stored_row}
use Rattle.records.specs.Inside.Steps.{Placed}
use Rattle.records.proofs.Packing.{Fit, length_packed, fit_length}
use Rattle.records.proofs.Rows.{as_many, of_fit, there_is}
use Rattle.records.proofs.Faces.{puts, put_both}
use Rattle.records.proofs.Placing.{placed_long}
use Rattle.records.proofs.RoundTrip.{row_room, stored_is, bits_with}

-- numbers that fit lawful fields can be put where there is room
pub row_can : (n at : ℕ) {ws vs : List ℕ} → lawful ws ≡ true → Fit ws vs → at + length (packed ws vs) ≤ end_of n → row_fits n at ws vs ≡ true
row_can n at {ws} {vs} e f h =
    let wide = length_packed ws vs (fit_length f) in
    put_both n at ws vs (there_is n at ws e ∙ le-leb (at + total ws) (end_of n) (omega arith)) (of_fit f)

-- a row that can be put is placed
pub row_placed : (s : List ℕ) (at : ℕ) (ws vs : List ℕ) → row_fits (length s) at ws vs ≡ true → {t : List ℕ} {next : ℕ}
    → (next ≡ unwrap_or (ends (row_fits (length s) at ws vs) at ws) at) × (t ≡ stored_row s at ws vs) → Placed s at (packed ws vs) t next
row_placed s at ws vs e h =
    record {
      placed = ap bits_of (h.1 ∙ stored_is s at ws vs e) ∙ bits_with s at (packed ws vs) (row_room s at ws vs e);
      behind =
          h.0
          ∙ ap (λ (b : Bool). unwrap_or (ends b at ws) at) e
          ∙ ap (λ (k : ℕ). at + k) (sym (length_packed ws vs (as_many ws vs (puts (length s) at ws vs e).fits)));
    }

-- the room behind bits that were put
pub room_behind : {s t : List ℕ} {at next : ℕ} (f : List Bool) (n : ℕ) → at + length f + n ≤ end_of (length s) → Placed s at f t next → next + n ≤ end_of (length t)
room_behind {s} {t} {at} {next} f n h p =
    let long : length t ≡ length s = placed_long (omega arith) p in
    rw long (omega (arith, p.behind))

-- bits put from the start on are the first bits
pub placed_first : {s t : List ℕ} {next : ℕ} (f : List Bool) → Placed s 0 f t next → take next (bits_of t) ≡ f
unfolding with_field
placed_first {s} {t} {next} f p =
    ap (take next) p.placed ∙ take_at f (drop (0 + length f) (bits_of s)) next (sym (p.behind ∙ zero_more))
  where
    zero_more : 0 + length f ≡ length f
    zero_more = omega arith
