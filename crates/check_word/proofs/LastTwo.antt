-- What the code of `sealed` and `seal` does with a string's last two bytes, in the words of the definitions.
use Rattle.std.specs.Int.{w16, from_be_bytes, to_be_bytes}
use mathlib.Core.Bool.{true, false}
use mathlib.Core.List.{List, ◌++◌}
use mathlib.Core.Path.{◌≡◌, sym, ap, ap₂, ◌∙◌}
use Prim.Native.Nat.{ℕ, ◌+◌, ◌-◌, ◌<◌}
use native.Mathlib.Omega.{arith}
use borrow.Author.Tests.{le-leb, lt-leb}
use lib.Dec.{leb, eqb}
use lib.ListN.{length, take, drop, length-drop}
use Rattle.bits.specs.Packed.{value, digits, Bytes, bits_of, bytes_of}
use Rattle.bits.proofs.Laws.{bytes_drop}
use Rattle.check_word.specs.Division.{check_word, seal, body, sealed, with_seal}
use Rattle.check_word.proofs.Words.{word_of, bytes_word}

module _ (s : List ℕ) (h : length s < 2) where
  pub sealed_short : false ≡ sealed s
  unfolding sealed
  sealed_short = rw (lt-leb 2 (length s) h)

  pub with_seal_short : s ≡ with_seal s
  unfolding with_seal
  with_seal_short = rw (lt-leb 2 (length s) h)

-- what is in front of them, and the check word of that
module _ (s front : List ℕ) (e : front ≡ take (length s - 2) s) (h : length front + 2 ≡ length s) (c : ℕ) (f : c ≡ check_word front) where
  two : leb 2 (length s) ≡ true
  two = le-leb 2 (length s) (omega arith)

  pub sealed_two : (last : List ℕ) (w : ℕ) → last ≡ drop (length s - 2) s → Bytes s → w ≡ from_be_bytes w16 last → eqb w c ≡ sealed s
  unfolding sealed body
  sealed_two last w g bytes k =
      ap₂ eqb (k ∙ word_of last (rw (g, length-drop) (omega arith)) (rw g (bytes_drop (length s - 2) s bytes)) ∙ ap (λ (l : List ℕ). value (bits_of l)) g) (f ∙ ap check_word e)
      ∙ rw two

  pub with_seal_two : (last : List ℕ) → last ≡ to_be_bytes w16 c → front ++ last ≡ with_seal s
  unfolding with_seal seal body
  with_seal_two last g =
      ap₂ ◌++◌ e (g ∙ sym (bytes_word c) ∙ ap (λ (x : ℕ). bytes_of 2 (digits 16 x)) (f ∙ ap check_word e))
      ∙ rw two
