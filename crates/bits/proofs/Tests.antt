-- Two tests that hold of the same numbers have the same outcome.
use mathlib.Core.Path.{◌≡◌, sym, ◌∙◌}
use Prim.Native.Nat.{ℕ, ◌≤◌, ◌<◌}
use native.Mathlib.Decide.{dec_le}
use native.Mathlib.Omega.{arith}
use borrow.Author.Tests.{le-leb, lt-leb}
use lib.Dec.{leb}

pub leb_iff : (a b c d : ℕ) → (a ≤ b → c ≤ d) → (c ≤ d → a ≤ b) → leb a b ≡ leb c d
leb_iff a b c d f g = go (dec_le a b)
  where
    go : Dec (a ≤ b) → leb a b ≡ leb c d
    go (yes h) = le-leb a b h ∙ sym (le-leb c d (f h))
    go (no n) = lt-leb a b (omega arith) ∙ sym (lt-leb c d (other (dec_le c d)))
      where
        other : Dec (c ≤ d) → d < c
        other (yes h) = absurd (n (g h))
        other (no m) = omega arith
