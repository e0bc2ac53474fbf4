-- The words of private contracts: what one step of a writer leaves.
use Rattle.std.specs.Prelude.{Bool, List, ◌≡◌, ℕ, ◌+◌, length}
use Rattle.bits.specs.Packed.{bits_of, with_field}

-- bits were put at a position, all others are as they were, and the next position is the one behind them
pub record Placed (before : List ℕ) (at : ℕ) (bits : List Bool) (after : List ℕ) (next : ℕ) : Type 0 where
  pub placed : bits_of after ≡ with_field at bits (bits_of before)
  pub behind : next ≡ at + length bits
