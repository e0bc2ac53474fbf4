-- The division carried in a register as wide as the check word: what the code holds from step to step.
use Rattle.std.specs.Prelude.{false, List, [], ◌∷◌, ◌++◌, ℕ, replicate}
use Rattle.bits.specs.Packed.{value, digits}
use Rattle.check_word.specs.Division.{word_width, added, divided}

-- what n steps leave of the register's bits with n zeros behind them
unfoldable pub shifted : ℕ → ℕ → ℕ
shifted n c = value (divided n (digits word_width c ++ replicate n false))

-- the register after one more byte: the byte is added to its upper eight bits, and eight steps follow
unfoldable pub fed : ℕ → ℕ → ℕ
fed c b = value (divided 8 (added (digits 8 b) (digits word_width c) ++ replicate 8 false))

-- the register after a byte string
unfoldable pub register : ℕ → List ℕ → ℕ
register c [] = c
register c (b ∷ s) = register (fed c b) s
