-- The first number of a row that passes a test: the one search behind every first, lowest-numbered and least.
use Rattle.std.specs.Prelude.{Bool, true, false, ℕ, zero, suc, None, Option, Some}

-- the first of the n numbers a, a + 1, .. that passes the test; none if none does
unfoldable pub first : ℕ → ℕ → (ℕ → Bool) → Option ℕ
first a zero test = None
first a (suc n) test = elim (test a) [ true ↦ Some a | false ↦ first (suc a) n test ]

-- all of the n numbers a, a + 1, .. pass the test
unfoldable pub every : ℕ → ℕ → (ℕ → Bool) → Bool
every a zero test = true
every a (suc n) test = elim (test a) [ true ↦ every (suc a) n test | false ↦ false ]

-- whether a search found something
unfoldable pub found : Option ℕ → Bool
found None = false
found (Some n) = true
