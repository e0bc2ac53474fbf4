-- A number's decimal digits: those of a tenth of it and one more; at most ten.
use Rattle.std.proofs.Common.{[], ◌∷◌, ◌++◌, ◌≡◌, ℕ, zero, suc, ◌+◌, ◌/◌, ◌%◌, ◌^◌, ◌≤◌, ◌<◌, length, length-append, arith}
use native.Mathlib.Decide.{dec_le}
use Prim.Native.Nat.{zero-le}
use borrow.Author.Tests.{lt-ltb, le-ltb}
use Rattle.std.specs.Fmt.{decimal as printed}
use Rattle.std.proofs.lemmas.Fmt.{decimal_from_appends, length-decimal-le}
use Rattle.report_text.specs.Words.{decimal_of, decimal}

pub of_small : (k n : ℕ) → n < 10 → decimal_of (suc k) n ≡ (48 + n) ∷ []
unfolding decimal_of
of_small k n h = rw (lt-ltb n 10 h, decimal_of)

pub of_large : (k n : ℕ) → 10 ≤ n → decimal_of (suc k) n ≡ decimal_of k (n / 10) ++ ((48 + n % 10) ∷ [])
unfolding decimal_of
of_large k n h = rw (le-ltb n 10 h, decimal_of)

-- the library prints a number of 32 bits so
pub decimal_is : (n : ℕ) → n < 2 ^ 32 → decimal n ≡ printed n
unfolding decimal
decimal_is n h = decimal_from_appends decimal_of (record { one = of_small; more = of_large }) 10 n (omega (arith, h)) (length-decimal-le 10 n (omega arith) (omega (arith, h)) (omega (arith, h)))

length_of : (k n : ℕ) → length (decimal_of k n) ≤ k
unfolding decimal_of
length_of zero n = zero-le
length_of (suc k) n = go (dec_le 10 n) (length_of k)
  where
    go : Dec (10 ≤ n) → ((m : ℕ) → length (decimal_of k m) ≤ k) → length (decimal_of (suc k) n) ≤ suc k
    go (no l) ih = rw (of_small k n (omega arith)) (omega arith)
    go (yes l) ih = rw (of_large k n l, length-append) (omega (arith, ih (n / 10)))

pub decimal_length : (n : ℕ) → length (decimal n) ≤ 10
unfolding decimal
decimal_length n = length_of 10 n

pub two_digits : (n : ℕ) → n < 100 → length (decimal n) ≤ 2
unfolding decimal
two_digits n h = go (dec_le 10 n)
  where
    go : Dec (10 ≤ n) → length (decimal_of 10 n) ≤ 2
    go (no l) = rw (of_small 9 n (omega arith)) (omega arith)
    go (yes l) = rw (of_large 9 n l, of_small 8 (n / 10) (omega arith), length-append) (omega arith)
