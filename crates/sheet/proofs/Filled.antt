-- A row of slots that is filled from the front, one by one.
use Rattle.std.proofs.Common.{◌≡◌, ℕ, suc, ◌+◌, ◌-◌, ◌<◌, List, ◌++◌, length, get_or, take, set, replicate, sym, ap, add-one, arith, length-take, take_all, take-suc}
use native.Mathlib.Nat.{sub-zero}
use lib.Seq.{set_at, append_snoc}

module _ {A : Type 0} (m : ℕ) (blank : A) (xs : List A) where
  -- the first i of xs, blank behind them
  unfoldable pub filled : ℕ → List A
  filled i = take i xs ++ replicate (m - i) blank

  pub none_filled : replicate m blank ≡ filled 0
  unfolding filled
  none_filled = ap (λ (n : ℕ). replicate n blank) (sym (sub-zero m))

  pub filled_more : (i : ℕ) (d a : A) → i < length xs → i < m → a ≡ get_or xs i d → set (filled i) i a ≡ filled (i + 1)
  unfolding filled
  filled_more i d a h l e =
      let more : m - i ≡ suc (m - (i + 1)) = omega arith in
      rw (more, set_at (take i xs) blank (replicate (m - (i + 1)) blank) a i (rw length-take (omega arith)))
      (rw (add-one i, take-suc xs i d h, e) (sym (append_snoc (take i xs) (get_or xs i d) (replicate (m - suc i) blank))))

  pub all_filled : (i : ℕ) → length xs ≡ i → filled i ≡ xs ++ replicate (m - length xs) blank
  unfolding filled
  all_filled i e = rw (← e, take_all (length xs) xs (omega arith))
