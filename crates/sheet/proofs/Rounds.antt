-- The number that follows another in a round.
use Rattle.std.proofs.Common.{◌≡◌, ℕ, suc, ◌+◌, ◌%◌, ◌^◌, ◌<◌, ◌≤◌, ◌⊎◌, sym, ap, ◌∙◌, inl, inr, mod-eq_of_lt, add-one, arith, le-ltb, lt-ltb}
use native.Mathlib.Nat.{mod_self}
use native.Mathlib.Decide.{dec_lt}
use Rattle.theory.specs.Tasks.{Task, frame_count, next_frame}
use Rattle.sheet.specs.Tasks.{next_round}

pub round_on : (k n : ℕ) → suc k < n → next_round k n ≡ suc k
unfolding next_round
round_on k n h = rw (lt-ltb (suc k) n h)

pub round_ends : (k n : ℕ) → n ≤ suc k → next_round k n ≡ 0
unfolding next_round
round_ends k n h = rw (le-ltb (suc k) n h)

-- one more, as a count of 64 bits holds it
module _ (k n r : ℕ) (k_in : k < 2 ^ 64) (n_in : n < 2 ^ 64) (e : r ≡ (k + 1) % 2 ^ 64) where
  held : Dec (k + 1 < 2 ^ 64) → (r ≡ suc k) ⊎ (r ≡ 0) × (n ≤ suc k)
  held (yes h) = inl (e ∙ mod-eq_of_lt h ∙ add-one k)
  held (no h) =
      let last : k + 1 ≡ 2 ^ 64 = omega arith in
      inr (e ∙ ap (λ (m : ℕ). m % 2 ^ 64) last ∙ mod_self (2 ^ 64), omega arith)

  pub next_below : r < n → r ≡ next_round k n
  next_below h = go (held (dec_lt (k + 1) (2 ^ 64)))
    where
      go : (r ≡ suc k) ⊎ (r ≡ 0) × (n ≤ suc k) → r ≡ next_round k n
      go (inl q) = q ∙ sym (round_on k n (omega arith))
      go (inr (q, l)) = q ∙ sym (round_ends k n l)

  pub next_past : n ≤ r → 0 ≡ next_round k n
  next_past h = go (held (dec_lt (k + 1) (2 ^ 64)))
    where
      go : (r ≡ suc k) ⊎ (r ≡ 0) × (n ≤ suc k) → 0 ≡ next_round k n
      go (inl q) = sym (round_ends k n (omega arith))
      go (inr (q, l)) = sym (round_ends k n l)

-- it is no more than the round has numbers
pub round_within : (k n : ℕ) → next_round k n ≤ n
round_within k n = go (dec_lt (suc k) n)
  where
    go : Dec (suc k < n) → next_round k n ≤ n
    go (yes l) = omega (arith, round_on k n l)
    go (no l) = omega (arith, round_ends k n (omega arith))

-- it goes round
pub round_is : (k n : ℕ) → k < n → next_round k n ≡ suc k % n
round_is k n h = go (dec_lt (suc k) n)
  where
    go : Dec (suc k < n) → next_round k n ≡ suc k % n
    go (yes l) = round_on k n l ∙ sym (mod-eq_of_lt l)
    go (no l) =
        let e : suc k ≡ n = omega arith in
        round_ends k n (omega arith) ∙ sym (ap (λ (m : ℕ). m % n) e ∙ mod_self n)

-- as the frames of a task do
pub next_is : (t : Task) (k : ℕ) → k < frame_count t → next_round k (frame_count t) ≡ next_frame t k
unfolding next_frame
next_is t k h = round_is k (frame_count t) h
