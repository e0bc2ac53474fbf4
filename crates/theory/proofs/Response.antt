-- Laws of the response time: unique, computed by the search, no later for less demand; and the completion-time iteration, which reaches it.
use Rattle.std.specs.Prelude.{None, Some}
use mathlib.Core.Bool.{Bool}
use mathlib.Core.Logic.{◌↔◌, ◌⊎◌, inl, inr}
use mathlib.Core.Path.{◌≡◌, ◌∙◌}
use Prim.Native.Nat.{ℕ, zero, suc, ◌≤◌, ◌<◌}
use native.Mathlib.Decide.{dec_le, ℕ_discrete}
use native.Mathlib.Nat.{le_refl, le_trans, le_antisymm, le_of_eq}
use native.Mathlib.Omega.{arith}
use borrow.Author.Tests.{leb-true, leb-false, le-leb, lt-leb}
use lib.Dec.{leb}
use Rattle.theory.specs.Analysis.{IsResponse, response, after_rounds}
use Rattle.theory.proofs.Search.{IsFirst, first_some, first_none, first_is, first_is_none, first_exists}

-- larger at larger times
abbrev pub Monotone : (ℕ → ℕ) → Type 0
Monotone f = (t u : ℕ) → t ≤ u → f t ≤ f u

module _ {f : ℕ → ℕ} {D : ℕ} where
  -- no two numbers are the response time
  response_le : {t u : ℕ} → IsResponse f D t → IsResponse f D u → t ≤ u
  response_le {t} {u} r s = let not_later : ¬ (u < t) = λ l. omega (arith, r.least u s.positive l, s.enough) in omega arith

  pub response_unique : {t u : ℕ} → IsResponse f D t → IsResponse f D u → t ≡ u
  response_unique r s = le_antisymm (response_le r s) (response_le s r)

module _ (f : ℕ → ℕ) (D : ℕ) where
  enough_at : ℕ → Bool
  enough_at t = leb (f t) t

  -- the computed response time is the response time
  pub response_is : {t : ℕ} → (response f D ≡ Some t) ↔ IsResponse f D t
  unfolding response enough_at
  response_is {t} = (there, back)
    where
      there : response f D ≡ Some t → IsResponse f D t
      there e =
          let i : IsFirst 1 D enough_at t = first_some 1 D enough_at e in
          record {
            positive = i.from;
            within = omega arith;
            enough = leb-true _ _ i.passes;
            least = λ u l k. leb-false _ _ (i.earlier u l k);
          }

      back : IsResponse f D t → response f D ≡ Some t
      back r =
          first_is 1 D enough_at
          (record {
            from = r.positive;
            before = omega arith;
            passes = le-leb _ _ r.enough;
            earlier = λ u l k. lt-leb _ _ (r.least u l k);
          })

  -- there is none exactly if at every time up to D the demand is more
  pub no_response_is : (response f D ≡ None) ↔ ((t : ℕ) → 1 ≤ t → t ≤ D → t < f t)
  unfolding response enough_at
  no_response_is = (
    λ e t l h. leb-false _ _ (first_none 1 D enough_at e t l (omega arith)),
    λ h. first_is_none 1 D enough_at (λ t l k. lt-leb _ _ (h t l (omega arith))),
  )

  -- a time up to D that is enough gives a response time no later
  pub response_exists : {u : ℕ} → 1 ≤ u → u ≤ D → f u ≤ u → (t : ℕ) × IsResponse f D t × (t ≤ u)
  unfolding response enough_at
  response_exists {u} l h e =
      let (t, q, k) = first_exists 1 D enough_at u l (omega arith) (le-leb _ _ e) in
      (t, response_is.0 q, k)

-- for less demand and a deadline no shorter there is a response time too, no later
pub response_less : {f g : ℕ → ℕ} {D E u : ℕ} → ((t : ℕ) → f t ≤ g t) → D ≤ E → IsResponse g D u → (t : ℕ) × IsResponse f E t × (t ≤ u)
response_less {f} {g} {D} {E} {u} less h r = response_exists f E r.positive (omega arith) (le_trans (less u) r.enough)

-- ---- the rounds

module _ {f : ℕ → ℕ} (mono : Monotone f) {a : ℕ} (low : (t : ℕ) → a ≤ f t) where
  -- each round's value is at least the one before
  pub rounds_grow : (n : ℕ) → after_rounds f a n ≤ after_rounds f a (suc n)
  unfolding after_rounds
  rounds_grow zero = low a
  rounds_grow (suc n) = mono (after_rounds f a n) (after_rounds f a (suc n)) (rounds_grow n)

  -- no round passes a time that is enough
  pub rounds_below : {t : ℕ} → f t ≤ t → (n : ℕ) → after_rounds f a n ≤ t
  unfolding after_rounds
  rounds_below {t} e zero = le_trans (low t) e
  rounds_below {t} e (suc n) = le_trans (mono (after_rounds f a n) t (rounds_below e n)) e

  rounds_from : (n : ℕ) → a ≤ after_rounds f a n
  unfolding after_rounds
  rounds_from zero = le_refl a
  rounds_from (suc n) = low (after_rounds f a n)

  -- where a round changes nothing the least time is reached
  pub rounds_least : (n : ℕ) {D : ℕ} → 1 ≤ a → after_rounds f a (suc n) ≡ after_rounds f a n → after_rounds f a n ≤ D → IsResponse f D (after_rounds f a n)
  unfolding after_rounds
  rounds_least n {D} one same h =
      record {
        positive = le_trans one (rounds_from n);
        within = h;
        enough = le_of_eq same;
        least = λ u l k. more u k (dec_le (f u) u);
      }
    where
      more : (u : ℕ) → u < after_rounds f a n → Dec (f u ≤ u) → u < f u
      more u k (yes e) = let z : ⊥ = omega (arith, rounds_below e n) in absurd z
      more u k (no e) = omega arith

  -- after at most D + 1 rounds the value stays the same or has passed D
  pub rounds_end : (D : ℕ) → (n : ℕ) × (n ≤ suc D) × ((D < after_rounds f a n) ⊎ (after_rounds f a (suc n) ≡ after_rounds f a n))
  rounds_end D = settle (go (suc D))
    where
      go : (m : ℕ) → ((n : ℕ) × (n < m) × (after_rounds f a (suc n) ≡ after_rounds f a n)) ⊎ (m ≤ after_rounds f a m)
      go zero = inr (omega arith)
      go (suc m) = next (go m) (ℕ_discrete (after_rounds f a (suc m)) (after_rounds f a m))
        where
          next : ((n : ℕ) × (n < m) × (after_rounds f a (suc n) ≡ after_rounds f a n)) ⊎ (m ≤ after_rounds f a m)
              → Dec (after_rounds f a (suc m) ≡ after_rounds f a m)
              → ((n : ℕ) × (n < suc m) × (after_rounds f a (suc n) ≡ after_rounds f a n)) ⊎ (suc m ≤ after_rounds f a (suc m))
          next (inl (n, l, e)) d = inl (n, omega arith, e)
          next (inr h) (yes e) = inl (m, omega arith, e)
          next (inr h) (no ne) = inr (omega (arith, rounds_grow m))

      settle : ((n : ℕ) × (n < suc D) × (after_rounds f a (suc n) ≡ after_rounds f a n)) ⊎ (suc D ≤ after_rounds f a (suc D))
          → (n : ℕ) × (n ≤ suc D) × ((D < after_rounds f a n) ⊎ (after_rounds f a (suc n) ≡ after_rounds f a n))
      settle (inl (n, l, e)) = (n, omega arith, inr e)
      settle (inr h) = (suc D, omega arith, inl h)

  -- the rounds reach the response time, and pass the deadline exactly if there is none
  pub rounds_reach : {D t : ℕ} → 1 ≤ a → IsResponse f D t → (n : ℕ) × (n ≤ suc D) × (after_rounds f a n ≡ t) × (after_rounds f a (suc n) ≡ t)
  rounds_reach {D} {t} one r = go (rounds_end D)
    where
      go : (n : ℕ) × (n ≤ suc D) × ((D < after_rounds f a n) ⊎ (after_rounds f a (suc n) ≡ after_rounds f a n))
          → (n : ℕ) × (n ≤ suc D) × (after_rounds f a n ≡ t) × (after_rounds f a (suc n) ≡ t)
      go (n, l, inl h) = let z : ⊥ = omega (arith, rounds_below r.enough n, r.within) in absurd z
      go (n, l, inr e) =
          let same : after_rounds f a n ≡ t = response_unique (rounds_least n {D = D} one e (omega (arith, rounds_below r.enough n, r.within))) r in
          (n, l, same, e ∙ same)

  pub rounds_pass : {D : ℕ} → 1 ≤ a → ((t : ℕ) → 1 ≤ t → t ≤ D → t < f t) → (n : ℕ) × (n ≤ suc D) × (D < after_rounds f a n)
  unfolding after_rounds
  rounds_pass {D} one never = go (rounds_end D)
    where
      go : (n : ℕ) × (n ≤ suc D) × ((D < after_rounds f a n) ⊎ (after_rounds f a (suc n) ≡ after_rounds f a n)) → (n : ℕ) × (n ≤ suc D) × (D < after_rounds f a n)
      go (n, l, inl h) = (n, l, h)
      go (n, l, inr e) = (n, l, past (dec_le (after_rounds f a n) D))
        where
          past : Dec (after_rounds f a n ≤ D) → D < after_rounds f a n
          past (yes h) = let z : ⊥ = omega (arith, never (after_rounds f a n) (le_trans one (rounds_from n)) h, e) in absurd z
          past (no h) = omega arith

-- ---- for a loop over the rounds: the demand is more at every time below the value

abbrev pub MoreBelow : (ℕ → ℕ) → ℕ → Type 0
MoreBelow f x = (u : ℕ) → 1 ≤ u → u < x → u < f u

pub more_below_start : {f : ℕ → ℕ} {a : ℕ} → ((t : ℕ) → a ≤ f t) → MoreBelow f a
more_below_start low u l h = omega (arith, low u)

pub more_below_round : {f : ℕ → ℕ} {x : ℕ} → Monotone f → MoreBelow f x → MoreBelow f (f x)
more_below_round {f} {x} mono below u l h = go (dec_le x u)
  where
    go : Dec (x ≤ u) → u < f u
    go (yes k) = omega (arith, mono x u k)
    go (no k) = below u l (omega arith)

pub more_below_is : {f : ℕ → ℕ} {D x : ℕ} → MoreBelow f x → 1 ≤ x → x ≤ D → f x ≤ x → IsResponse f D x
more_below_is below l h e = record { positive = l; within = h; enough = e; least = below }

pub more_below_none : (f : ℕ → ℕ) (D : ℕ) {x : ℕ} → MoreBelow f x → D < x → response f D ≡ None
more_below_none f D below h = (no_response_is f D).1 (λ t l k. below t l (omega arith))
