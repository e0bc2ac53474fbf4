-- Laws of blocking and of the blocker: no lower Q is more than blocking + 1, and the blocker is the first lower task that has it.
use Rattle.std.specs.Prelude.{None, Some}
use mathlib.Core.Bool.{Bool, true, false, ◌&&◌, So, and-eq-true_iff, true≢false}
use mathlib.Core.List.{List, [], ◌∷◌, map}
use mathlib.Core.Path.{◌≡◌, sym, ◌∙◌, ap}
use Prim.Native.Nat.{ℕ, suc, ◌+◌, ◌-◌, ◌≤◌, ◌<◌, max}
use native.Mathlib.Decide.{dec_le}
use native.Mathlib.Nat.{le_dest, le_antisymm}
use native.Mathlib.Omega.{arith}
use borrow.Author.Tests.{leb-true, le-leb}
use lib.Dec.{leb}
use lib.ListN.{length, get_or, drop, length-drop, length-map, get_or-map, drop_of_length-le}
use lib.Seq.{get_or-drop, drop-cons}
use Rattle.theory.specs.Tasks.{Task, task_at, largest}
use Rattle.theory.specs.Analysis.{lower, largest_lock, blocking, blocker}
use Rattle.theory.proofs.Places.{zeros}
use Rattle.theory.proofs.Search.{IsFirst, first_some, first_none, Answer, answer, nothing, it_is}
use Rattle.theory.proofs.Work.{largest_le, largest_stands}

module _ (set : List Task) (p : ℕ) where
  lock_below : (i : ℕ) → get_or (map (λ t. t.lock) (lower set p)) i 0 ≡ (task_at set (suc p + i)).lock
  unfolding lower task_at
  lock_below i = get_or-map (λ t. t.lock) (drop (suc p) set) i zeros ∙ ap (λ t. t.lock) (get_or-drop (suc p) set i zeros)

  count_below : length (map (λ t. t.lock) (lower set p)) ≡ length set - suc p
  unfolding lower
  count_below = length-map (drop (suc p) set) (λ t. t.lock) ∙ length-drop (suc p) set

  -- a lower task's Q is at most the largest below, so at most blocking + 1
  pub lower_lock : (q : ℕ) → p < q → (task_at set q).lock ≤ largest_lock (lower set p)
  unfolding largest_lock
  lower_lock q h = let (i, e) = le_dest h in rw (← e, ← lock_below i) (largest_le (map (λ t. t.lock) (lower set p)) i)

  pub lower_lock_blocking : (q : ℕ) → p < q → (task_at set q).lock ≤ suc (blocking (lower set p))
  unfolding blocking
  lower_lock_blocking q h = omega (arith, lower_lock q h)

  -- where the largest Q below is not 0 some lower task has it
  some_below : 1 ≤ largest_lock (lower set p) → 1 ≤ length (map (λ t. t.lock) (lower set p))
  unfolding largest_lock largest
  some_below h = go (map (λ t. t.lock) (lower set p)) h
    where
      go : (cs : List ℕ) → 1 ≤ largest cs → 1 ≤ length cs
      go [] l = l
      go (c ∷ cs) l = omega arith

  largest_below : 1 ≤ largest_lock (lower set p) → (q : ℕ) × (p < q) × (q < length set) × ((task_at set q).lock ≡ largest_lock (lower set p))
  unfolding largest_lock
  largest_below h =
      let (i, l, e) = largest_stands (map (λ t. t.lock) (lower set p)) (some_below h) in
      (suc p + i, omega arith, omega (arith, count_below), sym (lock_below i) ∙ e)

  -- the blocker: the first lower task with the largest Q, where that is 2 or more
  pub record IsBlocker (b : ℕ) : Type 0 where
    pub below : p < b
    pub in_set : b < length set
    pub locks : 2 ≤ (task_at set b).lock
    pub has_largest : (task_at set b).lock ≡ largest_lock (lower set p)
    pub is_first : (q : ℕ) → p < q → q < b → (task_at set q).lock < largest_lock (lower set p)

  may_block : ℕ → Bool
  may_block q = leb 2 (task_at set q).lock && leb (largest_lock (lower set p)) (task_at set q).lock

  may_block_yes : (q : ℕ) → 2 ≤ (task_at set q).lock → largest_lock (lower set p) ≤ (task_at set q).lock → may_block q ≡ true
  unfolding may_block
  may_block_yes q two most = (and-eq-true_iff _ _).1 (le-leb _ _ two, le-leb _ _ most)

  pub blocker_is : {b : ℕ} → blocker set p ≡ Some b → IsBlocker b
  unfolding blocker may_block
  blocker_is {b} e =
      let f : IsFirst (suc p) (length set - suc p) may_block b = first_some (suc p) (length set - suc p) may_block e in
      let both : So (leb 2 (task_at set b).lock) × So (leb (largest_lock (lower set p)) (task_at set b).lock) = (and-eq-true_iff _ _).0 f.passes in
      let two : 2 ≤ (task_at set b).lock = leb-true _ _ both.0 in
      let most : largest_lock (lower set p) ≤ (task_at set b).lock = leb-true _ _ both.1 in
      record {
        below = f.from;
        in_set = omega (arith, f.from, f.before);
        locks = two;
        has_largest = le_antisymm (lower_lock b f.from) most;
        is_first = λ q l u. less q l u (f.earlier q l u) two most (dec_le (largest_lock (lower set p)) (task_at set q).lock);
      }
    where
      less : (q : ℕ) → p < q → q < b → may_block q ≡ false → 2 ≤ (task_at set b).lock → largest_lock (lower set p) ≤ (task_at set b).lock
          → Dec (largest_lock (lower set p) ≤ (task_at set q).lock) → (task_at set q).lock < largest_lock (lower set p)
      less q l u x two most (no h) = omega arith
      less q l u x two most (yes h) =
          absurd (true≢false (sym (may_block_yes q (omega (arith, lower_lock b (omega arith))) h) ∙ x))

  -- without a blocker there is no blocking
  pub no_blocker : blocker set p ≡ None → blocking (lower set p) ≡ 0
  unfolding blocker may_block blocking
  no_blocker e = go (dec_le 2 (largest_lock (lower set p)))
    where
      go : Dec (2 ≤ largest_lock (lower set p)) → largest_lock (lower set p) - 1 ≡ 0
      go (no h) = omega arith
      go (yes h) =
          let (q, l, u, same) = largest_below (omega arith) in
          absurd (true≢false (sym (may_block_yes q (omega arith) (omega arith)) ∙ first_none (suc p) (length set - suc p) may_block e q l (omega arith)))

  -- with one, blocking is its Q less 1
  pub blocker_blocks : {b : ℕ} → blocker set p ≡ Some b → (task_at set b).lock ≡ suc (blocking (lower set p))
  unfolding blocking
  blocker_blocks e = let b : IsBlocker _ = blocker_is e in omega (arith, b.has_largest, b.locks)

  blocker_no_later : {b c : ℕ} → IsBlocker b → IsBlocker c → b ≤ c
  blocker_no_later {b} {c} i j = let not_later : ¬ (c < b) = λ l. omega (arith, i.is_first c j.below l, j.has_largest) in omega arith

  pub blocker_when : {b : ℕ} → IsBlocker b → blocker set p ≡ Some b
  unfolding blocking
  blocker_when {b} i = go (answer (blocker set p))
    where
      go : Answer (blocker set p) → blocker set p ≡ Some b
      go (nothing e) = let z : ⊥ = omega (arith, no_blocker e, i.has_largest, i.locks) in absurd z
      go (it_is c e) = e ∙ ap Some (le_antisymm (blocker_no_later (blocker_is e) i) (blocker_no_later i (blocker_is e)))

  pub no_blocker_when : largest_lock (lower set p) ≤ 1 → blocker set p ≡ None
  no_blocker_when h = go (answer (blocker set p))
    where
      go : Answer (blocker set p) → blocker set p ≡ None
      go (nothing e) = e
      go (it_is c e) = let b : IsBlocker c = blocker_is e in let z : ⊥ = omega (arith, b.has_largest, b.locks) in absurd z

  -- one task more from below
  pub largest_lock_step : suc p < length set → largest_lock (lower set p) ≡ max (task_at set (suc p)).lock (largest_lock (lower set (suc p)))
  unfolding largest_lock lower task_at largest
  largest_lock_step h = ap (λ ts. largest (map (λ t. t.lock) ts)) (drop-cons set (suc p) zeros h)

  pub largest_lock_last : length set ≤ suc p → largest_lock (lower set p) ≡ 0
  unfolding largest_lock lower largest
  largest_lock_last h = ap (λ ts. largest (map (λ t. t.lock) ts)) (drop_of_length-le set h)
