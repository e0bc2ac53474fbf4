-- Two states that are the same at the places of a set stay so under the same choices; two runs that choose the same.
use Rattle.std.specs.Prelude.{None, Option, Some}
use mathlib.Core.List.{List}
use mathlib.Core.Path.{◌≡◌, refl, ap}
use Prim.Native.Nat.{ℕ, zero, suc, ◌≤◌, ◌<◌}
use native.Mathlib.Omega.{arith}
use lib.Dec.{eqb}
use lib.ListN.{length}
use Rattle.theory.specs.First.{first}
use Rattle.theory.specs.Tasks.{Task}
use Rattle.theory.specs.Runs.{State, Input, release, pending, pick, serve_lane, tick, step}
use Rattle.theory.proofs.Search.{first_same}
use Rattle.theory.proofs.Steps.{Picked, in_stretch, highest, idle, picked}

-- the same lanes at the first n places, and the same stretch under way
pub record SameState (n : ℕ) (s s' : State) : Type 0 where
  pub same_lanes : (q : ℕ) → q < n → s.lanes q ≡ s'.lanes q
  pub same_owner : s.owner ≡ s'.owner
  pub same_to_come : s.to_come ≡ s'.to_come

-- the place picked is one of the set, since a stretch under way is a task's of the set
pub picked_in : (set : List Task) (s : State) → (1 ≤ s.to_come → s.owner < length set) → (q : ℕ) → pick set s ≡ Some q → q < length set
picked_in set s held q e = go (picked set s)
  where
    go : Picked set s → q < length set
    go (in_stretch m under_way at) = let same : s.owner ≡ q = cc in rw (← same) (held (omega arith))
    go (highest u free at l pend earlier) = let same : u ≡ q = cc in rw (← same) l
    go (idle free at none_pending) = let z : ◌≡◌ {A = ℕ} 0 1 = cc in absurd (omega arith)

module _ {n : ℕ} {s s' : State} (same : SameState n s s') where
  pub same_release : (set : List Task) (t : ℕ) (i i' : Input) → ((q : ℕ) → q < n → i.release_of q ≡ i'.release_of q)
      → SameState n (release set t i s) (release set t i' s')
  unfolding release
  same_release set t i i' h =
      record {
        same_lanes = λ q l. rw (h q l, same.same_lanes q l);
        same_owner = same.same_owner;
        same_to_come = same.same_to_come;
      }

  same_tick : (o : Option ℕ) (new : ℕ) → ((q : ℕ) → o ≡ Some q → q < n) → SameState n (tick o new s) (tick o new s')
  unfolding tick
  same_tick None new h = same
  same_tick (Some p) new h =
      record {
        same_lanes = λ q l. ap (serve_lane (eqb q p)) (same.same_lanes q l);
        same_owner = refl;
        same_to_come = rw (same.same_lanes p (h p refl), same.same_to_come);
      }

pub same_pick : (set : List Task) {s s' : State} → SameState (length set) s s' → pick set s ≡ pick set s'
unfolding pick
same_pick set {s} {s'} same =
    go s.to_come s'.to_come same.same_to_come (first_same 0 (length set) _ _ (λ u l. ap pending (same.same_lanes u (omega arith))))
  where
    go : (m m' : ℕ) → m ≡ m' → first 0 (length set) (λ p. pending (s.lanes p)) ≡ first 0 (length set) (λ p. pending (s'.lanes p))
        → ◌≡◌ {A = Option ℕ}
        (elim m [ zero ↦ first 0 (length set) (λ p. pending (s.lanes p)) | suc n ↦ Some s.owner ])
        (elim m' [ zero ↦ first 0 (length set) (λ p. pending (s'.lanes p)) | suc n ↦ Some s'.owner ])
    go zero zero q e = e
    go (suc m) (suc m') q e = ap Some same.same_owner
    go zero (suc m') q e = absurd (omega arith)
    go (suc m) zero q e = absurd (omega arith)

-- a tick with the same choices
pub same_step : (set : List Task) (t : ℕ) {s s' : State} (i i' : Input) → SameState (length set) s s' → (1 ≤ s'.to_come → s'.owner < length set)
    → ((q : ℕ) → q < length set → i.release_of q ≡ i'.release_of q) → i.stretch ≡ i'.stretch
    → SameState (length set) (step set t i s) (step set t i' s')
unfolding step release
same_step set t {s} {s'} i i' same held releases stretches =
    let seen = same_release same set t i i' releases in
    rw (same_pick set seen, stretches) (same_tick seen (pick set (release set t i' s')) i'.stretch (picked_in set (release set t i' s') held))
