-- A missed task and its blocker by their numbers.
use Rattle.std.specs.Prelude.{None, Option, Some, MatchOption}
use Rattle.std.specs.Option.{IsSomeAnd}
use mathlib.Core.List.{List}
use mathlib.Core.Path.{◌≡◌, sym}
use Prim.Native.Nat.{ℕ, ◌<◌}
use native.Mathlib.Omega.{arith}
use lib.ListN.{length, get_or}
use Rattle.theory.specs.Analysis.{blocker}
use Rattle.theory.proofs.Blocking.{blocker_is}
use Rattle.order.specs.Ordered.{in_use, tasks_in_order, numbers_of, blocker_at}
use Rattle.order.specs.declared.Ordered.{Ordered}
use Rattle.order.specs.declared.Place.{Place}
use Rattle.analysis.specs.Times.{number_at, blocker_number}
use Rattle.analysis.specs.declared.Verdict.TheVariants.{Missed}
use Rattle.analysis.proofs.Placed.{places_of, number_there}

module _ (o : Ordered) (places : List Place) (are : places ≡ in_use o) (p : ℕ) where
  pub blocker_below : (q : ℕ) → blocker_at o p ≡ Some q → q < length places
  unfolding blocker_at
  blocker_below q e = omega (arith, (blocker_is (tasks_in_order o) p e).in_set, places_of o places are)

  module _ (d : Place) (inside : p < length places) where
    missed_by : (q : ℕ) → blocker_at o p ≡ Some q
        → Missed (get_or places p d).number (Some (get_or places q d).number) ≡ Missed (number_at (numbers_of o) p) (blocker_number (numbers_of o) (blocker (tasks_in_order o) p))
    unfolding blocker_at blocker_number
    missed_by q e = rw (e, number_there o places are p d inside, number_there o places are q d (blocker_below q e))

    missed_alone : blocker_at o p ≡ None
        → Missed (get_or places p d).number None ≡ Missed (number_at (numbers_of o) p) (blocker_number (numbers_of o) (blocker (tasks_in_order o) p))
    unfolding blocker_at blocker_number
    missed_alone e = rw (e, number_there o places are p d inside)

    -- with its blocker's number where it has one
    pub missed_with : (b r : Option ℕ) (P : ℕ → ℕ → Type 0) → b ≡ blocker_at o p → MatchOption b (r ≡ None) (λ q. IsSomeAnd r (P q))
        → ((q v : ℕ) → P q v → v ≡ (get_or places q d).number)
        → Missed (get_or places p d).number r ≡ Missed (number_at (numbers_of o) p) (blocker_number (numbers_of o) (blocker (tasks_in_order o) p))
    missed_with None r P e h is = rw h (missed_alone (sym e))
    missed_with (Some q) (Some v) P e h is = rw (is q v h) (missed_by q (sym e))
    missed_with (Some q) None P e h is = absurd h
