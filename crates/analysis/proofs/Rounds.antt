-- Laws of the rounds: before each the demand is more at every earlier time, so that the first time that is enough is the least.
use Rattle.std.specs.Prelude.{None, Some}
use mathlib.Core.List.{List}
use mathlib.Core.Path.{◌≡◌}
use Prim.Native.Nat.{ℕ, ◌+◌, ◌≤◌, ◌<◌}
use native.Mathlib.Nat.{le_refl}
use native.Mathlib.Omega.{arith}
use Rattle.theory.specs.Analysis.{Higher, demand}
use Rattle.theory.proofs.Laws.{within_refl, demand_mono, response_is}
use Rattle.theory.proofs.Laws.{MoreBelow, more_below_start, more_below_round, more_below_is, more_below_none}
use Rattle.theory.proofs.Demand.{demand_least}
use Rattle.analysis.specs.Inside.Response.{response_to}

module _ (above : List Higher) (blocked own : ℕ) where
  abbrev pub the_demand : ℕ → ℕ
  the_demand = demand blocked own above

  grows : (t u : ℕ) → t ≤ u → the_demand t ≤ the_demand u
  grows t u h = demand_mono (le_refl blocked) (le_refl own) (within_refl above) h

  -- at every time before x the demand is more
  pub record NotBefore (x : ℕ) : Type 0 where
    pub from_one : 1 ≤ x
    pub more : MoreBelow the_demand x

  pub not_before_first : 1 ≤ own → NotBefore (blocked + own)
  not_before_first h = record { from_one = omega arith; more = more_below_start (demand_least blocked own above) }

  module _ {x : ℕ} (b : NotBefore x) where
    pub not_before_demand : x < the_demand x → NotBefore (the_demand x)
    not_before_demand l = record { from_one = omega (arith, b.from_one); more = more_below_round grows b.more }

    module _ {deadline : ℕ} where
      pub found : the_demand x ≤ x → x ≤ deadline → Some x ≡ response_to above blocked own deadline
      unfolding response_to
      found l h = rw ((response_is the_demand deadline).1 (more_below_is b.more b.from_one h l))

      pub never : deadline < x → None ≡ response_to above blocked own deadline
      unfolding response_to
      never h = rw (more_below_none the_demand deadline b.more h)
