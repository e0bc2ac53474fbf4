-- `demand` meets its contract: the work of the tasks above is added, from the lowest up.
use Rattle.std.proofs.Common.{ℕ, ◌<◌, ◌^◌, arith}
use Rattle.analysis.specs.Inside.Demand.{Counted, released}
use Rattle.analysis.specs.declared.demand.Tally.{Tally}
use Rattle.analysis.proofs.Tallies.{released_bound, added_none, inside, counted_next, added_next, added_all}
use Rattle.analysis.proofs.demand.demand.Goals as goal
use Rattle.theory.specs.Analysis.{Higher}

-- the work of a task above is less than the time and its period together
few : (h : Higher) (tally : Tally) (t : ℕ) → Counted h tally → t < 2 ^ 32 → released h t < 2 ^ 33
few h tally t is small = omega (arith, released_bound is t, is.tally_of.period_fits)

pub loop-tally-init : goal.loop-tally-init
loop-tally-init c =
    (tt, tt, rw (c.into_iter-tally-iterator.ensures.into_iter_gives, c.rev-tally-items.ensures.source, c.iter.ensures.rest) (added_none _ _ _ _ c.ranges.blocked.fits c.ranges.own.fits))

pub released-total-requires : goal.released-total-requires
released-total-requires c = (c.requires.0, (_, counted_next _ _ _ _ _ _ _ _ c.loop-tally.invariant.2 c.in-Some.ensures.steps c.requires.1))

pub overflow_add-total-in-loop-tally : goal.overflow_add-total-in-loop-tally
overflow_add-total-in-loop-tally c =
    let is = counted_next _ _ _ _ _ _ _ _ c.loop-tally.invariant.2 c.in-Some.ensures.steps c.requires.1 in
    record { fits = omega (arith, c.released-total.ensures _ is, few _ _ c.args.t is c.ranges.t.fits, c.loop-tally.invariant.2.small, inside _ _ _ _ _ _ _ _ c.loop-tally.invariant.2 c.in-Some.ensures.steps, c.requires.1.few) }

pub loop-tally-preserved : goal.loop-tally-preserved
loop-tally-preserved c =
    let is = counted_next _ _ _ _ _ _ _ _ c.loop-tally.invariant.2 c.in-Some.ensures.steps c.requires.1 in (
      tt,
      tt,
      added_next _ _ _ _ _ _ _ _ c.loop-tally.invariant.2 c.in-Some.ensures.steps _
          (λ tallies. c.released-total.ensures _ (counted_next _ _ _ _ _ _ _ _ c.loop-tally.invariant.2 c.in-Some.ensures.steps tallies))
          (omega (arith, c.released-total.ensures _ is, few _ _ c.args.t is c.ranges.t.fits)),
    )

pub returns : goal.returns
returns c = added_all _ _ _ _ c.loop-tally.invariant.2 c.in-None.ensures.steps.0
