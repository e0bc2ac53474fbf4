-- `respond` meets its contract: x is from 1 up, and at every time before it the demand is more.
use Rattle.std.proofs.Common.{arith}
use Rattle.analysis.proofs.Rounds.{not_before_first, not_before_demand, found, never}
use Rattle.analysis.proofs.response.respond.Goals as goal

pub loop-x-init : goal.loop-x-init
loop-x-init c tallies = not_before_first _ _ _ c.requires.1

pub demand-next-requires : goal.demand-next-requires
demand-next-requires c = (omega (arith, (c.loop-x.invariant c.requires.0).from_one), c.requires.0)

pub returns-then-next-x : goal.returns-then-next-x
returns-then-next-x c tallies = found _ _ _ (c.loop-x.invariant tallies) (rw (← c.demand-next.ensures tallies) c.if-next-x.true) (omega arith)

pub loop-x-preserved : goal.loop-x-preserved
loop-x-preserved c tallies = rw (c.demand-next.ensures tallies) (not_before_demand _ _ _ (c.loop-x.invariant tallies) (rw (← c.demand-next.ensures tallies) (omega arith)))

pub returns : goal.returns
returns c tallies = never _ _ _ (c.loop-x.invariant tallies) (omega arith)
