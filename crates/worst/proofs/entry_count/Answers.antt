-- `entry_count` meets its contract: the entries of the first tasks are counted.
use Rattle.std.proofs.Common.{◌≡◌, ◌+◌, ◌∙◌, arith}
use Rattle.worst.specs.Inside.Plans.{count_to}
use Rattle.worst.proofs.Counts.{planned, count_more, count_small, count_none, all_counted}
use Rattle.worst.proofs.entry_count.Goals as goal
use Rattle.worst.proofs.entry_count.Goals.{After-releases_to-total}

-- the sum with that of the next task
more : (c : After-releases_to-total) → c.loop-series.total + c.releases_to-total.result ≡ count_to c.args.plan (c.loop-series.series-index + 1)
more c = count_more c.args.plan _ _ _ (omega (arith, planned c.args.plan c.requires)) c.loop-series.invariant c.releases_to-total.ensures

pub loop-series-init : goal.loop-series-init
loop-series-init c = count_none _ c.requires

pub overflow_add-total : goal.overflow_add-total
overflow_add-total c =
    record { fits = omega (arith, more c, count_small c.args.plan c.requires (c.loop-series.series-index + 1) (omega (arith, planned c.args.plan c.requires)), c.requires.few_tasks) }

pub loop-series-preserved : goal.loop-series-preserved
loop-series-preserved c = more c

pub returns : goal.returns
returns c = c.loop-series.invariant ∙ all_counted _ c.requires _ (omega (arith, planned c.args.plan c.requires))
