-- `put_times` meets its contract: after p places the times of these stand at their numbers.
use Rattle.std.proofs.Common.{◌∙◌, ap, arith}
use Rattle.workbench.specs.Entry.{as_bytes}
use Rattle.workbench.proofs.Four.{block_fits, numbers_more, all_numbers}
use Rattle.workbench.proofs.put_times.Goals as goal

pub slice_bounds-put_task_times-end : goal.slice_bounds-put_task_times-end
slice_bounds-put_task_times-end c = omega (arith, block_fits c.args.a.now c.requires.0 c.args.bytes.now c.requires.1 c.loop-found.bytes c.loop-found.found-index c.loop-found.invariant.long c.loop-found-test.true)

pub loop-found-preserved : goal.loop-found-preserved
loop-found-preserved c =
    numbers_more c.args.a.now c.requires.0 c.args.bytes.now c.requires.1 c.loop-found.bytes _ c.loop-found.found-index c.loop-found-test.true c.loop-found.invariant
    (c.put_task_times.ensures ∙ ap as_bytes c.unwrap_or.ensures)

pub returns : goal.returns
returns c = all_numbers c.args.a.now c.requires.0 c.args.bytes.now c.requires.1 c.loop-found.bytes c.loop-found.found-index c.loop-found-test.false (omega arith) c.loop-found.invariant
