-- `put_task_times` meets its contract: after k times, these stand first.
use Rattle.std.proofs.Common.{◌≡◌, ◌∙◌, length, arith, rules}
use Rattle.workbench.proofs.Four.{none_put, fours_more, all_put}
use Rattle.workbench.proofs.put_task_times.Goals as goal

pub loop-k-init : goal.loop-k-init
loop-k-init c = none_put _ _

pub loop-k-preserved : goal.loop-k-preserved
loop-k-preserved c =
    let eight : length c.args.times.now ≡ 8 = search rules in
    let put = c.copy_from_slice.ensures.after ∙ c.to_be_bytes.ensures in
    rw c.loop-k.invariant (fours_more c.args.bytes.now c.args.times.now c.loop-k.k _ (omega arith) put)

pub returns : goal.returns
returns c =
    let eight : length c.args.times.now ≡ 8 = search rules in
    rw c.loop-k.invariant (all_put _ _ _ (omega arith) (omega arith))
