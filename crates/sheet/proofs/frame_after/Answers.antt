-- `frame_after` meets its contract.
use Rattle.std.proofs.Common.{◌≡◌, min, length, refl, ap, ◌∙◌, arith, rules}
use Rattle.sheet.specs.Constants.{most_frames}
use Rattle.sheet.specs.Tasks.{next_round}
use Rattle.sheet.proofs.Records.{frames_counted}
use Rattle.sheet.proofs.Rounds.{round_within}
use Rattle.sheet.proofs.frame_after.Goals as goal

pub overflow_cast-result : goal.overflow_cast-result
overflow_cast-result c = let r = c.args.task in
    let long : length r.frames ≡ most_frames = search rules in
    let few = frames_counted r (min r.frame_count most_frames) (refl, long) in
    omega (arith, few, round_within c.args.k c.frame_count.result)

pub returns : goal.returns
returns c = c.next_frame.ensures ∙ ap (next_round _) c.frame_count.ensures
