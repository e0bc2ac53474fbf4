-- `qualifies` meets its contract.
use Rattle.std.proofs.Common.{◌≡◌, ◌-◌, length, refl, ◌∙◌, arith, rules, tests}
use Rattle.std.proofs.lemmas.Iterator.{YieldsList-from_range}
use Rattle.std.proofs.lemmas.Iterator.Search.{all_from_yields_List}
use Rattle.theory.specs.Tasks.{frame_count}
use Rattle.admission.specs.Inside.Frames.{of_frames, from_at_least}
use Rattle.admission.proofs.Sums.{count_is}
use Rattle.admission.proofs.Starts.{qualifies_by}
use Rattle.admission.proofs.qualifies.Goals as goal

pub returns : goal.returns
returns c =
    let frames = c.args.frames.now in
    let whole : length frames - 0 ≡ frame_count (of_frames frames) = omega (arith, count_is frames) in
    all_from_yields_List (from_at_least (of_frames frames) c.args.s) c.all.new.self _ c.all.result c.all.ensures.ran (YieldsList-from_range 0 (length frames) _ refl whole) (λ x b q k. search (rules, tests))
    ∙ qualifies_by (of_frames frames) c.args.s
