-- `first_qualifying` meets its contract.
use Rattle.std.proofs.Common.{◌≡◌, ◌-◌, length, refl, sym, ◌∙◌, arith, rules, tests}
use Rattle.std.proofs.lemmas.Iterator.{YieldsList-from_range}
use Rattle.std.proofs.lemmas.Iterator.Adapters.{option_map_id}
use Rattle.std.proofs.lemmas.Iterator.Search.{find_from_yields_List}
use Rattle.theory.specs.Tasks.{qualifies}
use Rattle.admission.specs.Inside.Frames.{of_frames}
use Rattle.admission.proofs.Starts.{starts_found}
use Rattle.admission.proofs.first_qualifying.Goals as goal

pub returns : goal.returns
returns c =
    let frames = c.args.frames.now in
    let whole : length frames - 0 ≡ length frames = omega arith in
    sym (option_map_id _)
    ∙ find_from_yields_List (qualifies (of_frames frames)) c.find.new.self _ c.find.result c.find.ensures.ran (YieldsList-from_range 0 (length frames) _ refl whole) (λ x b q k. search (rules, tests))
    ∙ starts_found frames
