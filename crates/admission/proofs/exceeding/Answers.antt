-- `exceeding` meets its contract.
use Rattle.std.specs.Prelude.{nat_lt}
use Rattle.std.proofs.Common.{◌≡◌, ◌-◌, length, refl, sym, ◌∙◌, arith, rules, tests}
use Rattle.std.proofs.lemmas.Iterator.{YieldsList-from_range}
use Rattle.std.proofs.lemmas.Iterator.Adapters.{option_map_id}
use Rattle.std.proofs.lemmas.Iterator.Search.{find_from_yields_List}
use Rattle.theory.specs.Tasks.{work}
use Rattle.admission.specs.Inside.Frames.{of_frames}
use Rattle.admission.proofs.Reasons.{exceeding_found}
use Rattle.admission.proofs.exceeding.Goals as goal

pub returns : goal.returns
returns c =
    let frames = c.args.frames.now in
    let whole : length frames - 0 ≡ length frames = omega arith in
    sym (option_map_id _)
    ∙ find_from_yields_List (λ k. nat_lt c.sum_from-sum.result (work (of_frames frames) k c.args.n)) c.find.new.self _ c.find.result c.find.ensures.ran (YieldsList-from_range 0 (length frames) _ refl whole) (λ x b q k. search (rules, tests))
    ∙ exceeding_found frames c.args.s c.args.n c.sum_from-sum.result c.sum_from-sum.ensures
