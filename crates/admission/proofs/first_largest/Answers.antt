-- `first_largest` meets its contract.
use Rattle.std.specs.Prelude.{Option, unwrap_or, ◌==◌}
use Rattle.std.specs.List.{position_from}
use Rattle.std.proofs.Common.{◌≡◌, ℕ, ap, ◌∙◌, rules, tests}
use Rattle.std.proofs.lemmas.Iterator.{YieldsList-from_slice}
use Rattle.std.proofs.lemmas.Iterator.Adapters.{position_from-zero}
use Rattle.std.proofs.lemmas.Iterator.Search.{position_from_yields_List}
use Rattle.admission.proofs.Reasons.{largest_found}
use Rattle.admission.proofs.first_largest.Goals as goal

pub returns : goal.returns
returns c =
    let frames = c.args.frames.now in
    let place : c.position.result ≡ position_from (λ x. x == c.largest-most.result) 0 frames =
    position_from_yields_List (λ x. x == c.largest-most.result) _ _ c.position.result c.position.ensures.ran (YieldsList-from_slice frames cc) (λ x b q k. search (rules, tests))
    ∙ position_from-zero (λ x. x == c.largest-most.result) frames in
    c.unwrap_or.ensures ∙ ap (λ (o : Option ℕ). unwrap_or o 0) place ∙ largest_found frames c.largest-most.result c.largest-most.ensures
