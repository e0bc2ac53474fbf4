-- `largest` meets its contract.
use Rattle.std.specs.Prelude.{Option, unwrap_or}
use Rattle.std.specs.List.{reduce}
use Rattle.std.proofs.Common.{◌≡◌, ℕ, max, sym, ap, ◌∙◌}
use Rattle.std.proofs.lemmas.Iterator.{YieldsList-from_slice}
use Rattle.std.proofs.lemmas.Iterator.Adapters.{option_map_id}
use Rattle.std.proofs.lemmas.Iterator.Consumers.{YieldsList-from_copied, max_from_yields_List}
use Rattle.admission.proofs.Frames.{largest_reduced}
use Rattle.admission.proofs.largest.Goals as goal

pub returns : goal.returns
returns c =
    let frames = c.args.frames.now in
    let most : c.max.result ≡ reduce max frames =
    sym (option_map_id _) ∙ max_from_yields_List c.copied.result _ c.max.ensures.ran (YieldsList-from_copied (YieldsList-from_slice frames cc)) in
    c.unwrap_or.ensures ∙ ap (λ (o : Option ℕ). unwrap_or o 0) most ∙ largest_reduced frames
