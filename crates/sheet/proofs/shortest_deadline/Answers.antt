-- `shortest_deadline` meets its contract.
use Rattle.std.specs.Prelude.{Option, unwrap_or}
use Rattle.std.specs.List.{reduce}
use Rattle.std.proofs.Common.{◌≡◌, ℕ, min, sym, ap, ◌∙◌}
use Rattle.std.proofs.lemmas.Iterator.{YieldsList-from_slice}
use Rattle.std.proofs.lemmas.Iterator.Adapters.{option_map_id}
use Rattle.std.proofs.lemmas.Iterator.Consumers.{YieldsList-from_copied, min_from_yields_List}
use Rattle.theory.specs.Tasks.{shortest_deadline}
use Rattle.sheet.specs.Tasks.{task_in}
use Rattle.sheet.proofs.Shortest.{smallest_reduced}
use Rattle.sheet.proofs.shortest_deadline.Goals as goal

pub returns : goal.returns
unfolding shortest_deadline
returns c =
    let deadlines = (task_in c.args.task).deadlines in
    let least : c.min.result ≡ reduce min deadlines =
    sym (option_map_id _) ∙ min_from_yields_List c.copied.result _ c.min.ensures.ran (YieldsList-from_copied (YieldsList-from_slice deadlines cc)) in
    c.unwrap_or.ensures ∙ ap (λ (o : Option ℕ). unwrap_or o 0) least ∙ smallest_reduced deadlines
