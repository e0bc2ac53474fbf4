-- `cast_of` meets its contract.
use mathlib.Core.Path.{◌≡◌, sym, ◌∙◌}
use native.Mathlib.Omega.{arith}
use borrow.Author.Rules.{rules}
use lib.ListN.{length}
use Rattle.sheet.specs.Constants.{most_tasks}
use Rattle.order.specs.Ordered.{no_place}
use Rattle.player.proofs.Staging.{cast_is, numbers_mapped}
use Rattle.player.proofs.cast_of.Goals as goal

pub returns : goal.returns
returns c =
    let o = c.in_order-ordered.result in
    let m = c.map-order.ensures.items in
    let room : length o.places ≡ most_tasks = search rules in
    cast_is _ _ o _ c.map-order.result c.in_order-ordered.ensures c.entry_count.ensures
    (numbers_mapped o.places c.map-order.result (m.long ∙ sym room) (λ i h. let (p, q, k) = m.at i no_place 0 (omega arith) in search rules))
