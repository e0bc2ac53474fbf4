-- `put_head` puts first frames and count, one behind the other.
use Rattle.std.proofs.Common.{rules, ◌≡◌, ◌<◌, ℕ, map, length, get_or, take, sym, ap, ◌∙◌, arith}
use Rattle.std.proofs.lemmas.List.{length-map, get_or-map, ext_get_or, take-map}
use Rattle.records.proofs.Putting.{row_placed}
use Rattle.worst.specs.Inside.Plans.{no_series, plan_firsts}
use Rattle.worst.proofs.Putting.{firsts_can, count_can, head_placed}
use Rattle.worst.proofs.put_head.Goals as goal

pub returns : goal.returns
returns c =
    let plan = c.args.plan in
    let b = c.args.bytes.now in
    let sound = c.requires.0 in
    let items = c.map-firsts.ensures.items in
    let long : length c.map-firsts.result ≡ 16 = search rules in
    let at : (i : ℕ) → i < 16 → get_or c.map-firsts.result i 0 ≡ (get_or plan.series i no_series).next = λ i l. let (p, q, e) = items.at i no_series 0 l in search rules in
    let mapped : c.map-firsts.result ≡ map (λ series. series.next) plan.series =
    ext_get_or 0 _ _ (long ∙ sym sound.room ∙ sym (length-map plan.series (λ series. series.next)))
    (λ i l. at i (omega arith) ∙ sym (get_or-map (λ series. series.next) plan.series i no_series 0 (omega (arith, sound.room)))) in
    let taken : take plan.count c.map-firsts.result ≡ plan_firsts plan = ap (take plan.count) mapped ∙ take-map (λ series. series.next) plan.count plan.series in
    let put = rw taken at c.append_row-at.ensures in
    let per_task = c.first_frame_widths-per_task.ensures in
    let widths = c.count_widths-widths.ensures in
    let first = row_placed b _ _ _ (firsts_can plan sound b c.requires.2 _ per_task) put in
    let count = row_placed _ _ _ _ (count_can plan sound b c.requires.2 _ per_task first _ widths _ c.requires.1) c.append_row.ensures in
    head_placed plan sound b c.requires.2 _ per_task first _ widths _ c.requires.1 count
