-- `frame_numbers` meets its contract.
use Rattle.std.proofs.Common.{rules, ◌*◌, ℕ, ap, arith, ◌∙◌}
use Rattle.records.proofs.Parts.{take_replicate}
use Rattle.sheet.proofs.Filled.{none_filled, filled_more}
use Rattle.writer.proofs.Tasks.{Slots, frame_slots, fields_few, fields_long}
use Rattle.writer.proofs.Numbers.{numbers_many, all_numbers}
use Rattle.writer.proofs.frame_numbers.Goals as goal

pub loop-j-init : goal.loop-j-init
loop-j-init c = let fields = ap (λ (n : ℕ). n * c.args.task.frame_count) c.frame_fields.ensures in
    let room = fields_few c.args.own _ c.requires in
    (fields, take_replicate (c.frame_fields.result * c.args.task.frame_count) frame_slots 0 (omega (arith, room, fields)) ∙ none_filled _ _ _)

pub frame_number-requires : goal.frame_number-requires
frame_number-requires c = let fields = c.loop-j.invariant.0 in
    let long = fields_long c.args.own _ _ c.requires fields in
    (c.requires, omega (arith, fields, long, c.loop-j-test.true))

pub loop-j-preserved : goal.loop-j-preserved
loop-j-preserved c = let slots : Slots c.args.task = record { frames = search rules; deadlines = search rules } in
    let fields = c.loop-j.invariant.0 in
    let long = fields_long c.args.own _ _ c.requires fields in
    let many = numbers_many c.args.task c.requires slots c.args.own in
    (fields, rw c.loop-j.invariant.1 (filled_more _ 0 _ c.loop-j.j 0 _ (omega (arith, many, fields, long, c.loop-j-test.true)) (omega (arith, long, c.loop-j-test.true)) c.frame_number.ensures))

pub returns : goal.returns
returns c = let slots : Slots c.args.task = record { frames = search rules; deadlines = search rules } in
    let fields = c.loop-j.invariant.0 in
    let long = fields_long c.args.own _ _ c.requires fields in
    rw c.loop-j.invariant.1 (all_numbers c.args.task c.requires slots c.args.own _ c.loop-j.j _ fields (omega (arith, long, c.loop-j.auto.j-end, c.loop-j-test.false)))
