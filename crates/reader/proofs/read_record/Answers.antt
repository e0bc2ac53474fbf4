-- `read_record` meets its contract.
use Rattle.std.proofs.Common.{rules, ℕ, get_or, sym, ap, ◌∙◌}
use Rattle.reader.proofs.Answers.{fixed_missing, frame_count_wrong, frames_missing, record_there}
use Rattle.reader.proofs.read_record.Goals as goal

pub returns-in_err-fixed : goal.returns-in_err-fixed
returns-in_err-fixed c = let told = fixed_missing _ c.requires c.args.own c.args.i c.args.at _ (sym c.fixed_row.ensures ∙ c.in_err-fixed.was) in search rules

pub returns-then-miscounted : goal.returns-then-miscounted
returns-then-miscounted c =
    let row = c.in_ok-fixed.field-0.numbers in
    let count = ap (λ (n : ℕ). get_or row n 0) c.frame_count_field.ensures in
    frame_count_wrong _ c.requires _ _ _ c.in_ok-fixed.field-0 (sym c.fixed_row.ensures ∙ c.in_ok-fixed.was) _ count (sym c.miscounted.ensures ∙ c.if-miscounted.true)

pub returns-in_err-frames : goal.returns-in_err-frames
returns-in_err-frames c =
    let row = c.in_ok-fixed.field-0.numbers in
    let count = ap (λ (n : ℕ). get_or row n 0) c.frame_count_field.ensures in
    let told =
    frames_missing _ c.requires _ c.args.i _ c.in_ok-fixed.field-0 (sym c.fixed_row.ensures ∙ c.in_ok-fixed.was) _ count (sym c.miscounted.ensures ∙ c.if-miscounted.false) _
    (sym c.frame_row.ensures ∙ c.in_err-frames.was) in
    search rules

pub returns : goal.returns
returns c =
    let row = c.in_ok-fixed.field-0.numbers in
    let count = ap (λ (n : ℕ). get_or row n 0) c.frame_count_field.ensures in
    record_there _ c.requires _ c.args.i _ c.in_ok-fixed.field-0 (sym c.fixed_row.ensures ∙ c.in_ok-fixed.was) _ count (sym c.miscounted.ensures ∙ c.if-miscounted.false)
    c.in_ok-frames.field-0 (sym c.frame_row.ensures ∙ c.in_ok-frames.was) _ c.task-task.ensures
