-- `take_row` meets its contract: the two tests, then the fields.
use mathlib.Core.Path.{sym, ◌∙◌}
use Rattle.records.proofs.Faces.{take_there, take_slots, take_both, not_taken, was_taken}
use Rattle.records.proofs.take_row.Goals as goal
use Rattle.records.proofs.take_row.Goals.{then-not-row_there-via-then-not-row_there, then-not-row_there-via-else-not-row_there+then-numbers-widths}

pub returns-then-not-row_there : goal.returns-then-not-row_there
returns-then-not-row_there c =
    not_taken _ _ _ _
    (elim c.then-not-row_there.branch [
      | then-not-row_there-via-then-not-row_there w ↦ take_there _ _ _ _ (sym c.row_there.ensures ∙ w.if-not-row_there.true)
      | then-not-row_there-via-else-not-row_there+then-numbers-widths w ↦ take_slots _ _ _ _ w.if-numbers-widths.true
    ])

pub take_fields-requires : goal.take_fields-requires
take_fields-requires c = take_both _ _ _ _ (sym c.row_there.ensures ∙ c.if-not-row_there.false) c.if-numbers-widths.false

pub returns : goal.returns
returns c =
    let can = take_both _ _ _ _ (sym c.row_there.ensures ∙ c.if-not-row_there.false) c.if-numbers-widths.false in
    was_taken _ _ _ _ _ _ can c.take_fields.ensures.0 c.take_fields.ensures.1
