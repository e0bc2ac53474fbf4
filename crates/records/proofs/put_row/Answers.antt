-- `put_row` meets its contract: the two tests, then the fields.
use mathlib.Core.Path.{sym, ◌∙◌}
use Rattle.records.proofs.Faces.{put_there, put_fits, put_both, not_put, was_put}
use Rattle.records.proofs.Rows.{there_has}
use Rattle.records.proofs.put_row.Goals as goal
use Rattle.records.proofs.put_row.Goals.{then-not-row_there-via-then-not-row_there, then-not-row_there-via-else-not-row_there+then-not-each_fits}

pub each_fits-requires : goal.each_fits-requires
each_fits-requires c = (there_has _ _ _ (sym c.row_there.ensures ∙ c.if-not-row_there.false)).0

pub returns-then-not-row_there : goal.returns-then-not-row_there
returns-then-not-row_there c =
    not_put _ _ _ _
    (elim c.then-not-row_there.branch [
      | then-not-row_there-via-then-not-row_there w ↦ put_there _ _ _ _ (sym c.row_there.ensures ∙ w.if-not-row_there.true)
      | then-not-row_there-via-else-not-row_there+then-not-each_fits w ↦ put_fits _ _ _ _ (sym w.each_fits.ensures ∙ w.if-not-each_fits.true)
    ])

pub put_fields-requires : goal.put_fields-requires
put_fields-requires c = put_both _ _ _ _ (sym c.row_there.ensures ∙ c.if-not-row_there.false) (sym c.each_fits.ensures ∙ c.if-not-each_fits.false)

pub returns : goal.returns
returns c =
    let can = put_both _ _ _ _ (sym c.row_there.ensures ∙ c.if-not-row_there.false) (sym c.each_fits.ensures ∙ c.if-not-each_fits.false) in
    was_put _ _ _ _ _ _ can (λ i. (c.type_inv.bytes i).fits) c.put_fields.ensures
