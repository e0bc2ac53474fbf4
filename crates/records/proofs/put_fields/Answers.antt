-- `put_fields` meets its contract: the fields of a row, one after another.
use Rattle.std.proofs.lemmas.Slice.Zip.{zip_turn, zip_end}
use native.Mathlib.Omega.{arith}
use lib.ListN.{length-append}
use Rattle.records.proofs.Faces.{puts}
use Rattle.records.proofs.Placing.{row_none, row_more, row_end, row_all}
use Rattle.records.proofs.Rows.{as_many}
use Rattle.records.proofs.put_fields.Goals as goal

pub loop-width-init : goal.loop-width-init
loop-width-init c = row_none _ _ _ _

pub overflow_add-next : goal.overflow_add-next
overflow_add-next c =
    let h = puts _ _ _ _ c.requires in
    let turn = zip_turn c.args.widths.now c.args.numbers.now _ c.into_iter-width-iterator.result c.loop-width.width-iterator c.next.new.self _
    (cc) (cc) c.loop-width.yielded_by _ c.in-Some.is c.next.ensures.steps in
    omega (arith, h.short, row_end h.widths h.room h.fits c.loop-width.invariant turn.0 _ (turn.2 0))

pub loop-width-preserved : goal.loop-width-preserved
loop-width-preserved c =
    let h = puts _ _ _ _ c.requires in
    let turn = zip_turn c.args.widths.now c.args.numbers.now _ c.into_iter-width-iterator.result c.loop-width.width-iterator c.next.new.self _
    (cc) (cc) c.loop-width.yielded_by _ c.in-Some.is c.next.ensures.steps in
    rw c.put_field.ensures.1 (row_more h.widths h.room h.fits c.loop-width.invariant turn.0 _ _ _ (turn.2 0) (turn.3 0) (simp length-append))

pub returns : goal.returns
returns c =
    let h = puts _ _ _ _ c.requires in
    let all = zip_end c.args.widths.now c.args.numbers.now _ c.into_iter-width-iterator.result c.loop-width.width-iterator c.next.new.self _
    (cc) (cc) c.loop-width.yielded_by c.in-None.is c.next.ensures.steps in
    row_all (as_many _ _ h.fits) c.loop-width.invariant (omega (arith, as_many _ _ h.fits))
