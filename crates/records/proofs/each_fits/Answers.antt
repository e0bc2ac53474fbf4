-- `each_fits` meets its contract: a number fits its field where nothing is left of it behind the field's width.
use Rattle.std.proofs.lemmas.Iterator.{empty_from_Zip}
use Rattle.std.proofs.lemmas.Slice.Zip.{Zip-more}
use mathlib.Core.Path.{sym}
use native.Mathlib.Omega.{arith}
use Rattle.bits.proofs.Masks.{shifted_out, not_shifted_out}
use Rattle.records.proofs.Rows.{uneven, left_all, left_width, left_not, left_more, left_none}
use Rattle.records.proofs.each_fits.Goals as goal

pub returns-then-widths-numbers : goal.returns-then-widths-numbers
returns-then-widths-numbers c = sym (uneven _ _ c.if-widths-numbers.true)

pub loop-width-init : goal.loop-width-init
loop-width-init c = left_all c.requires c.if-widths-numbers.false (cc) (cc)

pub overflow_shr-number : goal.overflow_shr-number
overflow_shr-number c =
    let at = c.loop-width in
    let first = Zip-more at.width-iterator c.next.new.self _ _ c.in-Some.is c.next.ensures.steps in
    omega (arith, left_width at.invariant first.0 first.1)

pub returns-then-number-width-ne0 : goal.returns-then-number-width-ne0
returns-then-number-width-ne0 c =
    let at = c.loop-width in
    let first = Zip-more at.width-iterator c.next.new.self _ _ c.in-Some.is c.next.ensures.steps in
    sym (left_not at.invariant first.0 first.1 (not_shifted_out _ _ c.if-number-width-ne0.true))

pub loop-width-preserved : goal.loop-width-preserved
loop-width-preserved c =
    let at = c.loop-width in
    let first = Zip-more at.width-iterator c.next.new.self _ _ c.in-Some.is c.next.ensures.steps in
    left_more at.invariant first.0 first.1 (shifted_out _ _ c.if-number-width-ne0.false)

pub returns : goal.returns
returns c =
    let at = c.loop-width in
    let none = empty_from_Zip at.width-iterator c.next.new.self _ c.in-None.is c.next.ensures.steps at.invariant.even in
    sym (left_none at.invariant none.0 none.1)
