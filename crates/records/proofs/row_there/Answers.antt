-- `row_there` meets its contract: what is left of the row goes into what is left of the string's bits.
use Rattle.std.proofs.lemmas.Bool.Decides.{nat_tests}
use mathlib.Core.Path.{sym, ◌∙◌}
use native.Mathlib.Omega.{arith}
use Rattle.records.proofs.Rows.{there_room, there_past, room_not, room_more, room_all}
use Rattle.records.proofs.row_there.Goals as goal
use Rattle.records.proofs.row_there.Goals.{then-not-contains-via-then-not-contains, then-not-contains-via-else-not-contains+then-left-width}

pub returns-in_default : goal.returns-in_default
returns-in_default c = sym (there_past _ _ _ (omega (arith, c.in_default.ensures)))

pub loop-width-init : goal.loop-width-init
loop-width-init c = let h = c.in-Some.ensures in there_room _ _ _ _ (omega (arith, h.0)) (omega (arith, h.1))

pub returns-then-not-contains : goal.returns-then-not-contains
returns-then-not-contains c =
    sym (c.loop-width.invariant ∙ room_not _ _ _ c.loop-width-test.true (λ low high room.
    elim c.then-not-contains.branch [ then-not-contains-via-then-not-contains w ↦ grind (arith, nat_tests) | then-not-contains-via-else-not-contains+then-left-width w ↦ omega arith ]))

pub loop-width-preserved : goal.loop-width-preserved
loop-width-preserved c = c.loop-width.invariant ∙ room_more _ _ _ c.loop-width-test.true (grind (arith, nat_tests)) (grind (arith, nat_tests)) c.if-left-width.false

pub returns : goal.returns
returns c = sym (c.loop-width.invariant ∙ room_all _ _ _ c.loop-width-test.false)
