-- `check_word::feed` takes one byte into the register. The loop's invariant: the steps that are left of the register give what eight gave of the first.
use mathlib.Core.Path.{refl, ◌∙◌}
use Rattle.check_word.proofs.Register.{shifted_turn, shifted_end}
use Rattle.check_word.proofs.Words.{topped_lt, fed_is}
use Rattle.check_word.proofs.feed.Goals as goal

pub loop-init : goal.loop-init
loop-init c = (topped_lt c.args.c c.args.b c.ranges.c.fits, refl)

pub loop-preserved : goal.loop-preserved
loop-preserved c = (c.shift-r.type_inv, shifted_turn 8 _ _ _ c.loop-test.true c.shift-r.ensures ∙ c.loop.invariant.1)

pub returns : goal.returns
returns c = shifted_end 8 _ _ c.loop-test.false c.loop.invariant.0 ∙ c.loop.invariant.1 ∙ fed_is c.args.c c.args.b c.ranges.b.fits
