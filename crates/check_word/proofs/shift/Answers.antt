-- `check_word::shift` is one step of the register, whichever its first bit.
use Rattle.check_word.proofs.Words.{step_high, step_low}
use Rattle.check_word.proofs.shift.Goals as goal

pub returns-then-c-ge32768 : goal.returns-then-c-ge32768
returns-then-c-ge32768 c = step_high c.args.c c.ranges.c.fits c.if-c-ge32768.true

pub returns-else-c-ge32768 : goal.returns-else-c-ge32768
returns-else-c-ge32768 c = step_low c.args.c c.ranges.c.fits c.if-c-ge32768.false
