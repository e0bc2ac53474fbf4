-- `next_frame` meets its contract.
use Rattle.std.proofs.Common.{refl, arith}
use Rattle.sheet.proofs.Rounds.{next_below, next_past}
use Rattle.sheet.proofs.next_frame.Goals as goal

pub returns-then-next-count : goal.returns-then-next-count
returns-then-next-count c = next_below _ _ _ (omega arith) (omega arith) refl c.if-next-count.true

pub returns-else-next-count : goal.returns-else-next-count
returns-else-next-count c = next_past _ _ _ (omega arith) (omega arith) refl c.if-next-count.false
