-- `series_of` meets its contract.
use Rattle.std.proofs.Common.{sym, ◌∙◌}
use Rattle.worst.proofs.Roles.{series_above, series_own, series_blocks, series_absent}
use Rattle.worst.proofs.series_of.Goals as goal

pub returns-then-q-case : goal.returns-then-q-case
returns-then-q-case c = series_above _ _ c.args.task c.args.shape c.requires.1 c.if-q-case.true

pub returns-then-q-case-2 : goal.returns-then-q-case-2
returns-then-q-case-2 c = series_own c.args.case c.args.q c.args.task c.if-q-case.false c.if-q-case-2.true

pub returns-then-eq : goal.returns-then-eq
returns-then-eq c = series_blocks c.args.case c.args.q c.args.task c.if-q-case.false c.if-q-case-2.false _ c.largest_frame.ensures (sym c.eq.ensures ∙ c.if-eq.true)

pub returns-else-eq : goal.returns-else-eq
returns-else-eq c = series_absent c.args.case c.args.q c.args.task c.if-q-case.false c.if-q-case-2.false (sym c.eq.ensures ∙ c.if-eq.false)
