-- `frame_number` meets its contract.
use Rattle.std.proofs.Common.{rules}
use Rattle.writer.proofs.Tasks.{Slots}
use Rattle.writer.proofs.Numbers.{time_alone, time_by_turns, deadline_by_turns}
use Rattle.writer.proofs.frame_number.Goals as goal

pub returns-then-not-own : goal.returns-then-not-own
returns-then-not-own c = let slots : Slots c.args.task = record { frames = search rules; deadlines = search rules } in
    time_alone c.args.task c.requires.0 slots c.args.own _ c.requires.1 c.if-not-own.true

pub returns-then-j-eq0 : goal.returns-then-j-eq0
returns-then-j-eq0 c = let slots : Slots c.args.task = record { frames = search rules; deadlines = search rules } in
    time_by_turns c.args.task c.requires.0 slots c.args.own _ c.requires.1 c.if-not-own.false c.if-j-eq0.true

pub returns-else-j-eq0 : goal.returns-else-j-eq0
returns-else-j-eq0 c = let slots : Slots c.args.task = record { frames = search rules; deadlines = search rules } in
    deadline_by_turns c.args.task c.requires.0 slots c.args.own _ c.requires.1 c.if-not-own.false c.if-j-eq0.false
