-- `fixed_numbers` meets its contract.
use Rattle.std.proofs.Common.{rules}
use Rattle.writer.proofs.Tasks.{Slots}
use Rattle.writer.proofs.Numbers.{fixed_own, fixed_one}
use Rattle.writer.proofs.fixed_numbers.Goals as goal

pub returns-then-own : goal.returns-then-own
returns-then-own c = let slots : Slots c.args.task = record { frames = search rules; deadlines = search rules } in fixed_own c.args.task c.requires slots _ c.if-own.true

pub returns : goal.returns
returns c = let slots : Slots c.args.task = record { frames = search rules; deadlines = search rules } in
    fixed_one c.args.task c.requires slots _ _ c.if-own.false c.deadline_of-deadline.ensures
