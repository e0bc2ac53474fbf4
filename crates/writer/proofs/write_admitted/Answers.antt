-- `write_admitted` meets its contract.
use Rattle.std.proofs.Common.{ℕ, List, ◌++◌, drop, ap, ap₂, ◌∙◌, length-take-le}
use Rattle.std.specs.Prelude.{Ok}
use Rattle.lent.specs.Lent.{laid}
use Rattle.writer.proofs.Outcomes.{version_most, no_room, done}
use Rattle.writer.proofs.write_admitted.Goals as goal

pub returns-then-bytes-size : goal.returns-then-bytes-size
returns-then-bytes-size c = no_room _ c.args.set c.args.bytes.now c.requires.0 c.requires.1 c.requires.2 (rw (← c.sheet_size-size.ensures) c.if-bytes-size.true)

pub put_sheet-requires : goal.put_sheet-requires
put_sheet-requires c = (version_most _ c.requires.0, c.requires.1, length-take-le _ c.args.bytes.now c.if-bytes-size.false ∙ c.sheet_size-size.ensures)

pub returns : goal.returns
unfolding laid
returns c = let d = done c.args.version c.args.set c.args.bytes.now c.requires.0 c.requires.1 c.requires.2 (rw (← c.sheet_size-size.ensures) c.if-bytes-size.false) in
    (ap Ok c.sheet_size-size.ensures ∙ d.0, ap₂ (λ (l : List ℕ) (n : ℕ). l ++ drop n c.args.bytes.now) c.put_sheet.ensures c.sheet_size-size.ensures ∙ d.1)
