-- `read_sheet` meets its contract.
use Rattle.sheet.specs.Reading.{reading}
use Rattle.reader.proofs.read_sheet.Goals as goal

pub returns : goal.returns
unfolding reading
returns c = c.read_among.ensures
