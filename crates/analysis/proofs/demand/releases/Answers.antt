-- `releases` meets its contract.
use Rattle.analysis.proofs.Tallies.{releases_are}
use Rattle.analysis.proofs.demand.releases.Goals as goal

pub returns : goal.returns
returns c = releases_are c.args.t c.args.period c.requires.0 c.requires.1
