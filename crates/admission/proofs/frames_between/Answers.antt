-- `frames_between` meets its contract.
use Rattle.std.proofs.Common.{rules, tests}
use Rattle.std.proofs.lemmas.Iterator.{YieldsList-from_slice, YieldsList-from_zip}
use Rattle.std.proofs.lemmas.Iterator.Search.{all_from_yields_List}
use Rattle.admission.specs.Inside.Frames.{between, all_between}
use Rattle.admission.proofs.frames_between.Goals as goal

pub returns : goal.returns
unfolding all_between
returns c =
    all_from_yields_List (λ p. between c.args.period p.0 p.1) c.all.new.self _ _ c.all.ensures.ran
    (YieldsList-from_zip (YieldsList-from_slice c.args.frames.now cc) (YieldsList-from_slice c.args.deadlines.now cc)) (λ x b q k. search (rules, tests))
