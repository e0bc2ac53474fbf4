-- `Tally::work` meets its contract: whole rounds and the frames that remain are the sum over the jobs.
use Rattle.std.proofs.Common.{ℕ, ◌+◌, ◌*◌, ◌/◌, ◌%◌, ◌<◌, ◌^◌, get_or, arith}
use Rattle.theory.specs.Tasks.{work}
use Rattle.theory.specs.Analysis.{Higher}
use Rattle.analysis.specs.Inside.Demand.{Counted}
use Rattle.analysis.specs.declared.demand.Tally.{Tally}
use Rattle.analysis.proofs.Tallies.{by_rounds}
use Rattle.analysis.proofs.demand.Tally.work.Goals as goal

fits : (tally : Tally) (n : ℕ) (g : Higher) → Counted g tally → work g.task g.start n < 2 ^ 64
    → n / tally.frame_count * get_or tally.sums tally.frame_count 0 + get_or tally.sums (n % tally.frame_count) 0 < 2 ^ 64
fits tally n g is small = rw (by_rounds is is.tally_of.count_is n) small

pub returns : goal.returns
returns c h is = by_rounds is is.tally_of.count_is c.args.n

pub overflow_mul-result : goal.overflow_mul-result
overflow_mul-result c = record { fits = omega (arith, fits _ c.args.n _ c.requires.1 c.requires.2) }

pub overflow_add-result : goal.overflow_add-result
overflow_add-result c = record { fits = fits _ c.args.n _ c.requires.1 c.requires.2 }
