-- `Tally::released` meets its contract.
use Rattle.std.proofs.Common.{◌≡◌, ℕ, ◌<◌, ◌^◌, ap, ◌∙◌, arith}
use Rattle.theory.specs.Tasks.{work}
use Rattle.theory.specs.Analysis.{Higher, releases}
use Rattle.analysis.specs.Inside.Demand.{Counted, released}
use Rattle.analysis.specs.declared.demand.Tally.{Tally}
use Rattle.analysis.proofs.Tallies.{one_frame, one_job, released_bound}
use Rattle.analysis.proofs.demand.Tally.released.Goals as goal

pub returns-then-t-self : goal.returns-then-t-self
returns-then-t-self c h is = one_job is _ c.requires.0 (omega (arith, is.tally_of.period_is))

-- the work of the jobs that `releases` counts
counted_work : (h : Higher) (n t period : ℕ) → n ≡ releases t period → period ≡ h.task.period
    → work h.task h.start n ≡ released h t
counted_work h n t period en ep = ap (work h.task h.start) (en ∙ ap (releases t) ep)

-- it fits 64 bits
fits : (h : Higher) (tally : Tally) (is : Counted h tally) (n t period : ℕ) → n ≡ releases t period → period ≡ h.task.period → t < 2 ^ 32
    → work h.task h.start n < 2 ^ 64
fits h tally is n t period en ep l = rw (counted_work h n t period en ep) (omega (arith, released_bound is t, is.tally_of.period_fits))

pub overflow_mul-result : goal.overflow_mul-result
overflow_mul-result c =
    let (h, is) = c.requires.1 in
    record {
      fits =
          rw (one_frame is (omega (arith, c.if-self-eq1.true, is.tally_of.count_is)) c.releases-n.result)
          (fits h _ is _ _ _ c.releases-n.ensures is.tally_of.period_is c.ranges.t.fits);
    }

pub returns-then-self-eq1 : goal.returns-then-self-eq1
returns-then-self-eq1 c h is =
    one_frame is (omega (arith, c.if-self-eq1.true, is.tally_of.count_is)) c.releases-n.result
    ∙ counted_work h _ _ _ c.releases-n.ensures is.tally_of.period_is

pub work-requires : goal.work-requires
work-requires c = let (h, is) = c.requires.1 in (h, is, fits h _ is _ _ _ c.releases-n.ensures is.tally_of.period_is c.ranges.t.fits)

pub returns : goal.returns
returns c h is = c.work.ensures h is ∙ counted_work h _ _ _ c.releases-n.ensures is.tally_of.period_is
