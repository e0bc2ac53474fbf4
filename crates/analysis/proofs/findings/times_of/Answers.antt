-- `times_of` meets its contract: the frames before frame k are looked at, and each has a response time.
use Rattle.std.proofs.Common.{sym, ◌∙◌, arith, rules}
use Rattle.sheet.proofs.Records.{frames_few}
use Rattle.analysis.proofs.ByPlace.{none_looked, one_looked, slots_there, slots_never}
use Rattle.analysis.proofs.findings.times_of.Goals as goal

pub loop-k-init : goal.loop-k-init
loop-k-init c tallies = none_looked _ _ _ _

-- frame k is one of the task's
pub response_at-last-requires : goal.response_at-last-requires
response_at-last-requires c = (c.requires.0, c.requires.1, omega (arith, c.frame_count-k-end.ensures), λ tallies. (c.loop-k.invariant tallies).before)

pub returns-in_err-times : goal.returns-in_err-times
returns-in_err-times c tallies = c.from_residual.ensures ∙ slots_never _ _ _ c.loop-k.k (omega (arith, c.frame_count-k-end.ensures)) (sym c.in_err-times.was ∙ c.response_at-last.ensures tallies)

pub offset_bounds-times-k : goal.offset_bounds-times-k
offset_bounds-times-k c = record { fits = omega (arith, c.frame_count-k-end.ensures, frames_few c.args.task (search rules)) }

pub bounds-times-k : goal.bounds-times-k
bounds-times-k c = omega (arith, c.frame_count-k-end.ensures, frames_few c.args.task (search rules))

pub loop-k-preserved : goal.loop-k-preserved
loop-k-preserved c tallies =
    one_looked _ _ _ (c.loop-k.invariant tallies) (omega (arith, c.frame_count-k-end.ensures)) (frames_few c.args.task (search rules)) _ _ c.in_ok-times.was (c.response_at-last.ensures tallies)

pub returns : goal.returns
returns c tallies = slots_there _ _ _ (c.loop-k.invariant tallies) (omega (arith, c.frame_count-k-end.ensures))
