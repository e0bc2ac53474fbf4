-- `response_at` meets its contract.
use Rattle.std.proofs.Common.{sym, ap₂, ◌∙◌, arith, rules}
use Rattle.sheet.proofs.Records.{frame_is, frames_few}
use Rattle.analysis.specs.Inside.Response.{response_to, frame_response}
use Rattle.analysis.proofs.ByPlace.{frame_counts, response_before}
use Rattle.analysis.proofs.findings.response_at.Goals as goal

pub returns-then-as_before : goal.returns-then-as_before
returns-then-as_before c tallies =
    let (later, same) = response_before _ tallies.tasks c.args.blocked c.args.k (sym c.as_before.ensures ∙ c.if-as_before.true) in
    c.requires.3 tallies later ∙ same

-- a frame has its slot
pub offset_bounds-task-k : goal.offset_bounds-task-k
offset_bounds-task-k c = record { fits = omega (arith, c.requires.2, frames_few c.args.task (search rules)) }

pub bounds-task-k : goal.bounds-task-k
bounds-task-k c = omega (arith, c.requires.2, frames_few c.args.task (search rules))

pub respond-requires : goal.respond-requires
respond-requires c = (c.requires.0, frame_counts _ _ c.requires.1 c.requires.2)

pub returns : goal.returns
unfolding frame_response
returns c tallies = c.respond.ensures tallies ∙ ap₂ (response_to tallies.tasks c.args.blocked) (frame_is _ _ c.requires.2) c.deadline_of.ensures
