-- `start_frame` meets its contract: the frames are all that the start depends on.
use Rattle.std.specs.Prelude.{Err}
use Rattle.std.proofs.Common.{ℕ, List, sym, ap, ◌∙◌, arith}
use Rattle.theory.proofs.Search.{first_some}
use Rattle.sheet.specs.Tasks.{task_in}
use Rattle.admission.specs.Inside.Frames.{of_frames}
use Rattle.admission.specs.Start.{start_of}
use Rattle.admission.proofs.Sums.{count_is}
use Rattle.admission.proofs.Starts.{start_by, start_of_frames}
use Rattle.admission.proofs.start_frame.Goals as goal

pub overflow_cast-result : goal.overflow_cast-result
overflow_cast-result c =
    let frames = c.frames_in_use-frames in
    let place = first_some 0 _ _ (sym c.first_qualifying.ensures ∙ c.in-Some.is) in
    record { fits = omega (arith, place.before, count_is frames.result.now, frames.ensures.few) }

pub returns-in-Some : goal.returns-in-Some
returns-in-Some c =
    sym (start_by _ (sym c.first_qualifying.ensures ∙ c.in-Some.is))
    ∙ ap (λ (fs : List ℕ). start_of (of_frames fs)) c.frames_in_use-frames.ensures.are ∙ start_of_frames (task_in c.args.task)

pub returns-in-None : goal.returns-in-None
returns-in-None c =
    ap Err c.reason.ensures ∙ sym (start_by _ (sym c.first_qualifying.ensures ∙ c.in-None.is))
    ∙ ap (λ (fs : List ℕ). start_of (of_frames fs)) c.frames_in_use-frames.ensures.are ∙ start_of_frames (task_in c.args.task)
