-- `largest_frame` meets its contract.
use Rattle.std.proofs.Common.{ℕ, List, ap, ◌∙◌, arith}
use Rattle.theory.specs.Tasks.{largest_frame}
use Rattle.sheet.specs.Tasks.{task_in}
use Rattle.admission.specs.Inside.Frames.{of_frames}
use Rattle.admission.proofs.Reasons.{largest_frame_few}
use Rattle.admission.proofs.Starts.{largest_of_frames}
use Rattle.admission.proofs.largest_frame.Goals as goal

pub overflow_cast-result : goal.overflow_cast-result
overflow_cast-result c = record { fits = omega (arith, c.first_largest.ensures, largest_frame_few c.frames_in_use.result.now, c.frames_in_use.ensures.few) }

pub returns : goal.returns
returns c =
    c.first_largest.ensures ∙ ap (λ (fs : List ℕ). largest_frame (of_frames fs)) c.frames_in_use.ensures.are ∙ largest_of_frames (task_in c.args.task)
