-- `frame_counts` meets its contract.
use Rattle.std.specs.List.{position_from}
use Rattle.std.proofs.Common.{List, ap, ◌∙◌, arith}
use Rattle.sheet.specs.Constants.{most_frames}
use Rattle.sheet.specs.Admission.{miscounted}
use Rattle.sheet.specs.declared.Task.{Task as Record}
use Rattle.admission.proofs.Answers.{counts_refuse, counts_pass}
use Rattle.admission.proofs.frame_counts.Goals as goal

pub overflow_cast-result : goal.overflow_cast-result
overflow_cast-result c = record { fits = omega (arith, c.in-Some.ensures.within, c.tasks_in_use.ensures.few) }

pub returns-in-Some : goal.returns-in-Some
returns-in-Some c =
    counts_refuse c.args.set _
    (c.first_miscounted.ensures.found ∙ ap (λ (rs : List Record). position_from (λ r. miscounted r.frame_count most_frames) 0 rs) c.tasks_in_use.ensures.are) _ c.in-Some.is

pub returns-in-None : goal.returns-in-None
returns-in-None c =
    counts_pass c.args.set _
    (c.first_miscounted.ensures.found ∙ ap (λ (rs : List Record). position_from (λ r. miscounted r.frame_count most_frames) 0 rs) c.tasks_in_use.ensures.are) c.in-None.is
