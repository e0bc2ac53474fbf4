-- `judge_firsts` meets its contract.
use Rattle.std.proofs.Common.{ℕ, leb, None, Some, arith, ◌∙◌, sym}
use Rattle.std.proofs.lemmas.List.Quantifiers.{position-Some}
use Rattle.std.proofs.lemmas.Slice.Zip.{length-zip}
use Rattle.std.specs.List.{zip}
use Rattle.theory.specs.Tasks.{frame_count}
use Rattle.sheet.specs.Tasks.{task_in, no_record}
use Rattle.sheet.specs.declared.Task.{Task as Record}
use Rattle.scripts.proofs.Walk.{firsts_judged}
use Rattle.scripts.proofs.judge_firsts.Goals as goal

pub overflow_cast-result : goal.overflow_cast-result
overflow_cast-result c = let a = c.args in
    let wrong = λ (q : Record × ℕ). leb (frame_count (task_in q.0)) q.1 in
    omega (arith, position-Some wrong (zip a.tasks.now a.firsts.now) c.in-Some.i (no_record, 0) (sym c.wrong_first.ensures ∙ c.in-Some.is), length-zip a.tasks.now a.firsts.now)

pub returns-in-Some : goal.returns-in-Some
returns-in-Some c = firsts_judged _ _ (Some c.in-Some.i) c.requires.1 (sym c.in-Some.is ∙ c.wrong_first.ensures)

pub returns-in-None : goal.returns-in-None
returns-in-None c = firsts_judged _ _ None c.requires.1 (sym c.in-None.is ∙ c.wrong_first.ensures)
