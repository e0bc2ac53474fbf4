-- `judge` meets its contract, whatever the set and the bytes are.
use Rattle.std.proofs.Common.{◌≡◌, Err, rules, sym, ◌∙◌}
use Rattle.scripts.proofs.Whole.{sound_row, malformed, firsts_decide, entries_decide}
use Rattle.scripts.proofs.judge.Goals as goal

pub returns-then-not-well_made : goal.returns-then-not-well_made
returns-then-not-well_made c = rw (← c.tasks_in_use-tasks.ensures.are) (malformed _ _ (sym c.well_made.ensures ∙ c.if-not-well_made.true))

pub returns-in_err-judge_firsts : goal.returns-in_err-judge_firsts
returns-in_err-judge_firsts c = let back : c.from_residual.result ≡ Err c.in_err-judge_firsts.field-0.0 = search rules in
    rw (← c.tasks_in_use-tasks.ensures.are)
    (back
    ∙ firsts_decide _ _ c.tasks_in_use-tasks.ensures.few (sym c.well_made.ensures ∙ c.if-not-well_made.false) _ c.first_frames-firsts.ensures _ (sym c.judge_firsts.ensures ∙ c.in_err-judge_firsts.was))

pub judge_entries-requires : goal.judge_entries-requires
judge_entries-requires c =
    (c.tasks_in_use-tasks.ensures.few, sym c.well_made.ensures ∙ c.if-not-well_made.false, sound_row _ (sym c.judge_firsts.ensures ∙ c.in_ok-judge_firsts.was))

pub returns : goal.returns
returns c = rw (← c.tasks_in_use-tasks.ensures.are)
    (c.judge_entries.ensures
    ∙ entries_decide _ _ c.tasks_in_use-tasks.ensures.few (sym c.well_made.ensures ∙ c.if-not-well_made.false) _ c.first_frames-firsts.ensures (sym c.judge_firsts.ensures ∙ c.in_ok-judge_firsts.was))
