-- `stage` meets its contract.
use mathlib.Core.Path.{sym, ap, ◌∙◌}
use Rattle.std.specs.Prelude.{Ok}
use Rattle.player.proofs.Staging.{sheet_refused, script_flawed, script_sound, told_err}
use Rattle.player.proofs.stage.Goals as goal

pub returns-in_err-set : goal.returns-in_err-set
returns-in_err-set c = told_err _ c.from_residual.ensures.1 ∙ sheet_refused _ _ _ (sym c.in_err-set.ensures)

pub returns-in_err-judge : goal.returns-in_err-judge
returns-in_err-judge c =
    told_err _ c.from_residual-in_err-judge.ensures.1 ∙ script_flawed _ _ c.in_ok-set.field-0 (sym c.in_ok-set.ensures) _ (sym c.in_err-judge.ensures)

pub returns : goal.returns
returns c = ap Ok c.cast_of.ensures ∙ script_sound _ _ c.in_ok-set.field-0 (sym c.in_ok-set.ensures) (sym c.in_ok-judge.ensures)
