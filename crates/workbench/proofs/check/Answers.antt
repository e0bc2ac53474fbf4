-- `check` meets its contract: the sheet is turned away, the room is too short, or all is put.
use Rattle.std.specs.Prelude.{Err}
use Rattle.std.proofs.Common.{◌≡◌, sym, ◌∙◌, rules, arith}
use Rattle.analysis.proofs.Entries.{sheet_numbered}
use Rattle.workbench.proofs.Answers.{refused, short, done}
use Rattle.workbench.proofs.check.Goals as goal

pub returns-in_err-a : goal.returns-in_err-a
returns-in_err-a c =
    let away = refused c.args.sheet.now c.args.times.now c.in_err-a.field-0.0 (sym c.analysis_of_sheet.ensures ∙ c.in_err-a.was) in
    let told : c.from_residual.result ≡ Err c.in_err-a.field-0.0 = search rules in
    (told ∙ away.0, away.1)

pub returns-then-times-a : goal.returns-then-times-a
returns-then-times-a c = short c.args.sheet.now c.args.times.now _ (sym c.analysis_of_sheet.ensures ∙ c.in_ok-a.was) (omega arith)

pub put_times-requires : goal.put_times-requires
put_times-requires c = (sheet_numbered c.args.sheet.now _ (sym c.analysis_of_sheet.ensures ∙ c.in_ok-a.was), omega arith)

pub returns : goal.returns
returns c =
    let put = done c.args.sheet.now c.args.times.now _ (sym c.analysis_of_sheet.ensures ∙ c.in_ok-a.was) (omega arith) in
    (put.0, c.put_times.ensures ∙ put.1)
