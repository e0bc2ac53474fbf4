-- `analyse_sheet` meets its contract.
use Rattle.std.specs.Prelude.{Err}
use Rattle.std.proofs.Common.{◌≡◌, sym, ◌∙◌, rules}
use Rattle.analysis.proofs.Entries.{sheet_numbered, sheet_delivers, sheet_turned_away}
use Rattle.analysis.proofs.analyse_sheet.Goals as goal

pub returns-in_err-analysis_of_sheet : goal.returns-in_err-analysis_of_sheet
returns-in_err-analysis_of_sheet c =
    let refused : c.from_residual.result ≡ Err c.in_err-analysis_of_sheet.field-0.0 = search rules in
    let turned = sheet_turned_away _ c.args.times.now _ (sym c.analysis_of_sheet.ensures ∙ c.in_err-analysis_of_sheet.was) in
    (refused ∙ turned.0, turned.1)

pub deliver-requires : goal.deliver-requires
deliver-requires c = sheet_numbered _ _ (sym c.analysis_of_sheet.ensures ∙ c.in_ok-analysis_of_sheet.was)

pub returns : goal.returns
returns c =
    let told = sheet_delivers _ c.args.times.now _ (sym c.analysis_of_sheet.ensures ∙ c.in_ok-analysis_of_sheet.was) in
    (c.deliver.ensures.0 ∙ told.0, c.deliver.ensures.1 ∙ told.1)
