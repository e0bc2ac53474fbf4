-- `analysis_of_sheet` meets its contract.
use Rattle.std.specs.Prelude.{Err, Ok}
use Rattle.std.proofs.Common.{◌≡◌, sym, ap, ◌∙◌, rules}
use Rattle.analysis.proofs.Entries.{sheet_admits, of_sheet, refused_sheet}
use Rattle.analysis.proofs.analysis_of_sheet.Goals as goal

pub returns-in_err-admit_sheet : goal.returns-in_err-admit_sheet
returns-in_err-admit_sheet c =
    let refused : c.from_residual.result ≡ Err c.in_err-admit_sheet.field-0.0 = search rules in
    refused ∙ refused_sheet _ _ (sym c.admit_sheet.ensures ∙ c.in_err-admit_sheet.was)

pub analysed-requires : goal.analysed-requires
analysed-requires c = sheet_admits _ _ (sym c.admit_sheet.ensures ∙ c.in_ok-admit_sheet.was)

pub returns : goal.returns
returns c = ap Ok c.analysed.ensures ∙ of_sheet _ _ (sym c.admit_sheet.ensures ∙ c.in_ok-admit_sheet.was)
