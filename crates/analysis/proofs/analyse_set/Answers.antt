-- `analyse_set` meets its contract.
use Rattle.std.specs.Prelude.{Err}
use Rattle.std.proofs.Common.{◌≡◌, sym, ◌∙◌, rules}
use Rattle.sheet.proofs.Records.{mapped_length}
use Rattle.analysis.proofs.Entries.{set_numbered, set_delivers, set_turned_away}
use Rattle.analysis.proofs.analyse_set.Goals as goal

pub returns-in_err-analysis_of_set : goal.returns-in_err-analysis_of_set
returns-in_err-analysis_of_set c =
    let refused : c.from_residual.result ≡ Err c.in_err-analysis_of_set.field-0.0 = search rules in
    let turned = set_turned_away _ c.args.times.now _ (sym c.analysis_of_set.ensures ∙ c.in_err-analysis_of_set.was) in
    (refused ∙ turned.0, turned.1)

pub deliver-requires : goal.deliver-requires
deliver-requires c = set_numbered _ _ (search (rules, mapped_length)) (sym c.analysis_of_set.ensures ∙ c.in_ok-analysis_of_set.was)

pub returns : goal.returns
returns c =
    let told = set_delivers _ c.args.times.now _ (sym c.analysis_of_set.ensures ∙ c.in_ok-analysis_of_set.was) in
    (c.deliver.ensures.0 ∙ told.0, c.deliver.ensures.1 ∙ told.1)
