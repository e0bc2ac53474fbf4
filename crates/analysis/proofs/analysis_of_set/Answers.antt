-- `analysis_of_set` meets its contract.
use Rattle.std.specs.Prelude.{Err, Ok}
use Rattle.std.proofs.Common.{◌≡◌, sym, ap, ◌∙◌, rules}
use Rattle.analysis.proofs.Entries.{set_admits, of_set, refused_set}
use Rattle.analysis.proofs.analysis_of_set.Goals as goal

pub returns-in_err-admit : goal.returns-in_err-admit
returns-in_err-admit c =
    let refused : c.from_residual.result ≡ Err c.in_err-admit.field-0.0 = search rules in
    refused ∙ refused_set _ _ (sym c.admit.ensures ∙ c.in_err-admit.was)

pub analysed-requires : goal.analysed-requires
analysed-requires c = set_admits _ _ (sym c.admit.ensures ∙ c.in_ok-admit.was)

pub returns : goal.returns
returns c = ap Ok c.analysed.ensures ∙ of_set _ _ (sym c.admit.ensures ∙ c.in_ok-admit.was)
