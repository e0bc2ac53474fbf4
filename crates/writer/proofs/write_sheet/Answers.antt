-- `write_sheet` meets its contract.
use Rattle.std.proofs.Common.{sym, ◌∙◌}
use Rattle.std.proofs.lemmas.Result.{err_from_is_err_and}
use Rattle.writer.proofs.Outcomes.{version_wrong, refused, not_held}
use Rattle.admission.proofs.Answers.{judged_admits, judged_refuses}
use Rattle.writer.proofs.write_sheet.Goals as goal

pub returns-then-not-version_among : goal.returns-then-not-version_among
returns-then-not-version_among c = version_wrong _ _ _ (sym c.version_among.ensures ∙ c.if-not-version_among.true)

pub returns-in_err-admit : goal.returns-in_err-admit
returns-in_err-admit c = let told = refused _ _ c.args.bytes.now (sym c.version_among.ensures ∙ c.if-not-version_among.false) _ (judged_refuses _ _ _ (sym c.admit.ensures ∙ c.in_err-admit.was)) in
    let p = err_from_is_err_and c.from_residual.result c.from_residual.ensures.1 in rw (p.1, p.2) told

pub returns-then-not-held : goal.returns-then-not-held
returns-then-not-held c = not_held _ _ _ (sym c.version_among.ensures ∙ c.if-not-version_among.false) ((judged_admits _ _ _ (sym c.admit.ensures ∙ c.in_ok-admit.was)).0) (sym c.held.ensures ∙ c.if-not-held.true)

pub write_admitted-requires : goal.write_admitted-requires
write_admitted-requires c = ((sym c.version_among.ensures ∙ c.if-not-version_among.false), (judged_admits _ _ _ (sym c.admit.ensures ∙ c.in_ok-admit.was)).0, sym c.held.ensures ∙ c.if-not-held.false)
