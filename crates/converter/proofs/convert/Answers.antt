-- `convert` meets its contract.
use Rattle.std.proofs.Common.{ℕ, sym, ap, ◌∙◌}
use Rattle.std.proofs.lemmas.Result.{err_from_is_err_and}
use Rattle.sheet.specs.Reading.{reading_among}
use Rattle.writer.proofs.Outcomes.{version_most}
use Rattle.converter.proofs.Outcomes.{version_wrong, sheet_refused, as_written}
use Rattle.converter.proofs.convert.Goals as goal

pub returns-then-not-version_among : goal.returns-then-not-version_among
returns-then-not-version_among c = version_wrong _ _ _ (sym c.version_among.ensures ∙ c.if-not-version_among.true)

-- the version is known
pub other_version-taken-requires : goal.other_version-taken-requires
other_version-taken-requires c = version_most _ (sym c.version_among.ensures ∙ c.if-not-version_among.false)

pub returns-in_err-reading : goal.returns-in_err-reading
returns-in_err-reading c =
    let told = sheet_refused _ _ c.args.out.now (sym c.version_among.ensures ∙ c.if-not-version_among.false) _ (sym (c.read_among.ensures ∙ ap (λ (n : ℕ). reading_among n n c.args.sheet.now) c.other_version-taken.ensures) ∙ c.in_err-reading.was) in
    let p = err_from_is_err_and c.from_residual.result c.from_residual.ensures.1 in rw (p.1, p.2) told

pub returns : goal.returns
returns c = let w = c.write_sheet.ensures in
    let same = as_written _ _ c.args.out.now (sym c.version_among.ensures ∙ c.if-not-version_among.false) _ (sym (c.read_among.ensures ∙ ap (λ (n : ℕ). reading_among n n c.args.sheet.now) c.other_version-taken.ensures) ∙ c.in_ok-reading.was) in
    (w.0 ∙ same.0, w.1 ∙ same.1)
