-- `worst_run` meets its contract: the sheet's refusal, or what its set is answered.
use Rattle.std.specs.Prelude.{Err}
use Rattle.std.proofs.Common.{◌≡◌, sym, ◌∙◌, rules}
use Rattle.analysis.proofs.Entries.{sheet_admits}
use Rattle.worst.proofs.Outcomes.{set_holds, set_miss_is, sheet_refused, sheet_passed}
use Rattle.worst.proofs.worst_run.Goals as goal

pub returns-in_err-judged : goal.returns-in_err-judged
returns-in_err-judged c =
    let refused = sheet_refused c.args.sheet.now c.args.script.now c.in_err-judged.field-0.0 (sym c.admit_sheet.ensures ∙ c.in_err-judged.was) in
    let told : c.from_residual.result ≡ Err c.in_err-judged.field-0.0 = search rules in
    (told ∙ refused.0, refused.1)

pub write_frame-requires-clause-judged : goal.write_frame-requires-clause-judged
write_frame-requires-clause-judged c = sheet_admits c.args.sheet.now _ (sym c.admit_sheet.ensures ∙ c.in_ok-judged.was)

pub write_frame-requires-clause-misses : goal.write_frame-requires-clause-misses
write_frame-requires-clause-misses c =
    let admitted = sheet_admits c.args.sheet.now _ (sym c.admit_sheet.ensures ∙ c.in_ok-judged.was) in
    set_miss_is _ _ admitted.admits (sym c.in-Some.is ∙ c.missed_frame.ensures)

pub returns-in-None : goal.returns-in-None
returns-in-None c =
    let e = sym c.admit_sheet.ensures ∙ c.in_ok-judged.was in
    let admitted = sheet_admits c.args.sheet.now _ e in
    let holds = set_holds _ _ c.args.script.now (set_miss_is _ _ admitted.admits (sym c.in-None.is ∙ c.missed_frame.ensures)) in
    let passed = sheet_passed c.args.sheet.now c.args.script.now _ e in
    (holds.0 ∙ passed.0, holds.1 ∙ passed.1)

pub returns-in-Some : goal.returns-in-Some
returns-in-Some c =
    let passed = sheet_passed c.args.sheet.now c.args.script.now _ (sym c.admit_sheet.ensures ∙ c.in_ok-judged.was) in
    (c.write_frame.ensures.0 ∙ passed.0, c.write_frame.ensures.1 ∙ passed.1)
