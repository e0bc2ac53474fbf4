-- The first line and sixteen others have room, and together they are the report.
use Rattle.std.proofs.Common.{arith, sym, ap, ◌∙◌, length, length-take}
use Rattle.report_text.proofs.Reported.{reported, refused}
use Rattle.report_text.proofs.put_report.Goals as goal

pub shared_ref_as_front-put_findings : goal.shared_ref_as_front-put_findings
shared_ref_as_front-put_findings c = (reported c.args.sheet.now c.in-Ok.a (sym c.analysis_of_sheet.ensures ∙ c.in-Ok.is)).few_tasks

pub put_findings-requires : goal.put_findings-requires
put_findings-requires c = let h = reported c.args.sheet.now c.in-Ok.a (sym c.analysis_of_sheet.ensures ∙ c.in-Ok.is) in
    (h.prints, omega (arith, length-take c.in-Ok.a.task_count c.in-Ok.a.findings, h.few_tasks, ap length c.requires))

pub returns-in-Ok : goal.returns-in-Ok
returns-in-Ok c = let h = reported c.args.sheet.now c.in-Ok.a (sym c.analysis_of_sheet.ensures ∙ c.in-Ok.is) in
    rw (c.put_findings.ensures, c.put_verdict.ensures.text, c.requires) h.says

pub returns-in-Err : goal.returns-in-Err
returns-in-Err c = rw (c.put_refusal.ensures, c.requires) (refused c.args.sheet.now c.in-Err.refusal (sym c.analysis_of_sheet.ensures ∙ c.in-Err.is))
