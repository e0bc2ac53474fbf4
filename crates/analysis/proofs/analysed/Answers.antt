-- `analysed` meets its contract.
use Rattle.std.proofs.Common.{rules}
use Rattle.sheet.proofs.Records.{mapped_length}
use Rattle.analysis.proofs.Entries.{shaped_order, analysis_is}
use Rattle.analysis.proofs.analysed.Goals as goal

pub findings_of-findings-requires : goal.findings_of-findings-requires
findings_of-findings-requires c = shaped_order _ (search (rules, mapped_length)) c.requires.admits _ _ c.in_order-o.ensures c.requires.shapes_are

pub verdict_of-requires : goal.verdict_of-requires
verdict_of-requires c =
    let stand = shaped_order _ (search (rules, mapped_length)) c.requires.admits _ _ c.in_order-o.ensures c.requires.shapes_are in
    (stand.few, c.findings_of-findings.ensures)

pub returns : goal.returns
returns c = analysis_is _ (search (rules, mapped_length)) c.requires.admits _ _ _ c.in_order-o.ensures c.verdict_of.ensures c.findings_of-findings.ensures
