-- The lines before the index stand on the page.
use Rattle.std.proofs.Common.{◌++◌, ◌≡◌, ◌+◌, ◌*◌, ◌≤◌, length, take}
use Rattle.std.specs.List.{flat_map}
use Rattle.report_text.specs.Inside.Lines.{finding_line, line_room}
use Rattle.report_text.proofs.put_findings.Given as goal

abbrev pub invariant-loop-f : goal.invariant-loop-f
invariant-loop-f l =
    (l.page.items ≡ l.initial.page.items ++ flat_map finding_line (take l.f-index l.findings))
    × (length l.page.items ≤ length l.initial.page.items + line_room * l.f-index)
