-- The line has its words one behind the other, and of its number two digits at most.
use Rattle.std.proofs.Common.{arith}
use Rattle.report_text.proofs.Lines.{finding_put, number_room}
use Rattle.report_text.proofs.put_finding.Goals as goal

pub put_found-requires : goal.put_found-requires
put_found-requires c = (c.requires.0.few_frames, omega (arith, number_room _ _ _ c.requires.0.known_number c.put_number.ensures.text))

pub push-requires : goal.push-requires
push-requires c = (omega arith, omega (arith, number_room _ _ _ c.requires.0.known_number c.put_number.ensures.text))

pub returns-clause-text : goal.returns-clause-text
returns-clause-text c =
    rw (c.push.ensures.items, c.put_found.ensures.text, c.put_next-3.ensures.text, c.put_next-2.ensures.text, c.put_next.ensures.text, c.put_number.ensures.text)
    (finding_put c.args.page.now.items c.args.f.now)

pub returns-clause-room : goal.returns-clause-room
returns-clause-room c = omega (arith, number_room _ _ _ c.requires.0.known_number c.put_number.ensures.text)
