-- The words of a refusal.
use Rattle.report_text.proofs.Lines.{refused_put}
use Rattle.report_text.proofs.put_refusal.Goals as goal

pub returns : goal.returns
returns c = rw (c.push.ensures.items, c.put_next.ensures.text, c.put_word.ensures, c.number.ensures) (refused_put c.args.page.now.items c.args.refusal 0)
