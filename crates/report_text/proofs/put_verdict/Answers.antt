-- The words of each first line.
use Rattle.report_text.proofs.Lines.{holds_put, missed_put}
use Rattle.report_text.proofs.put_verdict.Goals.{in-Holds, in-Missed}
use Rattle.report_text.proofs.put_verdict.Goals as goal

pub returns-clause-text : goal.returns-clause-text
returns-clause-text c =
    elim c.match-verdict.branch [
      | in-Holds w ↦
          rw (c.push.ensures.items, w.page-is, w.put_next.ensures.text, w.put_word.ensures, w.in-Holds.is) (holds_put _ _)
      | in-Missed w ↦
          rw (c.push.ensures.items, w.page-is, w.put_blocker.ensures.text, w.put_next-in-Missed-2.ensures.text, w.put_next-in-Missed.ensures.text, w.put_word-in-Missed.ensures, w.in-Missed.is)
          (missed_put _ _ _ _)
    ]
