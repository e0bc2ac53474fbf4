-- Which word the blocker has.
use Rattle.report_text.specs.Report.{blocker_word}
use Rattle.report_text.proofs.put_blocker.Goals as goal

pub returns-in-Some-clause-text : goal.returns-in-Some-clause-text
unfolding blocker_word
returns-in-Some-clause-text c = rw c.in-Some.is c.put_next.ensures.text

pub returns-in-None-clause-text : goal.returns-in-None-clause-text
unfolding blocker_word
returns-in-None-clause-text c = rw c.in-None.is c.put_word.ensures
