-- `analyse_set` keeps what is signed.
use Rattle.sheet.specs.Tasks.{records_of}
use Rattle.signed.specs.Claims.{OutcomeSigned}
use Rattle.signed.proofs.Signed.{analyse_set_signed, analyse_set_says_why}
use borrow.Author.Rules.{rules}
use Rattle.signed.proofs.analyse_set.Goals as goal

pub returns : goal.returns
unfolding records_of OutcomeSigned
returns c =
    let e = c.analyse_set.ensures in (
      analyse_set_signed _ _ _ _ (search rules) (record { answers = e.0; leaves = e.1 }),
      analyse_set_says_why _ _ _ _ (search rules) (record { answers = e.0; leaves = e.1 }),
    )
