-- `burrbeech_analyse_sheet` keeps what is signed.
use Rattle.signed.specs.Claims.{OutcomeSigned}
use Rattle.signed.proofs.Signed.{analyse_sheet_c_signed, analyse_sheet_c_says_why}
use Rattle.signed.proofs.analyse_sheet_from_c.Goals as goal

pub returns : goal.returns
unfolding OutcomeSigned
returns c =
    let e = c.burrbeech_analyse_sheet.ensures in (
      analyse_sheet_c_signed _ _ _ _ (record { answers = e.0; leaves = e.1 }),
      analyse_sheet_c_says_why _ _ _ _ (record { answers = e.0; leaves = e.1 }),
    )
