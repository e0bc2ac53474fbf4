-- `check_word::seal` puts the check word of all but the last two bytes into these, the high byte first.
use mathlib.Core.Path.{sym}
use native.Mathlib.Omega.{arith}
use borrow.Author.Tests.{le-leb, lt-leb}
use Rattle.check_word.proofs.LastTwo.{with_seal_short, with_seal_two}
use Rattle.check_word.proofs.seal.Goals as goal

pub returns-in_default : goal.returns-in_default
returns-in_default c = let h = c.in_default.ensures.cases in (sym (lt-leb 2 _ h), with_seal_short _ h)

pub returns : goal.returns
returns c =
    let h = c.in-Some.ensures.cases in
    (sym (le-leb 2 _ (omega (arith, h.2))), with_seal_two _ _ h.0 h.2 _ c.check_word.ensures _ c.to_be_bytes.ensures)
