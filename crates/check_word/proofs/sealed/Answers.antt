-- `check_word::sealed` compares the last two bytes with the check word of those before them.
use Rattle.check_word.proofs.LastTwo.{sealed_short, sealed_two}
use Rattle.check_word.proofs.sealed.Goals as goal

pub returns-in-Some : goal.returns-in-Some
returns-in-Some c =
    let h = c.in-Some.ensures.cases in
    sealed_two _ _ h.0 h.2 _ c.check_word.ensures _ _ h.1 (λ i. (c.type_inv.bytes i).fits) c.from_be_bytes.ensures

pub returns-in-None : goal.returns-in-None
returns-in-None c = sealed_short _ c.in-None.ensures.cases
