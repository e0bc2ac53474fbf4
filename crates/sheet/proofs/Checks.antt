-- The answer to a row of checks, by the laws of rows.
use Rattle.std.specs.Prelude.{Err, None, Ok, Option, Result, Some}
use Rattle.std.proofs.Common.{◌≡◌, Bool, true, false, List, [], ◌∷◌, ◌++◌, refl, ap, ◌∙◌}
use Rattle.lent.specs.Checks.{Check, ◌⇒◌, first_refusal}
use Rattle.lent.proofs.Checks as rows
use Rattle.sheet.specs.Admission.{answer_by, decided}
use Rattle.sheet.specs.declared.Refusal.{Refusal}

-- ---- admitted is that no check applies, refused that one does

no_refusal : (o : Option Refusal) → answer_by o ≡ Ok tt → o ≡ None
no_refusal None e = refl
no_refusal (Some r) e = cc

one_refusal : (o : Option Refusal) (r : Refusal) → answer_by o ≡ Err r → o ≡ Some r
one_refusal None r e = cc
one_refusal (Some q) r e = let z : q ≡ r = cc in ap Some z

pub none_applies : (cs : List (Check Refusal)) → decided cs ≡ Ok tt → first_refusal cs ≡ None
unfolding decided
none_applies cs e = no_refusal (first_refusal cs) e

pub admits : (cs : List (Check Refusal)) → first_refusal cs ≡ None → decided cs ≡ Ok tt
unfolding decided
admits cs e = ap answer_by e

pub one_applies : (cs : List (Check Refusal)) (r : Refusal) → decided cs ≡ Err r → first_refusal cs ≡ Some r
unfolding decided
one_applies cs r e = one_refusal (first_refusal cs) r e

pub refuses : (cs : List (Check Refusal)) (r : Refusal) → first_refusal cs ≡ Some r → decided cs ≡ Err r
unfolding decided
refuses cs r e = ap answer_by e

-- ---- the laws of rows, of answers

-- a check that applies decides
pub applies : (b : Bool) (r : Refusal) (cs : List (Check Refusal)) → b ≡ true → decided ((b ⇒ r) ∷ cs) ≡ Err r
applies b r cs e = refuses _ r (rows.applies b r cs e)

-- one that does not is passed over
pub passed_over : (b : Bool) (r : Refusal) (cs : List (Check Refusal)) → b ≡ false → decided ((b ⇒ r) ∷ cs) ≡ decided cs
unfolding decided
passed_over b r cs e = ap answer_by (rows.passed_over b r cs e)

-- a row of none admits
pub no_check : decided [] ≡ Ok tt
no_check = admits [] rows.no_check

-- an answer, or the next one where it admits
abbrev pub and_then : Result Unit Refusal → Result Unit Refusal → Result Unit Refusal
and_then (Ok tt) next = next
and_then (Err r) next = Err r

pub decided_append : (cs ds : List (Check Refusal)) → decided (cs ++ ds) ≡ and_then (decided cs) (decided ds)
unfolding decided
decided_append cs ds = ap answer_by (rows.append cs ds) ∙ go (first_refusal cs)
  where
    go : (o : Option Refusal) → answer_by (rows.or_else o (first_refusal ds)) ≡ and_then (answer_by o) (answer_by (first_refusal ds))
    go None = refl
    go (Some r) = refl

pub admitted_first : (cs ds : List (Check Refusal)) → decided cs ≡ Ok tt → decided (cs ++ ds) ≡ decided ds
admitted_first cs ds e = decided_append cs ds ∙ ap (λ (a : Result Unit Refusal). and_then a (decided ds)) e

pub refused_first : (cs ds : List (Check Refusal)) (r : Refusal) → decided cs ≡ Err r → decided (cs ++ ds) ≡ Err r
refused_first cs ds r e = decided_append cs ds ∙ ap (λ (a : Result Unit Refusal). and_then a (decided ds)) e

-- the first check of a row that admits does not apply, and the others admit
pub passed : (c : Check Refusal) (cs : List (Check Refusal)) → decided (c ∷ cs) ≡ Ok tt → (c.applies ≡ false) × (decided cs ≡ Ok tt)
passed c cs e = let both = rows.passed c cs (none_applies (c ∷ cs) e) in (both.0, admits cs both.1)

pub both_passed : (cs ds : List (Check Refusal)) → decided (cs ++ ds) ≡ Ok tt → (decided cs ≡ Ok tt) × (decided ds ≡ Ok tt)
both_passed cs ds e = let both = rows.both_passed cs ds (none_applies (cs ++ ds) e) in (admits cs both.0, admits ds both.1)
