-- SCOPE.md, "What is turned away": a row of reasons, of which the first that applies decides. Over any kind of refusal.
use Rattle.std.specs.Prelude.{Bool, true, false, List, [], ◌∷◌, None, Option, Some}

-- a reason to turn away, and the refusal where it applies
pub record Check (R : Type 0) : Type 0 where
  pub applies : Bool
  pub refusal : R

infix 4 ◌⇒◌
abbrev pub ◌⇒◌ : {R : Type 0} → Bool → R → Check R
b ⇒ r = record { applies = b; refusal = r }

-- the refusal of the first check that applies; none where none does
unfoldable pub first_refusal : {R : Type 0} → List (Check R) → Option R
first_refusal [] = None
first_refusal (c ∷ cs) = elim c.applies [ true ↦ Some c.refusal | false ↦ first_refusal cs ]

-- the same reasons, their refusals told in another way
unfoldable pub retold : {R S : Type 0} → (R → S) → List (Check R) → List (Check S)
retold f [] = []
retold f (c ∷ cs) = (c.applies ⇒ f c.refusal) ∷ retold f cs
