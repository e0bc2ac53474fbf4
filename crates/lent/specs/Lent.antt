-- SCOPE.md, "Lent memory": room too small is looked at last, what is written stands first, surplus room keeps its content, a refusal changes
-- nothing. Over any kind of refusal, element and answer.
use Rattle.std.specs.Prelude.{List, [], ◌∷◌, ◌++◌, ltb, length, drop, Option, Some, None, Result, Ok, Err}
use Rattle.lent.specs.Checks.{Check, ◌⇒◌, first_refusal}

-- A call that is lent memory: its own reasons to turn away, in their order; what it writes where none applies; what it then answers.
pub record Call (R A X : Type 0) : Type 0 where
  pub checks : List (Check R)
  pub writes : List A
  pub says : X

-- what is written stands first, the memory behind it stays
unfoldable pub laid : {A : Type 0} → List A → List A → List A
laid written memory = written ++ drop (length written) memory

-- the one refusal of a call; last of all, that the memory is shorter than what is written
unfoldable pub refusal_of : {R A X : Type 0} → R → Call R A X → List A → Option R
refusal_of full call memory = first_refusal (call.checks ++ (ltb (length memory) (length call.writes) ⇒ full) ∷ [])

-- what the call answers
unfoldable pub answered : {R A X : Type 0} → R → Call R A X → List A → Result X R
answered full call memory = elim (refusal_of full call memory) [ None ↦ Ok call.says | Some r ↦ Err r ]

-- what the memory holds afterwards
unfoldable pub left_after : {R A X : Type 0} → R → Call R A X → List A → List A
left_after full call memory = elim (refusal_of full call memory) [ None ↦ laid call.writes memory | Some r ↦ memory ]
