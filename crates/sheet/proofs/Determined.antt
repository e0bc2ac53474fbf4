-- SCOPE.md, "What we sign for": two conforming answers to the same input are equal.
use Rattle.std.proofs.Common.{◌≡◌, sym, ◌∙◌}

-- an answer to an input conforms to a definition if it is what the definition gives: the form of every contract here
abbrev pub Conforms : {I O : Type 0} → (I → O) → I → O → Type 0
Conforms definition input answer = answer ≡ definition input

-- Two conforming answers to the same input are equal.
pub one_answer : {I O : Type 0} (definition : I → O) (input : I) (a b : O) → Conforms definition input a → Conforms definition input b → a ≡ b
one_answer definition input a b p q = p ∙ sym q
