-- Nothing is not something, and what was found is one thing.
use Rattle.std.specs.Prelude.{◌≡◌, None, Some}

pub none_ne_some : {A : Type 0} (a : A) → ¬ (None ≡ Some a)
none_ne_some a e = cc

pub some_injective : {A : Type 0} (a b : A) → Some a ≡ Some b → a ≡ b
some_injective a b e = cc
