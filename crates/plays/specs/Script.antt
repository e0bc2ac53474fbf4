-- SCOPE.md, "Run scripts": what a script says. Tasks go by their numbers.
use Rattle.std.specs.Prelude.{◌&&◌, cond, List, [], ◌∷◌, ℕ, eqb, None, Option, Some}
use Rattle.plays.specs.declared.Entry.{Entry}

-- a script: a first frame for each task, and the releases
pub record Script : Type 0 where
  pub firsts : List ℕ
  pub entries : List Entry

-- a blank entry, which is answered past the last one
abbrev pub no_entry : Entry
no_entry = record { task = 0; tick = 0; work = 0; lock = 0 }

-- the entry of task i at tick t
unfoldable pub entry_of : List Entry → ℕ → ℕ → Option Entry
entry_of [] i t = None
entry_of (e ∷ es) i t = cond (eqb e.task i && eqb e.tick t) (Some e) (entry_of es i t)
