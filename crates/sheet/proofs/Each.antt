-- Each task of a list.
use Rattle.std.proofs.Common.{List, [], ◌∷◌}
use Rattle.theory.specs.Tasks.{Task}

pub data Each (P : Task → Type 0) : List Task → Type 0 where
  no_task : Each P []
  task_more : {t : Task} {ts : List Task} → P t → Each P ts → Each P (t ∷ ts)

pub each_map : {P Q : Task → Type 0} {ts : List Task} → ((t : Task) → P t → Q t) → Each P ts → Each Q ts
each_map f no_task = no_task
each_map f (task_more {t} p ps) = task_more (f t p) (each_map f ps)

pub each_both : {P Q R : Task → Type 0} {ts : List Task} → ((t : Task) → P t → Q t → R t) → Each P ts → Each Q ts → Each R ts
each_both f no_task no_task = no_task
each_both f (task_more {t} p ps) (task_more q qs) = task_more (f t p q) (each_both f ps qs)
