-- SCOPE.md, "Run scripts": 14, the first of first frames and entries, counted together from 0, that is out of range, out of order or against a run rule.
use Rattle.std.specs.Prelude.{Bool, not, ◌&&◌, cond, List, [], ◌∷◌, ◌++◌, ℕ, suc, ◌+◌, ◌*◌, leb, ltb, eqb, length, get_or}
use Rattle.lent.specs.Checks.{Check, ◌⇒◌}
use Rattle.theory.specs.Tasks.{Task, task_at, frame_count, frame, next_frame}
use Rattle.sheet.specs.Constants.{most_tasks}
use Rattle.plays.specs.Script.{Script}
use Rattle.plays.specs.declared.Entry.{Entry}

-- where an entry stands, by tick and then task number
unfoldable pub standing : Entry → ℕ
standing e = e.tick * most_tasks + e.task

-- how far the releases have come: of each task the frame of its next job and the first tick at which it may be released, and the least standing of the next entry
pub record Ledger : Type 0 where
  pub next : ℕ → ℕ
  pub free_from : ℕ → ℕ
  pub behind : ℕ

-- before the first entry
unfoldable pub first_ledger : List ℕ → Ledger
first_ledger firsts = record { next = λ i. get_or firsts i 0; free_from = λ i. 0; behind = 0 }

-- after an entry: its task's next job takes the next frame, a period later at the earliest, and the next entry stands behind this one
unfoldable pub after_entry : List Task → Ledger → Entry → Ledger
after_entry tasks c e =
    let t = task_at tasks e.task in
    record {
      next = λ i. cond (eqb i e.task) (next_frame t (c.next i)) (c.next i);
      free_from = λ i. cond (eqb i e.task) (e.tick + t.period) (c.free_from i);
      behind = suc (standing e);
    }

-- in range: a task of the set, and no longer a lock than its Q
unfoldable pub in_range : List Task → Entry → Bool
in_range tasks e = ltb e.task (length tasks) && leb e.lock (task_at tasks e.task).lock

-- in order: behind the entry before it
unfoldable pub in_order : Ledger → Entry → Bool
in_order c e = leb c.behind (standing e)

-- the run rules: releases of a task are at least its period apart, and a job has at most its frame's time as work
unfoldable pub by_rules : List Task → Ledger → Entry → Bool
by_rules tasks c e = leb (c.free_from e.task) e.tick && leb e.work (frame (task_at tasks e.task) (c.next e.task))

-- an entry that is not turned away
unfoldable pub sound : List Task → Ledger → Entry → Bool
sound tasks c e = in_range tasks e && in_order c e && by_rules tasks c e

-- first frames, of which the first is that of task i: each is a frame of its task
unfoldable pub first_frame_checks : List Task → ℕ → List ℕ → List (Check ℕ)
first_frame_checks tasks i [] = []
first_frame_checks tasks i (k ∷ ks) = (not (ltb k (frame_count (task_at tasks i))) ⇒ i) ∷ first_frame_checks tasks (suc i) ks

-- entries, of which the first is item j
unfoldable pub entry_checks : List Task → ℕ → Ledger → List Entry → List (Check ℕ)
entry_checks tasks j c [] = []
entry_checks tasks j c (e ∷ es) = (not (sound tasks c e) ⇒ j) ∷ entry_checks tasks (suc j) (after_entry tasks c e) es

-- the items of a script in their order
unfoldable pub item_checks : List Task → Script → List (Check ℕ)
item_checks tasks sc =
    first_frame_checks tasks 0 sc.firsts
    ++ entry_checks tasks (length sc.firsts) (first_ledger sc.firsts) sc.entries
