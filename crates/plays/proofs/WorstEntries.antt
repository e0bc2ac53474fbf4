-- The entries of the worst script: which task has one at which tick, what each of them says, and that they stand in order.
use Rattle.std.specs.Prelude.{None, Option, Some}
use mathlib.Core.Bool.{Bool, true, false, cond, ◌&&◌}
use mathlib.Core.List.Memᴰ
use mathlib.Core.List.{List, Memᴰ}
use mathlib.Core.Path.{◌≡◌, refl, sym, ◌∙◌, ap}
use Prim.Native.Nat.{ℕ, suc, ◌+◌, ◌*◌, ◌≤◌, ◌<◌}
use native.Mathlib.Nat.{le_refl}
use native.Mathlib.Omega.{arith}
use borrow.Author.Tests.{eq-eqb, ne_eqb}
use lib.Dec.{eqb}
use lib.ListN.{length}
use Rattle.theory.specs.Tasks.{Task, task_at, deadline_of}
use Rattle.theory.specs.WorstRun.{Role, above, own, blocks, absent, worst_release}
use Rattle.sheet.specs.Constants.{most_tasks}
use Rattle.analysis.specs.Findings.{in_turn}
use Rattle.plays.specs.Script.{entry_of}
use Rattle.plays.specs.Items.{standing}
use Rattle.plays.specs.declared.Entry.{Entry}
use Rattle.plays.specs.ScriptRun.{by_place}
use Rattle.plays.specs.WorstScript.{worst_lock, entry_row, role_of_task, worst_row, worst_script}
use Rattle.plays.proofs.Ledgers.{InOrder}
use Rattle.plays.proofs.Rows.{turn_has_none, turn_has, in_some_row, Rises, rises_wider, rises_in_turn, rises_in_order}

-- ---- one row

-- the one entry of a row, if it has one
unfoldable pub row_entry : ℕ → ℕ → ℕ → Option ℕ → Option Entry
row_entry i t lock None = None
row_entry i t lock (Some w) = Some (record { task = i; tick = t; work = w; lock = lock })

row_has : (i t lock : ℕ) (o : Option ℕ) → entry_of (entry_row i t lock o) i t ≡ row_entry i t lock o
unfolding entry_of entry_row row_entry
row_has i t lock None = refl
row_has i t lock (Some w) = rw (eq-eqb i i refl, eq-eqb t t refl)

-- a row of another task has none
row_of_other : (i j u t lock : ℕ) (o : Option ℕ) → (j ≡ i → ⊥) → entry_of (entry_row j u lock o) i t ≡ None
unfolding entry_of entry_row
row_of_other i j u t lock None ne = refl
row_of_other i j u t lock (Some w) ne = rw (ne_eqb j i ne)

-- nor one of another tick
row_of_other_tick : (i j u t lock : ℕ) (o : Option ℕ) → (u ≡ t → ⊥) → entry_of (entry_row j u lock o) i t ≡ None
unfolding entry_of entry_row
row_of_other_tick i j u t lock None ne = refl
row_of_other_tick i j u t lock (Some w) ne = rw (ne_eqb u t ne) (go (eqb j i))
  where
    go : (b : Bool) → cond {A = Option Entry} (b && false) (Some (record { task = j; tick = u; work = w; lock = lock })) None ≡ None
    go true = refl
    go false = refl

row_is : {i t lock : ℕ} {o : Option ℕ} {e : Entry} → Memᴰ e (entry_row i t lock o) → (e.task ≡ i) × (e.tick ≡ t) × (e.lock ≡ lock) × (o ≡ Some e.work)
unfolding entry_row
row_is {o = None} m = absurd (Memᴰ.not-nil m)
row_is {i} {t} {lock} {o = Some w} {e} m =
    let same : e ≡ record { task = i; tick = t; work = w; lock = lock } = Memᴰ.eq_of_singleton m in
    (ap (λ d. d.task) same, ap (λ d. d.tick) same, ap (λ d. d.lock) same, ap (λ d. Some d.work) (sym same))

row_rises : (i t lock : ℕ) (o : Option ℕ) → i < most_tasks → Rises (t * most_tasks + i) (t * most_tasks + suc i) (entry_row i t lock o)
unfolding entry_row standing
row_rises i t lock None h = omega arith
row_rises i t lock (Some w) h = (le_refl _, omega arith)

-- ---- the worst script

-- no lock is longer than Q
worst_lock_fits : (t : Task) (r : Role) → worst_lock t r ≤ t.lock
unfolding worst_lock
worst_lock_fits t above = omega arith
worst_lock_fits t own = omega arith
worst_lock_fits t blocks = le_refl _
worst_lock_fits t absent = omega arith

module _ (order : List ℕ) (tasks : List Task) (p k : ℕ) where
  abbrev D : ℕ
  D = deadline_of (task_at (by_place order tasks) p) k

  -- what the script releases of task i at tick t
  abbrev pub release_of_task : ℕ → ℕ → Option ℕ
  release_of_task i t = worst_release (task_at tasks i) k (role_of_task order tasks p k i) t

  -- the lock that its entries of task i have
  abbrev pub lock_of_task : ℕ → ℕ
  lock_of_task i = worst_lock (task_at tasks i) (role_of_task order tasks p k i)

  -- the rows of a tick
  abbrev tick_rows : ℕ → List Entry
  tick_rows t = in_turn (worst_row order tasks p k t) 0 (length tasks)

  tick_has : (i t : ℕ) → i < length tasks → entry_of (tick_rows t) i t ≡ row_entry i t (lock_of_task i) (release_of_task i t)
  unfolding worst_row
  tick_has i t h =
      turn_has i t (worst_row order tasks p k t) 0 (length tasks) i (omega arith) (omega arith) (λ u ne. row_of_other i u t t _ _ ne)
      ∙ row_has i t (lock_of_task i) (release_of_task i t)

  other_tick : (i t u : ℕ) → (u ≡ t → ⊥) → entry_of (tick_rows u) i t ≡ None
  unfolding worst_row
  other_tick i t u ne = turn_has_none i t (worst_row order tasks p k u) 0 (length tasks) (λ j _ _. row_of_other_tick i j u t _ _ ne)

  -- Up to the deadline of the frame's job, the entry of task i at tick t is the worst run's release of that task, with the blocker's Q or no lock.
  pub worst_entry_of : (i t : ℕ) → i < length tasks → t < suc (deadline_of (task_at (by_place order tasks) p) k)
      → entry_of (worst_script order tasks p k).entries i t ≡ row_entry i t (lock_of_task i) (release_of_task i t)
  unfolding worst_script
  worst_entry_of i t h l = turn_has i t tick_rows 0 (suc D) t (omega arith) (omega arith) (λ u ne. other_tick i t u ne) ∙ tick_has i t h

  -- After that there is none.
  pub worst_entry_none : (i t : ℕ) → suc (deadline_of (task_at (by_place order tasks) p) k) ≤ t
      → entry_of (worst_script order tasks p k).entries i t ≡ None
  unfolding worst_script
  worst_entry_none i t h = turn_has_none i t tick_rows 0 (suc D) (λ u _ l. other_tick i t u (λ e. omega arith))

  -- what an entry of the worst script says
  pub record WorstEntry (e : Entry) : Type 0 where
    pub of_task : e.task < length tasks
    pub by_deadline : e.tick < suc (deadline_of (task_at (by_place order tasks) p) k)
    pub with_lock : e.lock ≡ lock_of_task e.task
    pub with_work : release_of_task e.task e.tick ≡ Some e.work

  -- Each entry is one of those.
  pub worst_entry_is : (e : Entry) → Memᴰ e (worst_script order tasks p k).entries → WorstEntry e
  unfolding worst_script worst_row
  worst_entry_is e m =
      let (t, _, t_in, in_tick) = in_some_row tick_rows 0 (suc D) m in
      let (i, _, i_in, in_row) = in_some_row (worst_row order tasks p k t) 0 (length tasks) in_tick in
      go i t (omega arith) (omega arith) (row_is in_row)
    where
      go : (i t : ℕ) → i < length tasks → t < suc D → (e.task ≡ i) × (e.tick ≡ t) × (e.lock ≡ lock_of_task i) × (release_of_task i t ≡ Some e.work) → WorstEntry e
      go i t i_in t_in (task_is, tick_is, lock_is, work_is) =
          record { of_task = rw task_is i_in; by_deadline = rw tick_is t_in; with_lock = rw task_is lock_is; with_work = rw (task_is, tick_is) work_is }

  -- It is in range: of a task of the set, with no longer a lock than its Q.
  pub worst_entry_in_range : (e : Entry) → Memᴰ e (worst_script order tasks p k).entries → (e.task < length tasks) × (e.lock ≤ (task_at tasks e.task).lock)
  worst_entry_in_range e m =
      let w : WorstEntry e = worst_entry_is e m in
      (w.of_task, rw w.with_lock (worst_lock_fits (task_at tasks e.task) _))

  -- They stand in order.
  pub worst_entries_in_order : length tasks ≤ most_tasks → InOrder 0 (worst_script order tasks p k).entries
  unfolding worst_script worst_row
  worst_entries_in_order few =
      rises_in_order 0 _ (in_turn tick_rows 0 (suc D))
      (rises_wider (in_turn tick_rows 0 (suc D)) (omega arith) (le_refl _)
      (rises_in_turn (λ t. t * most_tasks) tick_rows 0 (suc D)
      (λ t _ _. rises_wider (tick_rows t) (omega arith) (omega arith)
      (rises_in_turn (λ i. t * most_tasks + i) (worst_row order tasks p k t) 0 (length tasks) (λ i _ l. row_rises i t _ _ (omega arith))))))
