-- The worst script of a missed set has few entries: as many as there are ticks up to the deadline, and one more for each task, at the most.
use Rattle.std.specs.Prelude.{None, Option, Some}
use mathlib.Core.Bool.{cond, true}
use mathlib.Core.List.{List}
use mathlib.Core.Path.{◌≡◌, refl, sym, ap, ◌∙◌}
use Prim.Native.Nat.{ℕ, zero, suc, ◌+◌, ◌-◌, ◌≤◌, ◌<◌, zero-le}
use native.Mathlib.Decide.{ℕ_discrete}
use native.Mathlib.Nat.{le_trans, le_of_eq, add-zero, add-suc}
use native.Mathlib.Omega.{arith}
use borrow.Author.Tests.{lt-ltb, le-ltb, eq-eqb, ne_eqb}
use lib.Dec.{ltb, eqb}
use lib.ListN.{length, length-append}
use Rattle.theory.specs.Tasks.{Task, task_at, deadline_of, Admitted}
use Rattle.theory.specs.Analysis.{releases, passes}
use Rattle.theory.specs.WorstRun.{Role, above, own, blocks, absent, once, worst_release}
use Rattle.theory.proofs.Laws.{releases_zero, releases_few, period_positive}
use Rattle.theory.proofs.Places.{sum_below, sum_le, sum_eq}
use Rattle.theory.proofs.WorstReleases.{once_else, period_zero, Periodic, releases_now, releases_none, periodic, RoleOf, is_above, is_own, is_blocker, is_absent, role_of}
use Rattle.order.specs.Claims.{Permutes}
use Rattle.analysis.specs.Times.{number_at, place_of}
use Rattle.analysis.specs.Findings.{in_turn}
use Rattle.analysis.proofs.Numbering.{place_in, number_back}
use Rattle.plays.specs.declared.Entry.{Entry}
use Rattle.plays.specs.ScriptRun.{by_place}
use Rattle.plays.specs.WorstScript.{entry_row, role_of_task, worst_row, worst_script}
use Rattle.plays.proofs.InTurn.{turn_zero, turn_more, turn_sum, turn_one}
use Rattle.plays.proofs.ScriptLanes.{by_place_length, task_of_number}

-- ---- sums over task numbers and over places

-- one place taken out
without : ℕ → (ℕ → ℕ) → ℕ → ℕ
without j g q = cond (eqb q j) 0 (g q)

sum_without : (m j : ℕ) (g : ℕ → ℕ) → j < m → sum_below m g ≡ sum_below m (without j g) + g j
unfolding sum_below without
sum_without zero j g h = absurd (omega arith)
sum_without (suc m) j g h = go (ℕ_discrete m j) (sum_without m j g)
  where
    go : Dec (m ≡ j) → (j < m → sum_below m g ≡ sum_below m (without j g) + g j) → sum_below m g + g m ≡ sum_below m (without j g) + without j g m + g j
    go (yes e) before =
        let same : sum_below m g ≡ sum_below m (without j g) = sum_eq m (λ q l. sym (ap (λ b. cond b 0 (g q)) (ne_eqb q j (λ x. omega arith)))) in
        let out : without j g m ≡ 0 = ap (λ b. cond b 0 (g m)) (eq-eqb m j e) in
        omega (arith, ap g e)
    go (no ne) before =
        let in_it : without j g m ≡ g m = ap (λ b. cond b 0 (g m)) (ne_eqb m j ne) in
        omega (arith, before (omega arith))

-- where different numbers have different places
sum_places : (n m : ℕ) (place : ℕ → ℕ) → ((i : ℕ) → i < n → place i < m) → ((i j : ℕ) → i < n → j < n → place i ≡ place j → i ≡ j) → (g : ℕ → ℕ)
    → sum_below n (λ i. g (place i)) ≤ sum_below m g
unfolding sum_below without
sum_places zero m place inside apart g = zero-le
sum_places (suc n) m place inside apart g =
    let others : sum_below n (λ i. g (place i)) ≡ sum_below n (λ i. without (place n) g (place i)) =
    sum_eq n (λ i l. sym (ap (λ b. cond b 0 (g (place i))) (ne_eqb (place i) (place n) (λ e. omega (arith, apart i n (omega arith) (omega arith) e))))) in
    let rest = sum_places n m place (λ i l. inside i (omega arith)) (λ i j h l. apart i j (omega arith) (omega arith)) (without (place n) g) in
    omega (arith, sum_without m (place n) g (inside n (omega arith)))

-- ---- the entries of a task

one_entry : (i t l : ℕ) (o : Option ℕ) → length (entry_row i t l o) ≤ 1
unfolding entry_row
one_entry i t l None = omega arith
one_entry i t l (Some w) = omega arith

module _ (i l k : ℕ) (t : Task) where
  rows : Role → ℕ → List Entry
  rows r u = entry_row i u l (worst_release t k r u)

  -- a higher task has one at each period
  above_count : 1 ≤ t.period → (m : ℕ) → length (in_turn (rows above) 0 (suc m)) ≡ releases m t.period
  unfolding rows worst_release entry_row
  above_count positive zero =
      ap length (turn_more (rows above) 0)
      ∙ length-append (in_turn (rows above) 0 0) (rows above 0)
      ∙ ap (λ (es : List Entry). length es + length (rows above 0)) (turn_zero (rows above))
      ∙ ap (λ o. 0 + length (entry_row i 0 l o)) (period_zero t)
      ∙ sym (releases_zero positive)
  above_count positive (suc m) = whole ∙ go (periodic t positive m) (above_count positive m)
    where
      whole : length (in_turn (rows above) 0 (suc (suc m))) ≡ length (in_turn (rows above) 0 (suc m)) + length (rows above (suc m))
      whole = ap length (turn_more (rows above) (suc m)) ∙ length-append (in_turn (rows above) 0 (suc m)) (rows above (suc m))

      go : Periodic t m (releases m t.period) → length (in_turn (rows above) 0 (suc m)) ≡ releases m t.period
          → length (in_turn (rows above) 0 (suc m)) + length (rows above (suc m)) ≡ releases (suc m) t.period
      go (releases_now now _ more) before = let here : length (rows above (suc m)) ≡ 1 = ap (λ o. length (entry_row i (suc m) l o)) now in omega arith
      go (releases_none now more) before = let here : length (rows above (suc m)) ≡ 0 = ap (λ o. length (entry_row i (suc m) l o)) now in omega arith

  once_count : (at w m : ℕ) → length (in_turn (λ u. entry_row i u l (once at w u)) 0 m) ≤ 1
  unfolding entry_row
  once_count at w m = turn_one (λ u. entry_row i u l (once at w u)) at (λ u ne. ap (entry_row i u l) (once_else at w u ne)) (one_entry i at l (once at w at)) m

  -- every other task has one or none
  own_count : (m : ℕ) → length (in_turn (rows own) 0 m) ≤ 1
  unfolding rows worst_release
  own_count m = once_count 1 _ m

  blocks_count : (m : ℕ) → length (in_turn (rows blocks) 0 m) ≤ 1
  unfolding rows worst_release
  blocks_count m = once_count 0 _ m

  absent_count : (m : ℕ) → length (in_turn (rows absent) 0 m) ≤ 1
  unfolding rows worst_release entry_row
  absent_count m = turn_one (rows absent) 0 (λ u _. refl) zero-le m

-- ---- all entries

module _ (order : List ℕ) (tasks : List Task) (permutes : Permutes (length tasks) order) (admitted : Admitted (by_place order tasks)) (p k : ℕ) (in_set : p < length tasks)
    (above_pass : (q : ℕ) → q < p → passes (by_place order tasks) q ≡ true) where
  abbrev set : List Task
  set = by_place order tasks

  abbrev D : ℕ
  D = deadline_of (task_at set p) k

  -- the most that the task at a place has
  most : ℕ → ℕ
  most q = cond (ltb q p) (releases D (task_at set q).period) 1

  long : length set ≡ length tasks
  long = by_place_length order tasks ∙ permutes.same_length

  task_count : (i : ℕ) → i < length tasks → length (in_turn (λ t. worst_row order tasks p k t i) 0 (suc D)) ≤ most (place_of order i)
  unfolding worst_row role_of_task most rows
  task_count i h = go (role_of set p q)
    where
      q : ℕ
      q = place_of order i

      here : task_at set q ≡ task_at tasks i
      here = task_of_number order tasks permutes i h

      go : RoleOf set p q → length (in_turn (λ t. worst_row order tasks p k t i) 0 (suc D)) ≤ most q
      go (is_above l e) =
          rw (e, lt-ltb q p l, here)
          (le_of_eq (above_count i _ k (task_at tasks i) (rw here at (period_positive (admitted.each_task q (omega (arith, long))).well_formed)) D))
      go (is_own s e) = rw (e, le-ltb q p (omega arith)) (own_count i _ k (task_at tasks i) (suc D))
      go (is_blocker l _ e) = rw (e, le-ltb q p (omega arith)) (blocks_count i _ k (task_at tasks i) (suc D))
      go (is_absent l _ e) = rw (e, le-ltb q p (omega arith)) (absent_count i _ k (task_at tasks i) (suc D))

  -- the places from the named one on have one each
  most_sum : (d : ℕ) → sum_below (p + d) most ≤ D + p + d
  unfolding sum_below most
  most_sum zero =
      rw (add-zero p, add-zero (D + p))
      (le_trans (le_of_eq (sum_eq p (λ q l. ap (λ b. cond b (releases D (task_at set q).period) 1) (lt-ltb q p l))))
      (releases_few set admitted p (omega (arith, long)) above_pass D))
  most_sum (suc d) =
      rw (add-suc p d) (let one : most (p + d) ≡ 1 = ap (λ b. cond b (releases D (task_at set (p + d)).period) 1) (le-ltb (p + d) p (omega arith)) in omega (arith, most_sum d))

  pub worst_few : length (worst_script order tasks p k).entries ≤ deadline_of (task_at (by_place order tasks) p) k + length tasks
  unfolding worst_script
  worst_few =
      let n = length tasks in
      let by_task = turn_sum (worst_row order tasks p k) n (suc D) in
      let each = sum_le n task_count in
      let places =
      sum_places n n (place_of order) (λ i h. place_in n order permutes i h)
      (λ i j h l e. sym (number_back n order permutes i h) ∙ ap (number_at order) e ∙ number_back n order permutes j l) most in
      let all = most_sum (n - p) in
      let whole : p + (n - p) ≡ n = omega arith in
      omega (arith, by_task, each, places, all, ap (λ x. sum_below x most) whole)
