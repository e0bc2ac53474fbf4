-- The releases of the task at a place, by its role.
use Rattle.std.specs.Prelude.{true, false, None, Option, Some}
use mathlib.Core.Path.{◌≡◌, refl, sym, ap}
use Prim.Native.Nat.{ℕ, ◌+◌, ◌≤◌, ◌<◌}
use native.Mathlib.Numerals.{add-one}
use borrow.Author.Tests.{lt-ltb, le-ltb, eq-eqb, ne_eqb, eqb-true}
use lib.Dec.{eqb}
use Rattle.std.specs.Option.{option_eq}
use Rattle.theory.specs.Tasks.{largest_frame}
use Rattle.theory.specs.WorstRun.{Role, above, own, blocks, absent, below_own}
use Rattle.sheet.specs.Tasks.{task_in}
use Rattle.sheet.specs.declared.Task.{Task as Record}
use Rattle.admission.specs.Judged.{shape_of}
use Rattle.admission.specs.declared.Shape.{Shape}
use Rattle.analysis.proofs.Shapes.{shape_start}
use Rattle.worst.specs.declared.Case.{Case}
use Rattle.worst.specs.declared.Series.{Series}
use Rattle.worst.specs.Inside.Plans.{series_for, role_by}

-- the blocker is told by the test
told : (q : ℕ) (b : Option ℕ) → option_eq eqb b (Some q) ≡ true → b ≡ Some q
told q None e = cc
told q (Some x) e = ap Some (eqb-true x q e)

untold : (q : ℕ) (b : Option ℕ) → option_eq eqb b (Some q) ≡ false → b ≡ Some q → ⊥
untold q b e h = let same = rw h at e in let equal = eq-eqb q q refl in cc

-- a place that is not the blocker's
not_blocker : (q : ℕ) (b : Option ℕ) → (b ≡ Some q → ⊥) → below_own b q ≡ absent
unfolding below_own
not_blocker q None m = refl
not_blocker q (Some x) m = rw (ne_eqb q x (λ e. m (ap Some (sym e))), below_own)

module _ (p : ℕ) (b : Option ℕ) (q : ℕ) where
  -- a place before p is above
  pub by_above : q < p → role_by p b q ≡ above
  unfolding role_by
  by_above h = rw (lt-ltb q p h, role_by)

  module _ (l : p ≤ q) where
    -- place p is its own
    pub by_own : q ≡ p → role_by p b q ≡ own
    unfolding role_by
    by_own e = rw (le-ltb q p l, eq-eqb q p e, role_by)

    module _ (n : q ≡ p → ⊥) where
      -- the place of the blocker blocks
      pub by_blocks : b ≡ Some q → role_by p b q ≡ blocks
      unfolding role_by below_own
      by_blocks e = rw (le-ltb q p l, ne_eqb q p n, e, eq-eqb q q refl, role_by, below_own)

      -- every other place is absent
      pub by_absent : (b ≡ Some q → ⊥) → role_by p b q ≡ absent
      unfolding role_by
      by_absent m = rw (le-ltb q p l, ne_eqb q p n, role_by) (not_blocker q b m)

module _ (c : Case) (q : ℕ) (r : Record) where
  abbrev series_here : Role → Series
  series_here role = series_for (task_in r) c.frame c.end role

  abbrev role_here : Role
  role_here = role_by c.place c.blocker q

  -- what is planned for a higher task
  pub series_above : (s : Shape) → s ≡ shape_of (task_in r) → q < c.place
      → ◌≡◌ {A = Series} (record { opens = 1; step = r.period; next = s.start; lock = 0 }) (series_here role_here)
  unfolding series_for task_in
  series_above s e h = rw (by_above c.place c.blocker q h, shape_start s (task_in r) e) refl

  module _ (l : c.place ≤ q) where
    -- what is planned for the task itself
    pub series_own : q ≡ c.place → ◌≡◌ {A = Series} (record { opens = 1; step = c.end + 1; next = c.frame; lock = 0 }) (series_here role_here)
    unfolding series_for
    series_own h = rw (by_own c.place c.blocker q l h, add-one c.end) refl

    module _ (n : q ≡ c.place → ⊥) where
      -- what is planned for the blocker
      pub series_blocks : (k : ℕ) → k ≡ largest_frame (task_in r) → option_eq eqb c.blocker (Some q) ≡ true
          → ◌≡◌ {A = Series} (record { opens = 0; step = c.end + 1; next = k; lock = r.lock }) (series_here role_here)
      unfolding series_for task_in
      series_blocks k e h = rw (by_blocks c.place c.blocker q l n (told q c.blocker h), add-one c.end, e) refl

      -- what is planned for a task without a release
      pub series_absent : option_eq eqb c.blocker (Some q) ≡ false → ◌≡◌ {A = Series} (record { opens = c.end + 1; step = c.end + 1; next = 0; lock = 0 }) (series_here role_here)
      unfolding series_for
      series_absent h = rw (by_absent c.place c.blocker q l n (untold q c.blocker h), add-one c.end) refl
