-- The plan for an ordered set, place by place: each task's releases go to its number.
use Rattle.std.proofs.Common.{◌≡◌, ℕ, ◌+◌, ◌<◌, List, length, get_or, set, replicate, refl, sym, ap, ◌∙◌, length-set, length-take, arith}
use native.Mathlib.Decide.{ℕ_discrete}
use lib.Seq.{get_or-set_same, get_or-set_other, get_or-take}
use Rattle.theory.specs.Tasks.{Task, task_at}
use Rattle.sheet.specs.Constants.{most_tasks}
use Rattle.sheet.specs.Tasks.{task_in, no_record}
use Rattle.sheet.specs.declared.Task.{Task as Record}
use Rattle.order.specs.Ordered.{in_use, tasks_in_order, numbers_of}
use Rattle.order.specs.declared.Ordered.{Ordered}
use Rattle.order.specs.declared.Place.{Place}
use Rattle.order.specs.Claims.{Permutes}
use Rattle.order.proofs.Records.{places_length}
use Rattle.analysis.specs.Times.{number_at}
use Rattle.analysis.proofs.Placed.{places_of, number_there, task_there}
use Rattle.worst.specs.declared.Case.{Case}
use Rattle.worst.specs.declared.Series.{Series}
use Rattle.worst.specs.Inside.Plans.{no_series, series_for, role_by}
use Rattle.worst.specs.Inside.Steps.{PlanFor}

-- what stands past the last place: nothing reads it
abbrev pub nowhere : Place
nowhere = record { number = 0; task = no_record }

-- the series of the task at place p
abbrev pub series_at : List Place → Case → ℕ → Series
series_at places c p = series_for (task_in (get_or places p nowhere).task) c.frame c.end (role_by c.place c.blocker p)

-- the series of the places before place q stand at their numbers
pub record PlannedTo (places : List Place) (c : Case) (series : List Series) (q : ℕ) : Type 0 where
  pub long : length series ≡ most_tasks
  pub planned : (p : ℕ) → p < q → get_or series (get_or places p nowhere).number no_series ≡ series_at places c p

module _ (places : List Place) (c : Case) where
  -- before the first place nothing is planned
  pub none_planned : PlannedTo places c (replicate most_tasks no_series) 0
  none_planned = record { long = refl; planned = λ p h. let z : ⊥ = omega arith in absurd z }

  -- the series of one place more goes to the number of its task
  pub planned_more : {series : List Series} (q i : ℕ) (t : Series) → PlannedTo places c series q → i ≡ (get_or places q nowhere).number → i < most_tasks
      → ((p : ℕ) → p < q → (get_or places p nowhere).number ≡ (get_or places q nowhere).number → ⊥) → t ≡ series_at places c q → PlannedTo places c (set series i t) (q + 1)
  planned_more {series} q i t s ei h apart et = record { long = length-set series i t ∙ s.long; planned = λ p l. go p l (ℕ_discrete p q) }
    where
      go : (p : ℕ) → p < q + 1 → Dec (p ≡ q) → get_or (set series i t) (get_or places p nowhere).number no_series ≡ series_at places c p
      go p l (yes e) = rw (e, ← ei) (get_or-set_same series i t no_series (omega (arith, s.long)) ∙ et)
      go p l (no n) =
          let m : p < q = omega arith in
          get_or-set_other series i (get_or places p nowhere).number t no_series (λ x. apart p m (x ∙ ei)) ∙ s.planned p m

-- the task at a place
pub place_is : (o : Ordered) (p : ℕ) → p < length (tasks_in_order o) → task_in (get_or o.places p nowhere).task ≡ task_at (tasks_in_order o) p
unfolding in_use
place_is o p h =
    let inside : p < length (in_use o) = omega (arith, places_length o) in
    ap (λ (x : Place). task_in x.task) (sym (get_or-take o.count o.places p nowhere (omega (arith, length-take o.count o.places)))) ∙ task_there o (in_use o) refl p nowhere inside

module _ (o : Ordered) (places : List Place) (are : places ≡ in_use o) where
  -- no place has the number of one before it
  pub apart : Permutes (length (tasks_in_order o)) (numbers_of o) → (q : ℕ) → q < length places
      → (p : ℕ) → p < q → (get_or places p nowhere).number ≡ (get_or places q nowhere).number → ⊥
  unfolding number_at
  apart permutes q h p l e =
      let m : p < length places = omega arith in
      let all = places_of o places are in
      let same = permutes.no_two p q (omega arith) (omega arith) (sym (number_there o places are p nowhere m) ∙ e ∙ number_there o places are q nowhere h) in
      omega arith

  -- all places
  pub all_planned : (tasks : List Record) (c : Case) (series : List Series) (q : ℕ) → q ≡ length places → PlannedTo places c series q
      → PlanFor o tasks c (record { count = length places; end = c.end; tasks = tasks; series = series })
  all_planned tasks c series q ends s =
      record {
        count_is = sym (places_of o places are);
        end_is = refl;
        tasks_are = refl;
        series_are = λ p l.
            let h : p < length places = omega (arith, places_of o places are) in
            ap (λ (i : ℕ). get_or series i no_series) (sym (number_there o places are p nowhere h))
            ∙ s.planned p (omega arith)
            ∙ ap (λ (t : Task). series_for t c.frame c.end (role_by c.place c.blocker p)) (task_there o places are p nowhere h);
      }
