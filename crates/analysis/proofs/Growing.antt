-- The places of an ordered set one after another: their tallies, those of the tasks above a place, and the findings.
use Rattle.std.specs.Prelude.{None, Option}
use mathlib.Core.List.{List, ◌++◌}
use mathlib.Core.Path.{◌≡◌, refl, sym, ap, ◌∙◌}
use Prim.Native.Nat.{ℕ, ◌+◌, ◌-◌, ◌<◌}
use native.Mathlib.Decide.{ℕ_discrete}
use native.Mathlib.Nat.{min-eq_left}
use native.Mathlib.Omega.{arith}
use lib.ListN.{length, get_or, take, set, replicate, length-set, length-map, length-take, get_or-map}
use lib.Seq.{get_or-take, get_or-set_same, get_or-set_other}
use Rattle.theory.specs.Tasks.{Task, task_at}
use Rattle.theory.specs.Analysis.{from_start, higher}
use Rattle.theory.proofs.Places.{zeros}
use Rattle.sheet.specs.Constants.{most_tasks}
use Rattle.sheet.specs.Tasks.{task_in}
use Rattle.sheet.proofs.Filled.{filled, none_filled, filled_more, all_filled}
use Rattle.order.specs.Ordered.{in_use, tasks_in_order, numbers_of, blocking_at}
use Rattle.order.specs.declared.Ordered.{Ordered}
use Rattle.order.specs.declared.Place.{Place}
use Rattle.analysis.specs.Inside.Demand.{Counted, no_tally, Tallies}
use Rattle.analysis.specs.Findings.{no_finding, findings_from, findings_of}
use Rattle.analysis.specs.Inside.Steps.{TalliesStand, finding_to}
use Rattle.analysis.specs.declared.demand.Tally.{Tally}
use Rattle.analysis.specs.declared.Finding.{Finding}
use Rattle.analysis.proofs.ByPlace.{finding_is_at, length_findings, finding_first}
use Rattle.analysis.proofs.Placed.{places_of, task_there, number_there}

-- ---- the tallies

module _ (tasks : List Task) where
  -- those of the first p places
  pub record FirstStand (tallies : List Tally) (p : ℕ) : Type 0 where
    pub room : length tallies ≡ most_tasks
    pub each : (i : ℕ) → i < p → Counted (from_start (task_at tasks i)) (get_or tallies i no_tally)

  pub none_stand : (tally : Tally) → FirstStand (replicate most_tasks tally) 0
  none_stand tally = record { room = refl; each = λ i l. let z : ⊥ = omega arith in absurd z }

  pub one_stands : {tallies : List Tally} {p : ℕ} (tally : Tally) → FirstStand tallies p → p < most_tasks → Counted (from_start (task_at tasks p)) tally
      → FirstStand (set tallies p tally) (p + 1)
  one_stands {tallies} {p} tally so_far inside this =
      record { room = length-set tallies p tally ∙ so_far.room; each = λ i l. at i l (ℕ_discrete i p) }
    where
      at : (i : ℕ) → i < p + 1 → Dec (i ≡ p) → Counted (from_start (task_at tasks i)) (get_or (set tallies p tally) i no_tally)
      at i l (yes e) = rw (e, get_or-set_same tallies p tally no_tally (omega (arith, so_far.room))) this
      at i l (no n) = rw (get_or-set_other tallies p i tally no_tally n) (so_far.each i (omega arith))

  -- above a place stand those before it
  module _ (tallies : List Tally) (stand : TalliesStand tasks tallies) (p : ℕ) (inside : p < length tasks) where
    pub above : Tallies (take p tallies)
    unfolding higher task_at
    above =
        record {
          few = omega (arith, long, stand.few);
          tasks = higher tasks p;
          many = length-map (take p tasks) from_start ∙ length-take p tasks ∙ min-eq_left (omega arith) ∙ sym (long);
          each = λ i l.
              rw (get_or-map from_start (take p tasks) i zeros, get_or-take p tasks i zeros (omega (arith, long)), get_or-take p tallies i no_tally (omega (arith, long)))
              (stand.each i (omega (arith, long)));
        }
      where
        long : length (take p tallies) ≡ p
        long = length-take p tallies ∙ min-eq_left (omega (arith, stand.room, stand.few))

    pub above_are : above.tasks ≡ higher tasks p
    unfolding above
    above_are = refl

-- ---- findings

abbrev all : Ordered → List Finding
all o = findings_from (numbers_of o) (tasks_in_order o) 0 (length (tasks_in_order o))

-- after p places: their findings stand
pub Found : Ordered → List Finding → ℕ → Type 0
Found o findings p = findings ≡ filled most_tasks no_finding (all o) p

all_length : (o : Ordered) → length (all o) ≡ length (tasks_in_order o)
all_length o = length_findings (numbers_of o) (tasks_in_order o) 0 (length (tasks_in_order o))

blank_is : {number period deadline frames blocked : ℕ} {times : Option (List ℕ)} → number ≡ 0 → period ≡ 0 → deadline ≡ 0 → frames ≡ 0 → blocked ≡ 0 → times ≡ None
    → ◌≡◌ {A = Finding} (record { number = number; period = period; deadline = deadline; frame_count = frames; blocked = blocked; times = times }) no_finding
blank_is en ep ed ef eb et = rw (en, ep, ed, ef, eb, et)

pub none_found : (o : Ordered) (f : Finding) → (f.number ≡ 0) × ((f.period ≡ 0) × ((f.deadline ≡ 0) × ((f.frame_count ≡ 0) × ((f.blocked ≡ 0) × (f.times ≡ None)))))
    → Found o (replicate most_tasks f) 0
unfolding Found
none_found o f (en, (ep, (ed, (ef, (eb, et))))) = rw (blank_is en ep ed ef eb et) (none_filled most_tasks no_finding (all o))

module _ (o : Ordered) (places : List Place) (are : places ≡ in_use o) (p : ℕ) (inside : p < length places)
    (tallies : List Tally) (stand : TalliesStand (tasks_in_order o) tallies) where
  in_order : p < length (tasks_in_order o)
  in_order = omega (arith, places_of o places are)

  pub above_here : Tallies (take p tallies)
  above_here = above (tasks_in_order o) tallies stand p in_order

  pub long_here : length (take p tallies) ≡ p
  long_here = length-take p tallies ∙ min-eq_left (omega (arith, in_order, stand.room, stand.few))

  pub above_here_are : above_here.tasks ≡ higher (tasks_in_order o) p
  unfolding above_here
  above_here_are = above_are (tasks_in_order o) tallies stand p _

  pub found_more : (d : Place) (findings : List Finding) (blocked : ℕ) (f : Finding) → Found o findings p → blocked ≡ blocking_at o p
      → f ≡ finding_to above_here.tasks (get_or places p d).number blocked (task_in (get_or places p d).task) → Found o (set findings p f) (p + 1)
  unfolding Found blocking_at
  found_more d findings blocked f g eb ef =
      ap (λ (l : List Finding). set l p f) g
      ∙ filled_more most_tasks no_finding (all o) p no_finding f (rw (all_length o) in_order) (omega (arith, in_order, stand.few))
      (ef ∙ finding_is_at (tasks_in_order o) p _ blocked _ above_here_are eb (task_there o places are p d inside) (numbers_of o) (get_or places p d).number (number_there o places are p d inside)
      ∙ sym (finding_first (numbers_of o) (tasks_in_order o) (length (tasks_in_order o)) p no_finding in_order))

pub all_found : (o : Ordered) (findings : List Finding) (p : ℕ) → length (tasks_in_order o) ≡ p → Found o findings p → findings ≡ findings_of (numbers_of o) (tasks_in_order o)
unfolding Found findings_of
all_found o findings p e g =
    g ∙ all_filled most_tasks no_finding (all o) p (all_length o ∙ e) ∙ ap (λ (n : ℕ). all o ++ replicate (most_tasks - n) no_finding) (all_length o)
