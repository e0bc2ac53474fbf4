-- The task at a place of an ordered set whose shapes stand: its number, its record, its shape, and what is known of them.
use mathlib.Core.List.{List}
use mathlib.Core.Path.{◌≡◌, sym}
use Prim.Native.Nat.{ℕ, ◌≤◌, ◌<◌}
use native.Mathlib.Omega.{arith}
use lib.ListN.{length, get_or, length-take}
use Rattle.theory.specs.Tasks.{task_at, frame_count, WellFormed}
use Rattle.theory.specs.Analysis.{from_start}
use Rattle.theory.proofs.Laws.{start_is}
use Rattle.sheet.specs.Constants.{most_tasks}
use Rattle.sheet.specs.Tasks.{task_in}
use Rattle.admission.specs.Judged.{shape_of, no_shape}
use Rattle.admission.specs.declared.Shape.{Shape}
use Rattle.order.specs.Ordered.{tasks_in_order, numbers_of, in_use}
use Rattle.order.specs.declared.Ordered.{Ordered}
use Rattle.order.specs.declared.Place.{Place}
use Rattle.order.proofs.Records.{places_length, place_task, place_number}
use Rattle.analysis.specs.Times.{number_at}
use Rattle.analysis.specs.Inside.Demand.{counted_from, TallyOf, Counted}
use Rattle.analysis.specs.Inside.Steps.{ShapesStand}
use Rattle.analysis.specs.declared.demand.Tally.{Tally}
use Rattle.analysis.proofs.Shapes.{shape_start}

-- there is room for sixteen
few_places : (o : Ordered) → length o.places ≡ most_tasks → length (in_use o) ≤ most_tasks
unfolding in_use
few_places o room = omega (arith, length-take o.count o.places)

-- the places are as many as the tasks
module _ (o : Ordered) (places : List Place) (are : places ≡ in_use o) where
  pub few_of : length o.places ≡ most_tasks → length places ≤ most_tasks
  few_of room = rw are (few_places o room)

  pub places_of : length (tasks_in_order o) ≡ length places
  places_of = rw are (places_length o)

-- what stands at a place of them
module _ (o : Ordered) (places : List Place) (are : places ≡ in_use o) (p : ℕ) (d : Place) (inside : p < length places) where
  abbrev at : Place
  at = get_or places p d

  pub in_order : p < length (tasks_in_order o)
  in_order = omega (arith, places_of o places are)

  pub task_there : task_in at.task ≡ task_at (tasks_in_order o) p
  task_there = rw are (sym (place_task o p d (rw are at inside)))

  pub number_there : at.number ≡ number_at (numbers_of o) p
  unfolding number_at
  number_there = rw are (sym (place_number o p d (rw are at inside)))

  module _ (shapes : List Shape) (stand : ShapesStand o shapes) where
    abbrev shape : Shape
    shape = get_or shapes at.number no_shape

    pub number_in : at.number < most_tasks
    number_in = rw number_there (stand.numbered p in_order)

    pub shape_there : shape ≡ shape_of (task_in at.task)
    shape_there = rw (number_there, task_there) (stand.shape_is p in_order)

    pub well_formed : WellFormed (task_in at.task)
    well_formed = rw task_there (stand.admitted p in_order).well_formed

    pub start_in : shape.start < frame_count (task_in at.task)
    start_in = rw (shape_start _ _ shape_there) (start_is (task_in at.task) (rw task_there (stand.admitted p in_order).monotonic)).start_in

    -- a tally of it counts the work of the place's task
    pub counted_there : (tally : Tally) → TallyOf (counted_from at.task shape.start) tally → Counted (from_start (task_at (tasks_in_order o) p)) tally
    counted_there tally is =
        rw (← task_there, ← shape_start shape (task_in at.task) shape_there) (record { tally_of = is; well_formed = well_formed })
