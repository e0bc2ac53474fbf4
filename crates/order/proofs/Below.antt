-- What stands below a place of an ordered set: the largest lock there, and the first task that has it.
use Rattle.std.proofs.Common.{◌≡◌, ℕ, suc, ◌+◌, ◌-◌, ◌≤◌, ◌<◌, Bool, ◌&&◌, leb, List, [], ◌∷◌, map, length, get_or, drop, max, Option, None, Some, sym, ap, ◌∙◌, arith, length-drop}
use Rattle.std.specs.List.{position, position_or_len, fold}
use Rattle.std.specs.Option.{option_map}
use Rattle.std.proofs.lemmas.List.{drop-map}
use Rattle.std.proofs.lemmas.List.Sums.{fails_before_first, passes_at_first}
use Rattle.std.proofs.lemmas.List.Quantifiers.{position-Some}
use borrow.Author.Tests.{lt-ltb, le-ltb}
use native.Mathlib.Decide.{dec_lt}
use lib.Seq.{get_or-drop}
use Rattle.theory.specs.First.{first}
use Rattle.theory.specs.Tasks.{Task, task_at, largest}
use Rattle.theory.specs.Analysis.{lower, largest_lock, blocker}
use Rattle.theory.proofs.Search.{first_is, first_is_none}
use Rattle.sheet.specs.Tasks.{task_in}
use Rattle.order.specs.Ordered.{no_place, in_use, tasks_in_order, blocker_at}
use Rattle.order.specs.declared.Ordered.{Ordered}
use Rattle.order.specs.declared.Place.{Place}
use Rattle.order.proofs.Records.{places_length, place_task}

-- the largest lock, as the code folds it
fold_largest : (a : ℕ) (ps : List Place) → fold (λ (m : ℕ) (q : Place). max m q.task.lock) a ps ≡ max a (largest (map (λ t. t.lock) (map (λ q. task_in q.task) ps)))
unfolding largest task_in
fold_largest a [] = omega arith
fold_largest a (q ∷ ps) = fold_largest (max a q.task.lock) ps ∙ omega arith

pub largest_is : (ps : List Place) → fold (λ (m : ℕ) (q : Place). max m q.task.lock) 0 ps ≡ largest_lock (map (λ q. task_in q.task) ps)
unfolding largest_lock
largest_is ps = fold_largest 0 ps ∙ omega arith

module _ (o : Ordered) (p : ℕ) where
  abbrev pub below : List Place
  below = drop (suc p) (in_use o)

  -- the tasks below place p stand at the places below it
  pub tasks_below : map (λ q. task_in q.task) below ≡ lower (tasks_in_order o) p
  unfolding lower tasks_in_order
  tasks_below = sym (drop-map (λ (q : Place). task_in q.task) (suc p) (in_use o))

  task_below : (k : ℕ) → k < length below → task_at (tasks_in_order o) (suc p + k) ≡ task_in (get_or below k no_place).task
  task_below k h =
      place_task o (suc p + k) no_place (omega (arith, length-drop (suc p) (in_use o)))
      ∙ ap (λ (q : Place). task_in q.task) (sym (get_or-drop (suc p) (in_use o) k no_place))

  as_many : length (tasks_in_order o) - suc p ≡ length below
  as_many = omega (arith, places_length o, length-drop (suc p) (in_use o))

  module _ (test : Task → Bool) where
    on_place : Place → Bool
    on_place q = test (task_in q.task)

    test_there : (u : ℕ) → suc p ≤ u → u < suc p + length below → on_place (get_or below (u - suc p) no_place) ≡ test (task_at (tasks_in_order o) u)
    unfolding on_place
    test_there u h l =
        let there : suc p + (u - suc p) ≡ u = omega arith in
        ap test (sym (task_below (u - suc p) (omega arith))) ∙ ap (λ (q : ℕ). test (task_at (tasks_in_order o) q)) there

    abbrev first_task : Option ℕ
    first_task = first (suc p) (length (tasks_in_order o) - suc p) (λ q. test (task_at (tasks_in_order o) q))

    found_below : position_or_len on_place below < length below → first_task ≡ Some (p + 1 + position_or_len on_place below)
    found_below h =
        let k = position_or_len on_place below in
        let there : p + 1 + k - suc p ≡ k = omega arith in
        first_is _ _ _ (record {
          from = omega arith;
          before = omega (arith, as_many);
          passes = sym (test_there (p + 1 + k) (omega arith) (omega arith)) ∙ ap (λ (i : ℕ). on_place (get_or below i no_place)) there ∙ passes_at_first on_place below no_place h;
          earlier = λ u l m. sym (test_there u l (omega arith)) ∙ fails_before_first on_place below (u - suc p) no_place (omega arith);
        })

    not_below : length below ≤ position_or_len on_place below → first_task ≡ None
    not_below h =
        first_is_none _ _ _ (λ u l m.
        sym (test_there u l (omega (arith, as_many))) ∙ fails_before_first on_place below (u - suc p) no_place (omega (arith, as_many)))

    -- the first task below that passes a test stands where the first place does
    first_below : first_task ≡ option_map (λ k. p + 1 + k) (position (λ (q : Place). test (task_in q.task)) below)
    unfolding on_place
    first_below = go (dec_lt (position_or_len (λ (q : Place). test (task_in q.task)) below) (length below))
      where
        go : Dec (position_or_len (λ (q : Place). test (task_in q.task)) below < length below)
            → first_task ≡ option_map (λ k. p + 1 + k) (position (λ (q : Place). test (task_in q.task)) below)
        go (yes h) = rw (lt-ltb _ _ h) (found_below h)
        go (no h) = rw (le-ltb (position_or_len (λ (q : Place). test (task_in q.task)) below) (length below) (omega arith)) (not_below (omega arith))

  the_blocker : (lock : ℕ) → lock ≡ largest_lock (map (λ q. task_in q.task) below)
      → blocker_at o p ≡ option_map (λ k. p + 1 + k) (position (λ (q : Place). leb 2 q.task.lock && leb lock q.task.lock) below)
  unfolding blocker_at blocker task_in
  the_blocker lock e =
      let same : lock ≡ largest_lock (lower (tasks_in_order o) p) = e ∙ ap largest_lock tasks_below in
      rw (← same) (first_below (λ (t : Task). leb 2 t.lock && leb lock t.lock))

  module _ (places : List Place) (lock : ℕ) (r : Option ℕ) (here : places ≡ below) (largest_is : lock ≡ largest_lock (map (λ q. task_in q.task) places))
      (first_is : r ≡ position (λ (q : Place). leb 2 q.task.lock && leb lock q.task.lock) places) where
    -- the first place below with the largest lock is the blocker's
    pub blocker_is : blocker_at o p ≡ option_map (λ k. p + 1 + k) r
    blocker_is = the_blocker lock (rw here at largest_is) ∙ ap (option_map (λ k. p + 1 + k)) (sym (rw here at first_is))

    pub blocker_in : (k : ℕ) → r ≡ Some k → p + 1 + k < length (in_use o)
    blocker_in k e =
        omega (arith, position-Some (λ (q : Place). leb 2 q.task.lock && leb lock q.task.lock) below k no_place (sym (rw here at first_is) ∙ e), length-drop (suc p) (in_use o))
