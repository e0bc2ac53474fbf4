-- Demand 3 by task numbers: what the outcome and the written times say of every run of the set.
use Rattle.std.specs.Prelude.{Option, Some, unwrap_or}
use mathlib.Core.Bool.{true, false}
use mathlib.Core.List.{List, []}
use mathlib.Core.Path.{◌≡◌, refl, sym, ap, ◌∙◌}
use Prim.Native.Nat.{ℕ, ◌+◌, ◌*◌, ◌≤◌, ◌<◌, zero-le}
use native.Mathlib.Nat.{zero-add, lt_of_lt_of_le}
use native.Mathlib.Omega.{arith}
use native.Mathlib.Decide.{dec_lt}
use lib.ListN.{length, get_or, get_or-eq_default}
use Rattle.theory.specs.Tasks.{Task, task_at, frame_count, deadline_of, Admitted}
use Rattle.theory.specs.Analysis.{Verdict as ByPlace, holds, missed, verdict, blocker, passes, IsResponse, demand_of, response_of}
use Rattle.theory.specs.Runs.{Run}
use Rattle.theory.specs.WorstRun.{worst_run}
use Rattle.theory.proofs.Theorems.{holds_no_miss, passing_no_longer, passing_has_times, passing_reached, failing_first_misses, named_task_misses}
use Rattle.theory.proofs.Laws.{IsMissed, verdict_holds, verdict_missed, response_of_is, blocker_is}
use Rattle.order.specs.Order.{priority_order, ordered_set}
use Rattle.order.proofs.Order.{order_permutes}
use Rattle.order.proofs.Laws.{ordered_length, ordered_at, ordered_admitted}
use Rattle.analysis.specs.Times.{number_at, place_of, blocker_number, verdict_number, outcome_of, times_from, times_of, slots_of}
use Rattle.analysis.specs.Runs.{RunOf, place, TaskMisses, TaskTakesLonger, TaskTakes}
use Rattle.analysis.specs.declared.Verdict.TheVariants.{Holds, Missed}
use Rattle.analysis.proofs.Numbering.{place_in, number_back, number_in, place_back}
use Rattle.analysis.proofs.TimesAt.{time_in, time_at, time_of_passing, time_behind, time_of_missed}

-- a set of tasks, listed by number
module _ (policy : ℕ) (tasks : List Task) where
  abbrev set : List Task
  set = ordered_set policy tasks

  abbrev order : List ℕ
  order = priority_order policy tasks

  count : length set ≡ length tasks
  count = ordered_length policy tasks

  -- every task stands at a place of the order
  pub place_below : (i : ℕ) → i < length tasks → place policy tasks i < length set
  unfolding place
  place_below i h = rw count (place_in (length tasks) order (order_permutes policy tasks) i h)

  -- the task that stands at the place of a number
  pub task_of_number : (i : ℕ) → i < length tasks → task_at set (place policy tasks i) ≡ task_at tasks i
  unfolding place number_at
  task_of_number i h =
      ordered_at policy tasks (place_of order i) (place_in (length tasks) order (order_permutes policy tasks) i h)
      ∙ ap (task_at tasks) (number_back (length tasks) order (order_permutes policy tasks) i h)

  -- the outcome is that of the verdict
  said_holds : (v : ByPlace) → verdict_number order v ≡ Holds → v ≡ holds
  unfolding verdict_number
  said_holds holds e = refl
  said_holds (missed p b) e = cc

  said_missed : (v : ByPlace) (i : ℕ) (b : Option ℕ) → verdict_number order v ≡ Missed i b
      → (p : ℕ) × (c : Option ℕ) × (v ≡ missed p c) × (number_at order p ≡ i) × (blocker_number order c ≡ b)
  unfolding verdict_number
  said_missed holds i b e = cc
  said_missed (missed p c) i b e = (p, c, refl, (cc), (cc))

  -- a set that is admitted
  module _ (admitted : Admitted tasks) where
    in_order : Admitted set
    in_order = ordered_admitted policy tasks admitted

    -- If the answer is holds, no job of any task misses its deadline in any run of the set.
    pub holds_then_no_miss : outcome_of policy tasks ≡ Holds
        → (run : Run) → RunOf policy tasks run
        → (i r k : ℕ) → i < length tasks → ¬ TaskMisses policy tasks run i r k
    unfolding outcome_of RunOf TaskMisses
    holds_then_no_miss e run legal i r k h =
        holds_no_miss set in_order (said_holds (verdict set) e) run legal (place policy tasks i) r k (place_below i h)

    -- If the answer is missed, the named task is a task of the set and misses its deadline in some run.
    pub missed_then_some_miss : (i : ℕ) (b : Option ℕ) → outcome_of policy tasks ≡ Missed i b
        → (i < length tasks) × (run : Run) × (r k : ℕ) × RunOf policy tasks run × TaskMisses policy tasks run i r k
    unfolding outcome_of RunOf TaskMisses place
    missed_then_some_miss i b e =
        let (p, c, v, number, _) = said_missed (verdict set) i b e in
        let (p_in, k, first, legal, misses) = named_task_misses set in_order p c v in
        let p_below : p < length tasks = rw count at p_in in
        let here : place_of order i ≡ p = ap (place_of order) (sym number) ∙ place_back (length tasks) order (order_permutes policy tasks) p p_below in
        (rw (← number) (number_in (length tasks) order (order_permutes policy tasks) p p_below), worst_run set p k, 1, k, legal, rw here misses)

    -- And it is the first task in priority order that does not pass, with the blocker of the definitions.
    pub missed_names : (i : ℕ) (b : Option ℕ) → outcome_of policy tasks ≡ Missed i b
        → (passes set (place policy tasks i) ≡ false)
        × ((q : ℕ) → q < place policy tasks i → passes set q ≡ true)
        × (b ≡ blocker_number order (blocker set (place policy tasks i)))
    unfolding outcome_of place
    missed_names i b e =
        let (p, c, v, number, named) = said_missed (verdict set) i b e in
        let m : IsMissed set p c = (verdict_missed set).0 v in
        let p_below : p < length tasks = rw count at m.in_set in
        let here : place_of order i ≡ p = ap (place_of order) (sym number) ∙ place_back (length tasks) order (order_permutes policy tasks) p p_below in
        rw here (m.fails, m.earlier_pass, sym named ∙ ap (blocker_number order) m.named)

    -- If the answer is holds, every task passes.
    pub holds_then_passes : outcome_of policy tasks ≡ Holds → (i : ℕ) → i < length tasks → passes set (place policy tasks i) ≡ true
    unfolding outcome_of
    holds_then_passes e i h = (verdict_holds set).0 (said_holds (verdict set) e) (place policy tasks i) (place_below i h)

    -- A task that does not pass misses its deadline in some run.
    pub failing_then_some_miss : (i : ℕ) → i < length tasks → passes set (place policy tasks i) ≡ false
        → (run : Run) × (r k : ℕ) × RunOf policy tasks run × TaskMisses policy tasks run i r k
    unfolding RunOf TaskMisses
    failing_then_some_miss i h fails =
        let (k, first, legal, misses) = failing_first_misses set in_order (place policy tasks i) (place_below i h) fails in
        (worst_run set (place policy tasks i) k, 1, k, legal, misses)

    -- The blocker that a miss names is a task of the set.
    pub blocker_in : (p q : ℕ) → blocker set p ≡ Some q → number_at order q < length tasks
    blocker_in p q e = number_in (length tasks) order (order_permutes policy tasks) q (rw count at (blocker_is set p e).in_set)

    -- ---- the written times

    module _ (eight : (i : ℕ) → frame_count (task_at tasks i) ≤ 8) where
      small : (p : ℕ) → frame_count (task_at set p) ≤ 8
      unfolding task_at frame_count
      small p = go (dec_lt p (length tasks))
        where
          go : Dec (p < length tasks) → frame_count (task_at set p) ≤ 8
          go (yes h) = rw (ordered_at policy tasks p h) (eight (get_or order p 0))
          go (no n) = rw (get_or-eq_default set (record { period = 0; lock = 0; frames = []; deadlines = [] }) {n = p} (omega (arith, count))) zero-le

      -- the number in slot k of the eight of task i
      abbrev pub time : ℕ → ℕ → ℕ
      time i k = get_or (times_of policy tasks) (8 * i + k) 0

      time_is : (i k : ℕ) → i < length tasks → k < 8 → time i k ≡ get_or (slots_of set (place policy tasks i)) k 0
      unfolding times_of place
      time_is i k hi hk = time_at order set small 0 (length tasks) i k hi hk ∙ ap (λ (m : ℕ). get_or (slots_of set (place_of order m)) k 0) (zero-add i)

      -- of a task that passes
      module _ (i : ℕ) (hi : i < length tasks) (pass : passes set (place policy tasks i) ≡ true) where
        frames_of : frame_count (task_at set (place policy tasks i)) ≡ frame_count (task_at tasks i)
        frames_of = ap frame_count (task_of_number i hi)

        -- the written time of a frame is its response time
        written_response : (k : ℕ) → k < frame_count (task_at tasks i) → response_of set (place policy tasks i) k ≡ Some (time i k)
        written_response k hk =
            let (R, e) = passing_has_times set in_order (place policy tasks i) (place_below i hi) pass k in
            let same : time i k ≡ R =
            time_is i k hi (lt_of_lt_of_le hk (eight i))
            ∙ time_of_passing set (place policy tasks i) pass k (rw frames_of hk)
            ∙ ap (λ (o : Option ℕ). unwrap_or o 0) e
            in
            e ∙ ap Some (sym same)

        -- The written time of a frame is the least solution of its equation.
        pub time_is_least : (k : ℕ) → k < frame_count (task_at tasks i)
            → IsResponse (demand_of set (place policy tasks i) k) (deadline_of (task_at tasks i) k) (time i k)
        time_is_least k hk = rw (← task_of_number i hi) ((response_of_is set (place policy tasks i) k).0 (written_response k hk))

        -- It is never exceeded: in no run does a job of that frame take longer.
        pub time_never_exceeded : (k : ℕ) → k < frame_count (task_at tasks i)
            → (run : Run) → RunOf policy tasks run → (r : ℕ) → ¬ TaskTakesLonger policy tasks run i r k (time i k)
        unfolding RunOf TaskTakesLonger
        time_never_exceeded k hk run legal r =
            passing_no_longer set in_order (place policy tasks i) (place_below i hi) pass run legal r k (time i k) (written_response k hk)

        -- And it is reached: in some run a job of that frame takes exactly so long.
        pub time_reached : (k : ℕ) → k < frame_count (task_at tasks i)
            → (run : Run) × (r : ℕ) × RunOf policy tasks run × TaskTakes policy tasks run i r k (time i k)
        unfolding RunOf TaskTakes
        time_reached k hk =
            let (R, e, legal, takes) = passing_reached set in_order (place policy tasks i) (place_below i hi) pass k (rw frames_of hk) in
            let same : Some R ≡ Some (time i k) = sym e ∙ written_response k hk in
            let same : R ≡ time i k = cc in
            (worst_run set (place policy tasks i) k, 1, legal, rw (← same) takes)

        -- Slots without a frame hold 0.
        pub no_frame_no_time : (k : ℕ) → frame_count (task_at tasks i) ≤ k → k < 8 → time i k ≡ 0
        no_frame_no_time k h l = time_is i k hi l ∙ time_behind set (place policy tasks i) pass k (rw frames_of h) l

      -- of a task that does not: all its eight slots hold 0
      pub no_pass_no_time : (i : ℕ) → i < length tasks → passes set (place policy tasks i) ≡ false → (k : ℕ) → k < 8 → time i k ≡ 0
      no_pass_no_time i hi fails k l = time_is i k hi l ∙ time_of_missed set (place policy tasks i) fails k l

      -- The times of the frames of the task at a place are those that are written for its number.
      pub times_of_place : (q : ℕ) → q < length tasks → passes set q ≡ true → (k : ℕ) → k < frame_count (task_at set q)
          → get_or (times_from set q 0 (frame_count (task_at set q))) k 0 ≡ time (number_at order q) k
      unfolding place
      times_of_place q hq pass k hk =
          let here : place policy tasks (number_at order q) ≡ q = place_back (length tasks) order (order_permutes policy tasks) q hq in
          let inside : number_at order q < length tasks = number_in (length tasks) order (order_permutes policy tasks) q hq in
          let same : task_at set q ≡ task_at tasks (number_at order q) = ap (task_at set) (sym here) ∙ task_of_number (number_at order q) inside in
          let response : response_of set q k ≡ Some (time (number_at order q) k) =
          ap (λ (p : ℕ). response_of set p k) (sym here)
          ∙ written_response (number_at order q) inside (ap (passes set) here ∙ pass) k (rw (← same) hk)
          in
          time_in set q 0 (frame_count (task_at set q)) k hk
          ∙ ap (λ (m : ℕ). unwrap_or (response_of set q m) 0) (zero-add k)
          ∙ ap (λ (o : Option ℕ). unwrap_or o 0) response
