-- The script that is planned for a missed set is the worst script, and it can be counted and written.
use Rattle.std.specs.Prelude.{Ok, Option, Some}
use mathlib.Core.List.{List, map}
use mathlib.Core.Path.{◌≡◌, refl, sym, ap, ap₂, ◌∙◌}
use Prim.Native.Nat.{ℕ, zero, suc, ◌+◌, ◌≤◌, ◌<◌}
use native.Mathlib.Nat.{add-zero, add-suc, suc-add, zero-add}
use native.Mathlib.Omega.{arith}
use lib.ListN.{length, get_or}
use lib.Seq.{ext_get_or}
use Rattle.theory.specs.Tasks.{Task, task_at, deadline_of, AdmittedTask}
use Rattle.theory.specs.Analysis.{blocker, FirstWithout}
use Rattle.theory.specs.WorstRun.{Role, own, blocks, role, worst_first}
use Rattle.theory.proofs.Work.{deadline_positive}
use Rattle.theory.proofs.Blocking.{blocker_is}
use Rattle.theory.proofs.Verdict.{IsMissed}
use Rattle.theory.proofs.WorstReleases.{RoleOf, is_above, is_own, is_blocker, is_absent, role_of}
use Rattle.sheet.specs.Constants.{most_tasks, greatest_time}
use Rattle.sheet.specs.Tasks.{task_in, records_of, no_record}
use Rattle.sheet.specs.Admission.{admission}
use Rattle.sheet.specs.declared.Task.{Task as Record}
use Rattle.sheet.specs.declared.TaskSet.{TaskSet}
use Rattle.sheet.proofs.InFields.{InFields}
use Rattle.sheet.proofs.Carried.{Carried, carried_fit, by_admission, count_in_use}
use Rattle.sheet.proofs.Analysable.{each_at, admitted_set_is_admitted}
use Rattle.order.specs.Claims.{Permutes}
use Rattle.order.specs.Order.{priority_order, ordered_set}
use Rattle.order.specs.Ordered.{ordered, tasks_in_order, numbers_of, blocker_at}
use Rattle.order.specs.declared.Ordered.{Ordered}
use Rattle.order.proofs.Order.{order_permutes}
use Rattle.order.proofs.Laws.{ordered_tasks, ordered_length, ordered_at}
use Rattle.order.proofs.Records.{task_there}
use Rattle.analysis.specs.Times.{number_at, place_of}
use Rattle.analysis.specs.Findings.{in_turn}
use Rattle.analysis.specs.Misses.{miss_in}
use Rattle.analysis.proofs.ByNumber.{turn_same}
use Rattle.analysis.proofs.Entries.{numbers_are, few}
use Rattle.analysis.proofs.MissedFrames.{miss_names}
use Rattle.analysis.proofs.Numbering.{place_in, number_back}
use Rattle.plays.specs.Script.{Script}
use Rattle.plays.specs.WorstScript.{entry_row, role_of_task, worst_row, worst_firsts, worst_script}
use Rattle.plays.specs.declared.Entry.{Entry}
use Rattle.worst.specs.declared.Case.{Case}
use Rattle.worst.specs.declared.Series.{Series}
use Rattle.worst.specs.declared.Plan.{Plan}
use Rattle.worst.specs.Inside.Plans.{series_for, role_by, series_release, SoundSeries, plan_series, plan_task, SoundPlan, plan_row, tick_row, plan_entries, plan_firsts, plan_script}
use Rattle.worst.specs.Inside.Steps.{PlanFor}
use Rattle.worst.proofs.Planning.{nowhere, place_is}
use Rattle.worst.proofs.Putting.{as_many, first_at}
use Rattle.worst.proofs.ByRole.{release_same, lock_same, first_same, series_sound}

-- a series and a script by their parts
sound_by : {x y : ℕ} {t u : Task} {v w : Series} → x ≡ y → t ≡ u → v ≡ w → SoundSeries y u w → SoundSeries x t v
sound_by ex et ev h = rw (ex, et, ev) h

script_by : {fs gs : List ℕ} {es hs : List Entry} → fs ≡ gs → es ≡ hs → ◌≡◌ {A = Script} (record { firsts = fs; entries = es }) (record { firsts = gs; entries = hs })
script_by ef eh = rw (ef, eh) refl

-- ---- what follows from a role

-- the role of a task is told by the place of the blocker
role_same : (set : List Task) (p q : ℕ) → role_by p (blocker set p) q ≡ role set p q
unfolding role_by role
role_same set p q = refl

module _ (set : List Task) (p : ℕ) where
  -- the blocker has a lock; the own task stands at that place
  blocks_lock : (q : ℕ) → role set p q ≡ blocks → 1 ≤ (task_at set q).lock
  blocks_lock q r = go (role_of set p q)
    where
      go : RoleOf set p q → 1 ≤ (task_at set q).lock
      go (is_above l e) = let x = sym e ∙ r in cc
      go (is_own s e) = let x = sym e ∙ r in cc
      go (is_blocker l x e) = omega (arith, (blocker_is set p x).locks)
      go (is_absent l n e) = let x = sym e ∙ r in cc

  own_place : (q : ℕ) → role set p q ≡ own → q ≡ p
  own_place q r = go (role_of set p q)
    where
      go : RoleOf set p q → q ≡ p
      go (is_above l e) = let x = sym e ∙ r in cc
      go (is_own s e) = s
      go (is_blocker l x e) = let y = sym e ∙ r in cc
      go (is_absent l n e) = let x = sym e ∙ r in cc

-- ---- first frames of the worst script

module _ (order : List ℕ) (tasks : List Task) (p k : ℕ) where
  firsts_length : (i n : ℕ) → length (worst_firsts order tasks p k i n) ≡ n
  unfolding worst_firsts
  firsts_length i zero = refl
  firsts_length i (suc n) = ap suc (firsts_length (suc i) n)

  firsts_at : (i n j : ℕ) → j < n → get_or (worst_firsts order tasks p k i n) j 0 ≡ worst_first (task_at tasks (i + j)) k (role_of_task order tasks p k (i + j))
  unfolding worst_firsts
  firsts_at i zero j h = let z : ⊥ = omega arith in absurd z
  firsts_at i (suc n) zero h = ap (λ (x : ℕ). worst_first (task_at tasks x) k (role_of_task order tasks p k x)) (sym (add-zero i))
  firsts_at i (suc n) (suc j) h =
      firsts_at (suc i) n j (omega arith) ∙ ap (λ (x : ℕ). worst_first (task_at tasks x) k (role_of_task order tasks p k x)) (suc-add i j ∙ sym (add-suc i j))

-- ---- an admitted set that misses at place p with frame k, and the plan for it

module _ (s : TaskSet) (room : length s.tasks ≡ most_tasks) (e : admission s ≡ Ok tt) (p k : ℕ)
    (miss : miss_in (ordered_set s.policy (map task_in (records_of s))) ≡ Some (record { place = p; frame = k })) where
  abbrev tasks : List Task
  tasks = map task_in (records_of s)

  abbrev order : List ℕ
  order = priority_order s.policy tasks

  abbrev set : List Task
  set = ordered_set s.policy tasks

  abbrev n : ℕ
  n = length tasks

  carried : Carried s.policy tasks
  carried = by_admission s room e

  admitted : (i : ℕ) → i < n → AdmittedTask (task_at tasks i)
  admitted i h = (admitted_set_is_admitted s room e).each_task i h

  fields : (i : ℕ) → i < n → InFields (task_at tasks i)
  fields i h = each_at (carried_fit carried) i h

  -- the task at a place, and its number
  abbrev number : ℕ → ℕ
  number q = get_or order q 0

  number_in : (q : ℕ) → q < n → number q < n
  number_in q h = (order_permutes s.policy tasks).each_place q h

  set_at : (q : ℕ) → q < n → task_at set q ≡ task_at tasks (number q)
  set_at q h = ordered_at s.policy tasks q h

  names : IsMissed set p (blocker set p) × FirstWithout set p k
  names = miss_names set p k miss

  -- the place that is named is one of the set
  pub place_inside : p < n
  place_inside = omega (arith, names.0.in_set, ordered_length s.policy tasks)

  abbrev D : ℕ
  D = deadline_of (task_at set p) k

  end_in : (1 ≤ D) × (D ≤ greatest_time)
  end_in =
      let a = (admitted (number p) (number_in p place_inside)).well_formed in
      let same = set_at p place_inside in
      let k_in = rw same at names.1.frame_in in
      rw same (deadline_positive a k k_in, omega (arith, a.deadline_in_period k k_in, (fields (number p) (number_in p place_inside)).period_fits))

  -- task i, its place and its role
  module _ (i : ℕ) (h : i < n) where
    abbrev q : ℕ
    q = place_of order i

    q_in : q < n
    q_in = place_in n order (order_permutes s.policy tasks) i h

    abbrev r : Role
    r = role_of_task order tasks p k i

    number_there : number q ≡ i
    unfolding number_at
    number_there = number_back n order (order_permutes s.policy tasks) i h

    task_there_is : task_at set q ≡ task_at tasks i
    task_there_is = set_at q q_in ∙ ap (task_at tasks) number_there

    role_is : r ≡ role set p q
    unfolding role_of_task ordered_set
    role_is = refl

    task_sound : SoundSeries D (task_at tasks i) (series_for (task_at tasks i) k D r)
    task_sound =
        let f = fields i h in
        series_sound (task_at tasks i) k D (admitted i h) (few tasks carried.counted i) (omega (arith, f.period_fits)) (omega (arith, f.lock_fits)) end_in.0 end_in.1 r
        (λ x. let same : q ≡ p = own_place set p q (sym role_is ∙ x) in
        rw (← task_there_is, same) names.1.frame_in)

    period_in : 1 ≤ (task_at tasks i).period
    period_in =
        let a = (admitted i h).well_formed in
        omega (arith, a.frame_positive 0 a.has_frame, a.frame_in_deadline 0 a.has_frame, a.deadline_in_period 0 a.has_frame)

    blocks_locks : r ≡ blocks → 1 ≤ (task_at tasks i).lock
    blocks_locks x = rw task_there_is at (blocks_lock set p q (sym role_is ∙ x))

  -- the ordered copy
  module _ (o : Ordered) (eo : o ≡ ordered s) where
    order_is : tasks_in_order o ≡ set
    order_is = ap (λ (x : Ordered). tasks_in_order x) eo ∙ ordered_tasks s

    -- the numbers of the ordered copy are a permutation
    pub order_stands : Permutes (length (tasks_in_order o)) (numbers_of o)
    order_stands = rw (order_is, ordered_length s.policy tasks, eo, numbers_are s room e) (order_permutes s.policy tasks)

    own_is : task_in (get_or o.places p nowhere).task ≡ task_at set p
    own_is = place_is o p (rw order_is names.0.in_set) ∙ ap (λ (l : List Task). task_at l p) order_is

    module _ (d : ℕ) (is : d ≡ deadline_of (task_in (get_or o.places p nowhere).task) k) where
      end_is : d ≡ D
      end_is = is ∙ ap (λ (t : Task). deadline_of t k) own_is

      -- the deadline of the frame is a time
      pub end_fits : d ≤ greatest_time
      end_fits = omega (arith, end_is, end_in.1)

  module _ (o : Ordered) (eo : o ≡ ordered s) (b : Option ℕ) (d : ℕ) (eb : b ≡ blocker_at o p)
      (is : d ≡ deadline_of (task_in (get_or o.places p nowhere).task) k) where
    abbrev c : Case
    c = record { place = p; frame = k; blocker = b; end = d }

    ed : d ≡ D
    ed = end_is o eo d is

    blocker_is_so : b ≡ blocker set p
    unfolding blocker_at
    blocker_is_so = eb ∙ ap (λ (l : List Task). blocker l p) (order_is o eo)

    module _ (pl : Plan) (room_is : length pl.series ≡ most_tasks) (given : PlanFor o s.tasks c pl) where
      f : PlanFor (ordered s) s.tasks c pl
      f = rw eo at given

      count_same : pl.count ≡ n
      count_same = f.count_is ∙ ap length (ordered_tasks s) ∙ ordered_length s.policy tasks

      end_same : pl.end ≡ D
      end_same = f.end_is ∙ ed

      module _ (i : ℕ) (h : i < n) where
        number_is : number_at (numbers_of (ordered s)) (q i h) ≡ i
        number_is = ap (λ (l : List ℕ). number_at l (q i h)) (numbers_are s room e) ∙ number_back n order (order_permutes s.policy tasks) i h

        placed_role : role_by p b (q i h) ≡ r i h
        placed_role = ap (λ (x : Option ℕ). role_by p x (q i h)) blocker_is_so ∙ role_same set p (q i h) ∙ sym (role_is i h)

        series_is : plan_series pl i ≡ series_for (task_at tasks i) k D (r i h)
        series_is =
            ap (plan_series pl) (sym number_is)
            ∙ f.series_are (q i h) (omega (arith, q_in i h, ap length (ordered_tasks s), ordered_length s.policy tasks))
            ∙ ap (λ (t : Task). series_for t k d (role_by p b (q i h))) (ap (λ (l : List Task). task_at l (q i h)) (ordered_tasks s) ∙ task_there_is i h)
            ∙ ap₂ (λ (x : ℕ) (y : Role). series_for (task_at tasks i) k x y) ed placed_role

        task_is : plan_task pl i ≡ task_at tasks i
        unfolding records_of
        task_is =
            ap (λ (l : List Record). task_in (get_or l i no_record)) f.tasks_are
            ∙ sym (task_there s.tasks s.task_count (omega (arith, count_in_use s room e, carried.few_tasks)) i no_record (omega (arith, count_in_use s room e)))

        row_same : (t : ℕ) → t ≤ D → plan_row pl t i ≡ worst_row order tasks p k t i
        unfolding plan_row worst_row
        row_same t l =
            ap₂ (λ (series : Series) (task : Task). entry_row i t series.lock (series_release task series t)) series_is task_is
            ∙ ap₂ (entry_row i t) (lock_same (task_at tasks i) k D (r i h)) (release_same (task_at tasks i) k D (period_in i h) (r i h) (blocks_locks i h) t l)

        first_is : (plan_series pl i).next ≡ worst_first (task_at tasks i) k (r i h)
        first_is = ap (λ (series : Series). series.next) series_is ∙ first_same (task_at tasks i) k D (r i h)

      -- the plan can be counted and written
      pub plan_sound : SoundPlan pl
      plan_sound =
          record {
            some_task = omega (arith, count_same, carried.some_task);
            few_tasks = omega (arith, count_same, carried.few_tasks);
            end_fits = omega (arith, end_same, end_in.1);
            room = room_is;
            each = λ i l. let h : i < n = omega (arith, count_same) in sound_by end_same (task_is i h) (series_is i h) (task_sound i h);
          }

      firsts_same : plan_firsts pl ≡ worst_firsts order tasks p k 0 n
      firsts_same =
          let all : length (plan_firsts pl) ≡ n = as_many pl plan_sound ∙ count_same in
          ext_get_or 0 (plan_firsts pl) (worst_firsts order tasks p k 0 n) (all ∙ sym (firsts_length order tasks p k 0 n))
          (λ i l. let h : i < n = omega arith in
          first_at pl plan_sound i (omega (arith, count_same))
          ∙ first_is i h
          ∙ sym (firsts_at order tasks p k 0 n i h ∙ ap (λ (x : ℕ). worst_first (task_at tasks x) k (role_of_task order tasks p k x)) (zero-add i)))

      entries_same : plan_entries pl ≡ in_turn (λ t. in_turn (worst_row order tasks p k t) 0 n) 0 (suc D)
      unfolding plan_entries tick_row
      entries_same =
          ap₂ (λ (m x : ℕ). in_turn (λ t. in_turn (plan_row pl t) 0 m) 0 (suc x)) count_same end_same
          ∙ turn_same (λ t. in_turn (plan_row pl t) 0 n) (λ t. in_turn (worst_row order tasks p k t) 0 n) 0 (suc D)
          (λ t l. turn_same (plan_row pl t) (worst_row order tasks p k t) 0 n (λ i m. row_same i (omega arith) t (omega arith)))

      -- the script that is planned is the worst script
      pub plan_is : plan_script pl ≡ worst_script order tasks p k
      unfolding plan_script worst_script ordered_set
      plan_is = script_by firsts_same entries_same
