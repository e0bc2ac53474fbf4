-- The answers to a task, to a row of tasks and to a list, check by check.
use Rattle.std.specs.Prelude.{Err, None, Ok, Option, Result, Some, unwrap_or}
use Rattle.std.specs.List.{position_from}
use Rattle.std.proofs.Common.{◌≡◌, ℕ, suc, ◌+◌, ◌≤◌, ◌<◌, Bool, true, false, cond, not, ◌&&◌, leb, List, [], ◌∷◌, ◌++◌, map, length, get_or, drop, refl, sym, ap, ◌∙◌, add-one, drop-cons}
use lib.ListN.{drop_of_length-le}
use Rattle.theory.specs.Tasks.{Task, largest, start_frame}
use Rattle.theory.proofs.Search.{some_found, none_found}
use Rattle.sheet.specs.Constants.{most_tasks, most_frames}
use Rattle.sheet.specs.Tasks.{task_in, records_of}
use Rattle.lent.specs.Checks.{◌⇒◌}
use Rattle.sheet.specs.Admission.{decided, miscounted, known_policy, in_range, well_formed, lock_fits, monotonic, reason_of, policy_check, task_count_check, frame_count_check, task_checks, frame_count_checks, list_checks, admission}
use Rattle.sheet.specs.declared.Task.{Task as Record}
use Rattle.sheet.specs.declared.TaskSet.{TaskSet}
use Rattle.sheet.specs.declared.Reason.{Reason}
use Rattle.sheet.specs.declared.Refusal.{Refusal}
use Rattle.sheet.specs.declared.Refusal.TheVariants.{Policy, TaskCount, FrameCount, IllFormed, Lock, NotMonotonic}
use Rattle.sheet.proofs.Checks.{applies, passed_over, no_check, admitted_first, refused_first}
use Rattle.admission.specs.declared.Shape.{Shape}
use Rattle.admission.specs.declared.Judged.{Judged}
use Rattle.admission.specs.Start.{start_of}
use Rattle.admission.specs.Judged.{shape_of, shapes_of, judged}
use Rattle.admission.specs.Inside.Steps.{by_answer, task_answer}
use Rattle.admission.proofs.Starts.{found_at, found_nowhere}

-- ---- one task

module _ (i : ℕ) (t : Task) (ts : List Task) where
  -- the three checks of a task stand before those of the next
  task_first : task_checks i (t ∷ ts) ≡ task_checks i (t ∷ []) ++ task_checks (suc i) ts
  unfolding task_checks
  task_first = refl

module _ (i : ℕ) (t : Task) where
  by_checks : (a : Result Unit Refusal) → decided (task_checks i (t ∷ [])) ≡ a → by_answer a t ≡ task_answer i t
  unfolding task_answer
  by_checks a e = ap (λ (x : Result Unit Refusal). by_answer x t) (sym e)

  pub ill_formed : (in_range t && well_formed t) ≡ false → Err (IllFormed i) ≡ task_answer i t
  unfolding task_checks
  ill_formed e = by_checks (Err (IllFormed i)) (applies _ _ _ (ap not e))

  module _ (formed : (in_range t && well_formed t) ≡ true) (most : ℕ) (most_is : most ≡ largest t.frames) where
    locks : (b : Bool) → leb t.lock most ≡ b → lock_fits t ≡ b
    unfolding lock_fits
    locks b e = rw (← most_is) e

    pub lock_above : leb t.lock most ≡ false → Err (Lock i) ≡ task_answer i t
    unfolding task_checks
    lock_above e = by_checks (Err (Lock i)) (passed_over _ _ _ (ap not formed) ∙ applies _ _ _ (ap not (locks false e)))

    module _ (fits : leb t.lock most ≡ true) where
      to_the_third : decided (task_checks i (t ∷ [])) ≡ decided ((not (monotonic t) ⇒ NotMonotonic i (reason_of t)) ∷ [])
      unfolding task_checks
      to_the_third = passed_over _ _ _ (ap not formed) ∙ passed_over _ _ _ (ap not (locks true fits))

      pub no_start : (why : Reason) → start_of t ≡ Err why → Err (NotMonotonic i why) ≡ task_answer i t
      unfolding start_of monotonic
      no_start why e =
          let (none_starts, same) = found_nowhere (reason_of t) _ why e in
          rw same (by_checks (Err (NotMonotonic i (reason_of t))) (to_the_third ∙ applies _ _ _ (ap not (none_found none_starts))))

      pub with_start : (s : ℕ) → start_of t ≡ Ok s → Ok (record { start = s }) ≡ task_answer i t
      unfolding start_of monotonic start_frame shape_of
      with_start s e =
          let start = found_at (reason_of t) _ s e in
          rw (← ap (λ (o : Option ℕ). unwrap_or o 0) start)
          (by_checks (Ok tt) (to_the_third ∙ passed_over _ _ _ (ap not (some_found start)) ∙ no_check))

-- a task's answer, from what it told
told_shape : (a : Result Unit Refusal) (t : Task) (shape : Shape) → by_answer a t ≡ Ok shape → (a ≡ Ok tt) × (shape ≡ shape_of t)
told_shape (Ok tt) t shape e = (refl, cc)
told_shape (Err why) t shape e = cc

told_why : (a : Result Unit Refusal) (t : Task) (why : Refusal) → by_answer a t ≡ Err why → a ≡ Err why
told_why (Ok tt) t why e = cc
told_why (Err r) t why e = ap Err (cc)

-- ---- task by task

-- the answer to the records from i on
pub tasks_left : List Record → ℕ → Result Unit Refusal
tasks_left records i = decided (task_checks i (map task_in (drop i records)))

module _ (records : List Record) where
  pub tasks_all : tasks_left records 0 ≡ decided (task_checks 0 (map task_in records))
  unfolding tasks_left
  tasks_all = refl

  module _ (i : ℕ) (d : Record) (h : i < length records) where
    task_turn : tasks_left records i ≡ decided (task_checks i (task_in (get_or records i d) ∷ []) ++ task_checks (i + 1) (map task_in (drop (i + 1) records)))
    unfolding tasks_left
    task_turn = rw (drop-cons records i d h, add-one i) (ap decided (task_first i (task_in (get_or records i d)) (map task_in (drop (suc i) records))))

    module _ (a : Result Shape Refusal) (e : a ≡ task_answer i (task_in (get_or records i d))) where
      pub tasks_pass : (shape : Shape) → a ≡ Ok shape
          → (tasks_left records (i + 1) ≡ tasks_left records i) × (shape ≡ shape_of (task_in (get_or records i d)))
      unfolding tasks_left task_answer
      tasks_pass shape p =
          let told = told_shape _ (task_in (get_or records i d)) shape (sym e ∙ p) in
          (sym (task_turn ∙ admitted_first _ _ told.0), told.1)

      pub tasks_refuse : (why : Refusal) → a ≡ Err why → tasks_left records i ≡ Err why
      unfolding task_answer
      tasks_refuse why p = task_turn ∙ refused_first _ _ why (told_why _ (task_in (get_or records i d)) why (sym e ∙ p))

  pub tasks_end : (i : ℕ) → length records ≤ i → tasks_left records i ≡ Ok tt
  unfolding tasks_left task_checks
  tasks_end i h = rw (drop_of_length-le records {i = i} h) no_check

-- 7, by the first record that is miscounted
pub count_answer : Option ℕ → Result Unit Refusal
count_answer None = Ok tt
count_answer (Some i) = Err (FrameCount i)

counts_by : (i : ℕ) (records : List Record) → count_answer (position_from (λ r. miscounted r.frame_count most_frames) i records) ≡ decided (frame_count_checks i records)
unfolding count_answer frame_count_checks frame_count_check
counts_by i [] = sym no_check
counts_by i (r ∷ rs) = go (miscounted r.frame_count most_frames) _ (rw (add-one i) (counts_by (suc i) rs))
  where
    go : (b : Bool) (o : Option ℕ) → count_answer o ≡ decided (frame_count_checks (suc i) rs)
        → count_answer (cond b (Some i) o) ≡ decided ((b ⇒ FrameCount i) ∷ frame_count_checks (suc i) rs)
    go true o later = sym (applies true (FrameCount i) _ refl)
    go false o later = later ∙ sym (passed_over false (FrameCount i) _ refl)

module _ (s : TaskSet) (o : Option ℕ) (found : o ≡ position_from (λ r. miscounted r.frame_count most_frames) 0 (records_of s)) where
  pub counts_refuse : (i : ℕ) → o ≡ Some i → Err (FrameCount i) ≡ decided (frame_count_checks 0 (records_of s))
  unfolding count_answer
  counts_refuse i e = ap count_answer (sym e ∙ found) ∙ counts_by 0 (records_of s)

  pub counts_pass : o ≡ None → Ok tt ≡ decided (frame_count_checks 0 (records_of s))
  unfolding count_answer
  counts_pass e = ap count_answer (sym e ∙ found) ∙ counts_by 0 (records_of s)

-- ---- what was judged

module _ (a : Result Unit Refusal) (s : TaskSet) where
  -- what stands for an admitted set
  abbrev pub shaped : Judged
  shaped = record { set = s; shapes = shapes_of (map task_in (records_of s)) }

  pub judged_refused : (why : Refusal) → a ≡ Err why → Err why ≡ judged a s
  unfolding judged
  judged_refused why e = rw e

  pub judged_admitted : (shapes : List Shape) → a ≡ Ok tt → shapes ≡ shapes_of (map task_in (records_of s))
      → ◌≡◌ {A = Result Judged Refusal} (Ok (record { set = s; shapes = shapes })) (judged a s)
  unfolding judged
  judged_admitted shapes e es = rw (e, es)

-- and back: the answer to a set, from what was judged
pub judged_admits : (a : Result Unit Refusal) (s : TaskSet) (j : Judged) → judged a s ≡ Ok j → (a ≡ Ok tt) × (j ≡ shaped a s)
unfolding judged
judged_admits (Ok tt) s j e = (refl, cc)
judged_admits (Err why) s j e = cc

pub judged_refuses : (a : Result Unit Refusal) (s : TaskSet) (why : Refusal) → judged a s ≡ Err why → a ≡ Err why
unfolding judged
judged_refuses (Ok tt) s why e = cc
judged_refuses (Err r) s why e = cc

-- ---- a list

module _ (s : TaskSet) where
  pub policy_refused : known_policy s.policy ≡ false → admission s ≡ Err Policy
  unfolding admission list_checks policy_check
  policy_refused e = applies _ _ _ (ap not e)

  module _ (known : known_policy s.policy ≡ true) where
    to_the_second : admission s
        ≡ decided (task_count_check s.task_count ∷ frame_count_checks 0 (records_of s) ++ task_checks 0 (map task_in (records_of s)))
    unfolding admission list_checks policy_check
    to_the_second = passed_over _ _ _ (ap not known)

    pub tasks_miscounted : miscounted s.task_count most_tasks ≡ true → admission s ≡ Err TaskCount
    unfolding task_count_check
    tasks_miscounted m = to_the_second ∙ applies _ _ _ m

    module _ (counted : miscounted s.task_count most_tasks ≡ false) where
      by_task : admission s ≡ decided (frame_count_checks 0 (records_of s) ++ task_checks 0 (map task_in (records_of s)))
      unfolding task_count_check
      by_task = to_the_second ∙ passed_over _ _ _ counted

      module _ (a : Result Unit Refusal) (e : a ≡ decided (frame_count_checks 0 (records_of s))) where
        pub count_refused : (r : Refusal) → a ≡ Err r → admission s ≡ Err r
        count_refused r p = by_task ∙ refused_first _ _ r (sym e ∙ p)

        pub counts_admitted : a ≡ Ok tt → admission s ≡ decided (task_checks 0 (map task_in (records_of s)))
        counts_admitted p = by_task ∙ admitted_first _ _ (sym e ∙ p)
