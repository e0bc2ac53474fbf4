-- What is true of every refusal that tasks can get is true of the one that they get: along the rows of checks, once.
use Rattle.std.proofs.Common.{◌≡◌, ℕ, zero, suc, ◌+◌, ◌<◌, ◌≤◌, Bool, true, false, not, ◌⊎◌, ◌↔◌, List, [], ◌∷◌, map, length, drop, sym, ap, ◌∙◌, inl, inr, add-zero, zero-add, arith}
use borrow.Author.Tests.{not-true}
use lib.ListN.{length-map}
use Rattle.bits.specs.Packed.{bits_of}
use Rattle.check_word.specs.Division.{body}
use Rattle.theory.specs.Tasks.{Task, task_at, Monotonic}
use Rattle.theory.proofs.Laws.{monotonic_test}
use Rattle.theory.proofs.Search.{bool_cases}
use Rattle.theory.proofs.Tests.{refused}
use Rattle.lent.proofs.Checks.{Each, each_append}
use Rattle.sheet.specs.Constants.{version_1, version_2}
use Rattle.sheet.specs.Fields.{own_deadlines}
use Rattle.sheet.specs.Tasks.{task_in}
use Rattle.sheet.specs.Layout.{header_in, behind_header, record_width, tasks_in}
use Rattle.sheet.specs.Admission.{monotonic, reason_of, policy_check, task_count_check, frame_count_check, frame_count_checks, task_checks, list_checks}
use Rattle.sheet.specs.Reading.{layout_checks, checks_among, sheet_checks, version_of, tasks_of}
use Rattle.sheet.specs.Writing.{version_check, deadlines_check, writing_checks}
use Rattle.sheet.specs.declared.Task.{Task as Record}
use Rattle.sheet.specs.declared.Refusal.{Refusal}
use Rattle.sheet.specs.declared.Refusal.TheVariants.{Length, CheckWord, Version, Policy, BitSet, TaskCount, FrameCount, Records, IllFormed, Lock, NotMonotonic, Deadlines}
use Rattle.sheet.proofs.Checks.{admits}
use Rattle.sheet.proofs.InFields.{task_more, each_map, FewFrames}
use Rattle.sheet.proofs.InFields.{Each as EachTask}
use Rattle.sheet.proofs.RecordBits.{layout_read, length_tasks_in}
use Rattle.sheet.proofs.Carried.{few_by_checks}

-- P is true of every refusal that these tasks can get: 11 comes behind 7, so that its task has at most eight frames, and has no start
pub record Covers (P : Refusal → Type 0) (tasks : List Task) : Type 0 where
  pub of_length : P Length
  pub of_check_word : P CheckWord
  pub of_version : P Version
  pub of_policy : P Policy
  pub of_bit_set : P BitSet
  pub of_task_count : P TaskCount
  pub of_records : P Records
  pub of_frame_count : (i : ℕ) → i < length tasks → P (FrameCount i)
  pub of_form : (i : ℕ) → i < length tasks → P (IllFormed i)
  pub of_lock : (i : ℕ) → i < length tasks → P (Lock i)
  pub of_monotony : (i : ℕ) → i < length tasks → FewFrames (task_at tasks i) → ¬ Monotonic (task_at tasks i) → P (NotMonotonic i (reason_of (task_at tasks i)))

-- what 11 tests
pub not_monotonic : (t : Task) → (not (monotonic t) ≡ true) ↔ (¬ Monotonic t)
unfolding monotonic
not_monotonic t = (λ e. refused (not-true _ e) (monotonic_test t), λ none_starts. go none_starts (bool_cases (monotonic t)))
  where
    go : ¬ Monotonic t → (monotonic t ≡ true) ⊎ (monotonic t ≡ false) → not (monotonic t) ≡ true
    go none_starts (inl e) = absurd (none_starts ((monotonic_test t).0 e))
    go none_starts (inr e) = ap not e

module _ {P : Refusal → Type 0} {tasks : List Task} (c : Covers P tasks) where
  frames_each : (i : ℕ) (rs : List Record) → i + length rs ≤ length tasks → Each P (frame_count_checks i rs)
  unfolding frame_count_checks frame_count_check
  frames_each i [] h = tt
  frames_each i (r ∷ rs) h = (λ _. c.of_frame_count i (omega arith), λ _. frames_each (suc i) rs (omega arith))

  layout_each : (own : Bool) (i n : ℕ) (bits : List Bool) → i + n ≤ length tasks → Each P (layout_checks own i n bits)
  unfolding layout_checks frame_count_check
  layout_each own i zero bits h = (λ _. c.of_records, λ _. (λ _. c.of_bit_set, λ _. tt))
  layout_each own i (suc n) bits h = (
    λ _. c.of_records,
    λ _. (
      λ _. c.of_frame_count i (omega arith),
      λ _. (λ _. c.of_records, λ _. layout_each own (suc i) n (drop (record_width own bits) bits) (omega arith)),
    ),
  )

  -- the tasks from task i on
  rest_each : (i : ℕ) (ts : List Task) → ((p : ℕ) → p < length ts → task_at tasks (i + p) ≡ task_at ts p) → i + length ts ≤ length tasks → EachTask FewFrames ts
      → Each P (task_checks i ts)
  unfolding task_checks task_at
  rest_each i [] there h few = tt
  rest_each i (t ∷ ts) there h (task_more f fs) =
      let here : task_at tasks i ≡ t = ap (task_at tasks) (sym (add-zero i)) ∙ there 0 (omega arith) in (
        λ _. c.of_form i (omega arith),
        λ _. (
          λ _. c.of_lock i (omega arith),
          λ _. (
            λ e. rw here at (c.of_monotony i (omega arith) (rw here f) (rw here ((not_monotonic t).0 e))),
            λ _. rest_each (suc i) ts (λ p l. ap (task_at tasks) (next p) ∙ there (suc p) (omega arith)) (omega arith) fs,
          ),
        ),
      )
    where
      next : (p : ℕ) → suc i + p ≡ i + suc p
      next p = omega arith

  tasks_each : EachTask FewFrames tasks → Each P (task_checks 0 tasks)
  tasks_each few = rest_each 0 tasks (λ p _. ap (task_at tasks) (zero-add p)) (omega arith) few

-- the order for a list
pub list_each : {P : Refusal → Type 0} (policy n : ℕ) (rs : List Record) → Covers P (map task_in rs) → Each P (list_checks policy n rs)
unfolding list_checks policy_check task_count_check
list_each {P} policy n rs c =
    let counts = frame_count_checks 0 rs in (
      λ _. c.of_policy,
      λ _. (
        λ _. c.of_task_count,
        λ _.
            each_append P counts (task_checks 0 (map task_in rs)) (frames_each c 0 rs (omega (arith, length-map rs task_in)))
            (λ e. tasks_each c (few_by_checks 0 rs (admits counts e))),
      ),
    )

-- the order for a sheet
pub each_among : {P : Refusal → Type 0} (least most : ℕ) (s : List ℕ) → Covers P (tasks_of s) → Each P (checks_among least most s)
unfolding checks_among policy_check task_count_check version_of tasks_of
each_among {P} least most s c =
    let bits = behind_header (bits_of (body s)) in
    let n = (header_in (bits_of (body s))).task_count in
    let own = own_deadlines (version_of s) in
    let laid = layout_checks own 0 n bits in (
      λ _. c.of_length,
      λ _. (
        λ _. c.of_check_word,
        λ _. (
          λ _. c.of_version,
          λ _. (
            λ _. c.of_policy,
            λ _. (
              λ _. c.of_bit_set,
              λ _. (
                λ _. c.of_task_count,
                λ _.
                    each_append P laid (task_checks 0 (tasks_in own n bits)) (layout_each c own 0 n bits (omega (arith, length_tasks_in own n bits)))
                    (λ e. tasks_each c (each_map (λ t h. h.1) (layout_read own 0 n bits (admits laid e)).counted)),
              ),
            ),
          ),
        ),
      ),
    )

pub sheet_each : {P : Refusal → Type 0} (s : List ℕ) → Covers P (tasks_of s) → Each P (sheet_checks s)
unfolding sheet_checks
sheet_each s c = each_among version_1 version_2 s c

-- the order for a list that is written: 17 behind it
pub writing_each : {P : Refusal → Type 0} (version policy n : ℕ) (rs : List Record) → P Deadlines → Covers P (map task_in rs) → Each P (writing_checks version policy n rs)
unfolding writing_checks version_check deadlines_check
writing_each {P} version policy n rs p c =
    (λ _. c.of_version, λ _. each_append P (list_checks policy n rs) _ (list_each policy n rs c) (λ _. (λ _. p, λ _. tt)))
