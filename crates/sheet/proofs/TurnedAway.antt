-- Lists that are turned away whichever task it is: of no task, with a deadline above the period or below its frame, with a lock one above the largest frame, with frames
-- that have no start.
use Rattle.std.specs.Prelude.{Err, Ok}
use Rattle.std.proofs.Common.{◌≡◌, ℕ, suc, ◌+◌, ◌<◌, ◌≤◌, Bool, true, false, not, ◌&&◌, ◌⊎◌, List, [], ◌∷◌, ◌++◌, length, sym, refl, ap, ◌∙◌, inl, inr, add-zero, zero-add, not-le_of_lt, arith, length-append, le-leb}
use mathlib.Core.Bool.{and-eq-true_iff, and-false}
use borrow.Author.Tests.{lt-leb}
use Rattle.theory.specs.Tasks.{Task, frame_count, frame, deadline_of, largest, Monotonic}
use Rattle.theory.proofs.Search.{bool_cases}
use Rattle.sheet.specs.Constants.{most_tasks, greatest_time}
use Rattle.sheet.specs.Tasks.{set_with}
use Rattle.lent.specs.Checks.{Check, ◌⇒◌}
use Rattle.sheet.specs.Admission.{decided, in_range, well_formed, lock_fits, monotonic, reason_of, known_policy, policy_check, task_count_check, list_checks, task_checks, admission}
use Rattle.sheet.specs.declared.Refusal.{Refusal}
use Rattle.sheet.specs.declared.Refusal.TheVariants.{TaskCount, IllFormed, Lock, NotMonotonic}
use Rattle.sheet.proofs.Checks.{applies, admitted_first, passed_over}
use Rattle.sheet.proofs.Counts.{policy_passes}
use Rattle.sheet.proofs.InFields.{Each, FramesCounted, Ranged, range_of, frame_below, deadline_below}
use Rattle.sheet.proofs.Records.{AsMany}
use Rattle.sheet.proofs.Carried.{answer_of_tasks}
use Rattle.sheet.proofs.Refused.{not_monotonic}

-- The list of no task gives 6.
pub no_task_is_6 : (policy : ℕ) → known_policy policy ≡ true → admission (set_with policy []) ≡ Err TaskCount
unfolding admission list_checks policy_check task_count_check set_with
no_task_is_6 policy known = passed_over _ _ _ (policy_passes policy known) ∙ applies _ TaskCount _ refl

-- the checks of tasks behind others
checks_behind : (i : ℕ) (us ts : List Task) → task_checks i (us ++ ts) ≡ task_checks i us ++ task_checks (i + length us) ts
unfolding task_checks
checks_behind i [] ts = ap (λ (n : ℕ). task_checks n ts) (sym (add-zero i))
checks_behind i (u ∷ us) ts =
    ap (λ (cs : List (Check Refusal)). first_checks ++ cs) (checks_behind (suc i) us ts ∙ ap (λ (n : ℕ). task_checks (suc i) us ++ task_checks n ts) (omega arith))
  where
    first_checks : List (Check Refusal)
    first_checks = (not (in_range u && well_formed u) ⇒ IllFormed i) ∷ (not (lock_fits u) ⇒ Lock i) ∷ (not (monotonic u) ⇒ NotMonotonic i (reason_of u)) ∷ []

-- a list in which task number `length us` is t: policy and counts are in order, and the tasks before t pass
pub record Reaches (policy : ℕ) (us : List Task) (t : Task) (vs : List Task) : Type 0 where
  pub policy_known : known_policy policy ≡ true
  pub few_tasks : length (us ++ t ∷ vs) ≤ most_tasks
  pub counted : Each FramesCounted (us ++ t ∷ vs)
  pub as_many : Each AsMany (us ++ t ∷ vs)
  pub before : decided (task_checks 0 us) ≡ Ok tt

reached : (policy : ℕ) (us : List Task) (t : Task) (vs : List Task) → Reaches policy us t vs
    → admission (set_with policy (us ++ t ∷ vs)) ≡ decided (task_checks (length us) (t ∷ vs))
reached policy us t vs r =
    answer_of_tasks policy (us ++ t ∷ vs) r.as_many r.policy_known (rw (length-append us (t ∷ vs)) (omega arith)) r.few_tasks r.counted
    ∙ ap decided (checks_behind 0 us (t ∷ vs))
    ∙ admitted_first (task_checks 0 us) (task_checks (0 + length us) (t ∷ vs)) r.before
    ∙ ap (λ (n : ℕ). decided (task_checks n (t ∷ vs))) (zero-add (length us))

-- a task that is not well formed gives 9
ill_formed : (policy : ℕ) (us : List Task) (t : Task) (vs : List Task) → Reaches policy us t vs → well_formed t ≡ false
    → admission (set_with policy (us ++ t ∷ vs)) ≡ Err (IllFormed (length us))
unfolding task_checks
ill_formed policy us t vs r e =
    reached policy us t vs r
    ∙ applies (not (in_range t && well_formed t)) (IllFormed (length us)) _
    (ap not (ap (λ (b : Bool). in_range t && b) e ∙ and-false (in_range t)))

not_formed : (t : Task) → (well_formed t ≡ true → ⊥) → well_formed t ≡ false
not_formed t no_one = go (bool_cases (well_formed t))
  where
    go : (well_formed t ≡ true) ⊎ (well_formed t ≡ false) → well_formed t ≡ false
    go (inl e) = absurd (no_one e)
    go (inr e) = e

-- A task of which a frame has a deadline above its period gives 9.
pub late_deadline_is_9 : (policy : ℕ) (us : List Task) (t : Task) (vs : List Task) → Reaches policy us t vs
    → (k : ℕ) → k < frame_count t → t.period < deadline_of t k
    → admission (set_with policy (us ++ t ∷ vs)) ≡ Err (IllFormed (length us))
late_deadline_is_9 policy us t vs r k k_in late =
    ill_formed policy us t vs r (not_formed t (λ e. not-le_of_lt late (deadline_below t e k k_in)))

-- A task of which a frame has a deadline below its time gives 9.
pub short_deadline_is_9 : (policy : ℕ) (us : List Task) (t : Task) (vs : List Task) → Reaches policy us t vs
    → (k : ℕ) → k < frame_count t → deadline_of t k < frame t k
    → admission (set_with policy (us ++ t ∷ vs)) ≡ Err (IllFormed (length us))
short_deadline_is_9 policy us t vs r k k_in short =
    ill_formed policy us t vs r (not_formed t (λ e. not-le_of_lt short (frame_below t e k k_in)))

-- the task with another lock
abbrev pub with_lock : Task → ℕ → Task
with_lock t q = record { period = t.period; lock = q; frames = t.frames; deadlines = t.deadlines }

lock_in_range : (t : Task) (q : ℕ) → in_range t ≡ true → q ≤ greatest_time → in_range (with_lock t q) ≡ true
lock_in_range t q e h =
    let r : Ranged t = (range_of t).0 e in
    (range_of (with_lock t q)).1
    (record { period_time = r.period_time; lock_time = le-leb q greatest_time h; frame_times = r.frame_times; deadline_times = r.deadline_times })

-- A task in range and well formed whose lock is one above its largest frame, and still in range, gives 10.
pub lock_above_largest_is_10 : (policy : ℕ) (us : List Task) (t : Task) (vs : List Task) → Reaches policy us (with_lock t (largest t.frames + 1)) vs
    → in_range t ≡ true → well_formed t ≡ true → largest t.frames < greatest_time
    → admission (set_with policy (us ++ with_lock t (largest t.frames + 1) ∷ vs)) ≡ Err (Lock (length us))
unfolding task_checks well_formed lock_fits
lock_above_largest_is_10 policy us t vs r e f h =
    let q = largest t.frames + 1 in
    reached policy us (with_lock t q) vs r
    ∙ passed_over _ _ _ (ap not ((and-eq-true_iff (in_range (with_lock t q)) (well_formed t)).1 (lock_in_range t q e (omega arith), f)))
    ∙ applies (not (lock_fits (with_lock t q))) (Lock (length us)) _ (ap not (lt-leb q (largest t.frames) (omega arith)))

-- A task in range and well formed whose lock fits gives 11 if no frame of it qualifies as start, and says why.
pub no_start_is_11 : (policy : ℕ) (us : List Task) (t : Task) (vs : List Task) → Reaches policy us t vs
    → in_range t ≡ true → well_formed t ≡ true → lock_fits t ≡ true → ¬ Monotonic t
    → admission (set_with policy (us ++ t ∷ vs)) ≡ Err (NotMonotonic (length us) (reason_of t))
unfolding task_checks
no_start_is_11 policy us t vs r e f l none_starts =
    reached policy us t vs r
    ∙ passed_over _ _ _ (ap not ((and-eq-true_iff (in_range t) (well_formed t)).1 (e, f)))
    ∙ passed_over _ _ _ (ap not l)
    ∙ applies (not (monotonic t)) (NotMonotonic (length us) (reason_of t)) _ ((not_monotonic t).1 none_starts)
