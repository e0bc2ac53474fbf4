-- Demand 3, the theorems: what the analysis of a set says of its runs. Each states all that it assumes. A job is named by its task's place p,
-- the tick r of its release and its frame k.
use Rattle.std.specs.Prelude.{None, Option, Some}
use mathlib.Core.Bool.{true, false}
use mathlib.Core.List.{List}
use mathlib.Core.Logic.{◌↔◌}
use mathlib.Core.Path.{◌≡◌}
use Prim.Native.Nat.{ℕ, ◌≤◌, ◌<◌}
use native.Mathlib.Nat.{lt_irrefl, not-le_of_lt}
use lib.ListN.{length}
use Rattle.theory.specs.Tasks.{Task, task_at, frame_count, deadline_of, Admitted}
use Rattle.theory.specs.Analysis.{demand_of, response_of, passes, FirstWithout, holds, missed, verdict}
use Rattle.theory.specs.Runs.{Run, Legal, TakesLonger, Takes, Misses}
use Rattle.theory.specs.WorstRun.{worst_run}
use Rattle.theory.proofs.Verdict.{Way, all_pass, one_fails, way, IsMissed, verdict_holds, verdict_missed, passes_frames, fails_first, response_of_is}
use Rattle.theory.proofs.Soundness.{takes_less, enough_by_demand, periods_above, takes_less_than_response}
use Rattle.theory.proofs.WorstLegal.{worst_legal}
use Rattle.theory.proofs.WorstExact.{worst_exact, worst_misses}

-- ---- A set that holds

-- If the set holds, no job in any run misses its deadline.
pub holds_no_miss : (set : List Task) → Admitted set
    → verdict set ≡ holds
    → (run : Run) → Legal set run
    → (p r k : ℕ) → p < length set → ¬ Misses set run p r k
unfolding Misses
holds_no_miss set admitted h run legal p r k in_set miss =
    let pass : passes set p ≡ true = (verdict_holds set).0 h p in_set in
    let (R, e) = passes_frames set p (admitted.each_task p in_set).well_formed.has_frame pass k in
    not-le_of_lt (takes_less_than_response set admitted p in_set pass run legal r k (deadline_of (task_at set p) k) miss e) ((response_of_is set p k).0 e).within

-- ---- A task that passes

-- For a passing task, no job in any run takes longer than its frame's response time, whatever the other tasks do: also in a set that misses.
pub passing_no_longer : (set : List Task) → Admitted set
    → (p : ℕ) → p < length set → passes set p ≡ true
    → (run : Run) → Legal set run
    → (r k R : ℕ) → response_of set p k ≡ Some R → ¬ TakesLonger set run p r k R
passing_no_longer set admitted p in_set pass run legal r k R e longer = lt_irrefl R (takes_less_than_response set admitted p in_set pass run legal r k R longer e)

-- Each frame of a passing task has a response time.
pub passing_has_times : (set : List Task) → Admitted set
    → (p : ℕ) → p < length set → passes set p ≡ true
    → (k : ℕ) → (R : ℕ) × (response_of set p k ≡ Some R)
passing_has_times set admitted p in_set pass = passes_frames set p (admitted.each_task p in_set).well_formed.has_frame pass

-- ---- The worst run of a frame

-- The worst run of a frame is a legal run of the set, whether or not the task passes.
pub worst_run_legal : (set : List Task) → Admitted set
    → (p k : ℕ) → p < length set → k < frame_count (task_at set p)
    → Legal set (worst_run set p k)
worst_run_legal set admitted p k in_set k_in = worst_legal set admitted p in_set k k_in

-- In the worst run of a frame that has a response time the frame's job, released at tick 1, takes exactly that time.
pub worst_run_exact : (set : List Task) → Admitted set
    → (p k R : ℕ) → p < length set → k < frame_count (task_at set p)
    → response_of set p k ≡ Some R
    → Takes set (worst_run set p k) p 1 k R
worst_run_exact set admitted p k R in_set k_in e = worst_exact set admitted p in_set k k_in e

-- For each frame of a passing task the worst run is a legal run in which a job of that frame takes exactly its response time.
pub passing_reached : (set : List Task) → Admitted set
    → (p : ℕ) → p < length set → passes set p ≡ true
    → (k : ℕ) → k < frame_count (task_at set p)
    → (R : ℕ) × (response_of set p k ≡ Some R) × Legal set (worst_run set p k) × Takes set (worst_run set p k) p 1 k R
passing_reached set admitted p in_set pass k k_in =
    let (R, e) = passing_has_times set admitted p in_set pass k in
    (R, e, worst_run_legal set admitted p k in_set k_in, worst_run_exact set admitted p k R in_set k_in e)

-- ---- A task that does not pass

-- In the worst run of a frame that has no response time the frame's job, released at tick 1, misses its deadline.
pub worst_run_misses : (set : List Task) → Admitted set
    → (p k : ℕ) → p < length set → k < frame_count (task_at set p)
    → response_of set p k ≡ None
    → Misses set (worst_run set p k) p 1 k
worst_run_misses set admitted p k in_set k_in e = worst_misses set admitted p in_set k k_in e

-- A task that does not pass has a first frame without a response time, and the worst run of that frame is a legal run in which that job misses.
pub failing_first_misses : (set : List Task) → Admitted set
    → (p : ℕ) → p < length set → passes set p ≡ false
    → (k : ℕ) × FirstWithout set p k × Legal set (worst_run set p k) × Misses set (worst_run set p k) p 1 k
failing_first_misses set admitted p in_set fails =
    let (k, first) = fails_first set p fails in
    (k, first, worst_run_legal set admitted p k in_set first.frame_in, worst_run_misses set admitted p k in_set first.frame_in first.without)

-- So the task that the verdict names is a task of the set, and the worst run of its first frame without a response time is a legal run in which
-- that job, released at tick 1, misses.
pub named_task_misses : (set : List Task) → Admitted set
    → (p : ℕ) (b : Option ℕ) → verdict set ≡ missed p b
    → (p < length set) × (k : ℕ) × FirstWithout set p k × Legal set (worst_run set p k) × Misses set (worst_run set p k) p 1 k
named_task_misses set admitted p b e =
    let m : IsMissed set p b = (verdict_missed set).0 e in
    let (k, first, legal, misses) = failing_first_misses set admitted p m.in_set m.fails in
    (m.in_set, k, first, legal, misses)

-- ---- The verdict

-- The verdict is holds if and only if no run of the set has a miss.
pub holds_iff_no_miss : (set : List Task) → Admitted set
    → (verdict set ≡ holds) ↔ ((run : Run) → Legal set run → (p r k : ℕ) → p < length set → ¬ Misses set run p r k)
holds_iff_no_miss set admitted = (holds_no_miss set admitted, go (way set))
  where
    go : Way set → ((run : Run) → Legal set run → (p r k : ℕ) → p < length set → ¬ Misses set run p r k) → verdict set ≡ holds
    go (all_pass e pass) no_miss = e
    go (one_fails p e m) no_miss =
        let (in_set, k, first, legal, misses) = named_task_misses set admitted p _ e in
        absurd (no_miss (worst_run set p k) legal p 1 k in_set misses)

-- ---- Times that need not be the least

-- If each frame of a task has a time of at least 1 and at most T that is at least the demand at itself, then no job of the task in any run
-- takes longer than its frame's time. Nothing is asked of the other tasks' times.
pub any_times_suffice : (set : List Task) → Admitted set
    → (p : ℕ) → p < length set
    → (times : ℕ → ℕ)
    → ((k : ℕ) → k < frame_count (task_at set p) → (1 ≤ times k) × (times k ≤ (task_at set p).period) × (demand_of set p k (times k) ≤ times k))
    → (run : Run) → Legal set run
    → (r k : ℕ) → ¬ TakesLonger set run p r k (times k)
any_times_suffice set admitted p in_set times h run legal r k longer =
    lt_irrefl (times k) (takes_less set run legal p in_set (periods_above set admitted p in_set) times (enough_by_demand set admitted p in_set times h) r k (times k) longer)
