-- Some small sets and their runs, by computation: worst runs played, each run rule kept and broken. The scope's own sets are the table of crates/cases.
use Rattle.std.specs.Prelude.{None, Option, Some}
use mathlib.Core.Bool.{true, false, ◌&&◌}
use mathlib.Core.List.Memᴰ
use mathlib.Core.List.{List, [], ◌∷◌, map}
use mathlib.Core.Path.{◌≡◌, refl}
use Prim.Native.Nat.{ℕ, zero, suc, ◌≤◌, ◌<◌}
use native.Mathlib.Omega.{arith}
use lib.Dec.{eqb, lit<, lit≤}
use Rattle.theory.specs.First.{first, every, found}
use Rattle.theory.specs.Tasks.{Task, task_at, frame_count, next_frame, frame, deadline_of, work, largest, largest_frame, qualifies, start_frame, Admitted}
use Rattle.theory.specs.Reason.{exceeds, exceeding, exceeded, exceeded_length, exceeding_frame}
use Rattle.theory.specs.Analysis.{lower, largest_lock, blocking, blocker, higher, releases, higher_work, demand, response, after_rounds, demand_of, response_of, rounds_of, passes, holds, missed, verdict}
use Rattle.theory.specs.Runs.{job, Run, release_lane, release, oldest_left, pending, pick, serve, serve_lane, stretch_now, stretch_after, tick, start_state, step, state_at, seen_at, longest_stretch, Legal, TakesLonger, Takes, Misses}
use Rattle.theory.specs.WorstRun.{below_own, role, worst_first, once, every_period, worst_release, worst_stretch, worst_run}
use Rattle.theory.proofs.Tests.{well_formed_test, admitted_task_test, admitted_test, admitted_is, release_test, legal_tick_test, legal_test, legal_is, refused}
use Rattle.theory.proofs.Theorems.{holds_no_miss, passing_no_longer, any_times_suffice}

-- what an example opens in order to compute
analysis : Unit {0}
unfolding first every found task_at frame_count next_frame frame deadline_of work largest largest_frame qualifies start_frame lower largest_lock blocking blocker higher releases higher_work demand response after_rounds demand_of response_of rounds_of passes verdict well_formed_test admitted_task_test admitted_test
analysis = tt

runs : Unit {0}
unfolding analysis release_lane release oldest_left pending pick serve serve_lane stretch_now stretch_after tick start_state step state_at seen_at longest_stretch TakesLonger Takes Misses below_own role worst_first once every_period worst_release worst_stretch worst_run release_test legal_tick_test legal_test
runs = tt

-- ---- small sets

-- one deadline for all frames
abbrev with_deadline : (T D Q : ℕ) → List ℕ → Task
with_deadline T D Q frames = record { period = T; lock = Q; frames = frames; deadlines = map (λ c. D) frames }

-- D = T and Q = 0
abbrev plain : List ℕ → ℕ → Task
plain frames T = with_deadline T T 0 frames

-- f a, f (a + 1), .., n of them
abbrev row : {X : Type 0} → (ℕ → X) → ℕ → ℕ → List X
row f a zero = []
row f a (suc n) = f a ∷ row f (suc a) n

-- a task with a short deadline above one that locks for Q ticks
abbrev locking : ℕ → List Task
locking Q = with_deadline 6 4 0 (2 ∷ []) ∷ with_deadline 9 9 Q (4 ∷ []) ∷ []

-- with a lock of 3 it holds, by blocking of 2
abbrev short_lock : List Task
short_lock = locking 3

short_lock_is : (verdict short_lock ≡ holds) × (row (λ p. response_of short_lock p 0) 0 2 ≡ Some 4 ∷ Some 6 ∷ []) × (blocker short_lock 0 ≡ Some 1)
unfolding analysis
short_lock_is = (refl, refl, refl)

short_lock_admitted : Admitted short_lock
unfolding analysis
short_lock_admitted = (admitted_is short_lock).0 refl

-- with a lock of 4 it misses
abbrev long_lock : List Task
long_lock = locking 4

long_lock_is : (verdict long_lock ≡ missed 0 (Some 1)) × (row (λ p. response_of long_lock p 0) 0 2 ≡ None ∷ Some 6 ∷ [])
unfolding analysis
long_lock_is = (refl, refl)

-- a higher task whose start frame, 2, is not its first largest frame, 0
abbrev later_start : List Task
later_start = plain (2 ∷ 1 ∷ 2 ∷ []) 3 ∷ plain (2 ∷ []) 9 ∷ []

later_start_is : (start_frame (task_at later_start 0) ≡ 2) × (largest_frame (task_at later_start 0) ≡ 0) × (response_of later_start 1 0 ≡ Some 6)
unfolding analysis
later_start_is = (refl, refl, refl)

-- two frames from that largest frame make 3 and from frame 2 make 4, and yet there is a start
later_start_exceeded : (exceeded (task_at later_start 0) 0 ≡ Some 2) × (exceeding (task_at later_start 0) 0 2 ≡ Some 2)
unfolding analysis exceeds exceeding exceeded
later_start_exceeded = (refl, refl)

-- a task with no start: two frames from the largest, frame 1, make 6, and two make more from each of the frames 0, 3 and 4, going round
abbrev no_start : Task
no_start = plain (3 ∷ 5 ∷ 1 ∷ 4 ∷ 4 ∷ []) 9

no_start_is : (row (qualifies no_start) 0 5 ≡ false ∷ false ∷ false ∷ false ∷ false ∷ [])
    × (row (λ k. work no_start k 2) 0 5 ≡ 8 ∷ 6 ∷ 5 ∷ 8 ∷ 7 ∷ [])
    × (largest_frame no_start ≡ 1)
    × (exceeded_length no_start ≡ 2)
    × (exceeding_frame no_start ≡ 0)
unfolding analysis exceeds exceeding exceeded exceeded_length exceeding_frame
no_start_is = (refl, refl, refl, refl, refl)

-- one with a longer reason: three frames from frame 0 make 18, and from frame 3 make 24
abbrev no_start_later : Task
no_start_later = plain (9 ∷ 8 ∷ 1 ∷ 8 ∷ 8 ∷ 8 ∷ []) 9

no_start_later_is : (largest_frame no_start_later ≡ 0)
    × (exceeded_length no_start_later ≡ 3)
    × (exceeding_frame no_start_later ≡ 3)
    × (row (λ n. work no_start_later 0 n) 1 3 ≡ 9 ∷ 17 ∷ 18 ∷ [])
    × (row (λ n. work no_start_later 3 n) 1 3 ≡ 8 ∷ 16 ∷ 24 ∷ [])
unfolding analysis exceeds exceeding exceeded exceeded_length exceeding_frame
no_start_later_is = (refl, refl, refl, refl, refl)

-- the rounds of its task 1: 2, 4, 6 and 6 again
later_start_rounds : row (rounds_of later_start 1 0) 0 4 ≡ 2 ∷ 4 ∷ 6 ∷ 6 ∷ []
unfolding analysis
later_start_rounds = refl

-- the theorems at these sets: no run has a miss
short_lock_never_misses : (run : Run) → Legal short_lock run → (p r k : ℕ) → p < 2 → ¬ Misses short_lock run p r k
short_lock_never_misses = holds_no_miss short_lock short_lock_admitted short_lock_is.0

-- no job of the lower task takes longer than 6 in any run, though the set misses
lower_in_time : (run : Run) → Legal long_lock run → (r : ℕ) → ¬ TakesLonger long_lock run 1 r 0 6
unfolding analysis
lower_in_time run legal r = passing_no_longer long_lock ((admitted_is long_lock).0 refl) 1 (lit< tt) refl run legal r 0 6 refl

-- nor than 8, a time that is enough and not the least
lower_by_8 : (run : Run) → Legal short_lock run → (r k : ℕ) → ¬ TakesLonger short_lock run 1 r k 8
unfolding analysis
lower_by_8 = any_times_suffice short_lock short_lock_admitted 1 (lit< tt) (λ k. 8) times_fit
  where
    times_fit : (k : ℕ) → k < frame_count (task_at short_lock 1) → (1 ≤ 8) × (8 ≤ 9) × (demand_of short_lock 1 k 8 ≤ 8)
    times_fit zero h = (lit≤ tt, lit≤ tt, lit≤ tt)
    times_fit (suc k) h = let l : suc (suc k) ≤ 1 = h in let z : ⊥ = omega arith in absurd z

-- ---- worst runs

-- the worst run of the upper task is legal, and its job takes exactly 4
short_lock_legal : Legal short_lock (worst_run short_lock 0 0)
unfolding runs
short_lock_legal = (legal_is short_lock (worst_run short_lock 0 0)).0 refl

upper_takes_4 : Takes short_lock (worst_run short_lock 0 0) 0 1 0 4
unfolding runs
upper_takes_4 = (record { released = lit< tt; reached = lit≤ tt; stands = Memᴰ.head refl }, longer)
  where
    longer : (x : ℕ) → x < 4 → TakesLonger short_lock (worst_run short_lock 0 0) 0 1 0 x
    longer zero h = (2, lit≤ tt, record { released = lit< tt; reached = lit≤ tt; stands = Memᴰ.head refl })
    longer (suc zero) h = (2, lit≤ tt, record { released = lit< tt; reached = lit≤ tt; stands = Memᴰ.head refl })
    longer (suc (suc zero)) h = (2, lit≤ tt, record { released = lit< tt; reached = lit≤ tt; stands = Memᴰ.head refl })
    longer (suc (suc (suc zero))) h = (1, lit≤ tt, record { released = lit< tt; reached = lit≤ tt; stands = Memᴰ.head refl })
    longer (suc (suc (suc (suc x)))) h = let z : ⊥ = omega arith in absurd z

-- with the longer lock it is legal too, and the job misses
long_lock_legal : Legal long_lock (worst_run long_lock 0 0)
unfolding runs
long_lock_legal = (legal_is long_lock (worst_run long_lock 0 0)).0 refl

upper_misses : Misses long_lock (worst_run long_lock 0 0) 0 1 0
unfolding runs
upper_misses = (1, lit≤ tt, record { released = lit< tt; reached = lit≤ tt; stands = Memᴰ.head refl })

-- where the higher task comes from its start frame, the lower job is complete after 6 ticks and not after 5
later_start_plays : (((state_at later_start (worst_run later_start 1 0) 6).lanes 1).jobs ≡ job 1 0 1 ∷ []) × (((state_at later_start (worst_run later_start 1 0) 7).lanes 1).jobs ≡ job 1 0 0 ∷ [])
unfolding runs
later_start_plays = (refl, refl)

-- ---- runs by a script

-- a release at a tick, or a stretch that starts with a tick
data Entry : Type 0 where
  gives : (tick place work : ℕ) → Entry
  locks : (tick length : ℕ) → Entry

script_release : List Entry → ℕ → ℕ → Option ℕ
script_release [] now p = None
script_release (gives t q w ∷ es) now p = elim (eqb t now && eqb q p) [ true ↦ Some w | false ↦ script_release es now p ]
script_release (locks t n ∷ es) now p = script_release es now p

script_stretch : List Entry → ℕ → ℕ
script_stretch [] now = 0
script_stretch (gives t q w ∷ es) now = script_stretch es now
script_stretch (locks t n ∷ es) now = elim (eqb t now) [ true ↦ n | false ↦ script_stretch es now ]

-- a run of that many ticks, all first frames 0
script : ℕ → List Entry → Run
script n es = record { first_frame = λ p. 0; input = λ now. record { release_of = script_release es now; stretch = script_stretch es now }; ticks = n }

scripts : Unit {0}
unfolding runs script_release script_stretch script
scripts = tt

-- a stretch: the lower task keeps the ticks 0, 1 and 2, though the upper one is pending from tick 1 on
locked : Run
locked = script 5 (gives 0 1 4 ∷ locks 0 3 ∷ gives 1 0 2 ∷ [])

locked_legal : Legal short_lock locked
unfolding scripts locked
locked_legal = (legal_is short_lock locked).0 refl

locked_picks : row (λ t. pick short_lock (seen_at short_lock locked t)) 0 5 ≡ Some 1 ∷ Some 1 ∷ Some 1 ∷ Some 0 ∷ Some 0 ∷ []
unfolding scripts locked
locked_picks = refl

-- it ends early when the job completes
short_locked : Run
short_locked = script 5 (gives 0 1 2 ∷ locks 0 3 ∷ gives 1 0 2 ∷ [])

short_locked_legal : Legal short_lock short_locked
unfolding scripts short_locked
short_locked_legal = (legal_is short_lock short_locked).0 refl

short_locked_picks : row (λ t. pick short_lock (seen_at short_lock short_locked t)) 0 5 ≡ Some 1 ∷ Some 1 ∷ Some 0 ∷ Some 0 ∷ None ∷ []
unfolding scripts short_locked
short_locked_picks = refl

-- two jobs of one task pending at once: the older has the tick
abbrev queued_set : List Task
queued_set = plain (3 ∷ []) 4 ∷ plain (1 ∷ []) 2 ∷ []

queued_set_admitted : Admitted queued_set
unfolding analysis
queued_set_admitted = (admitted_is queued_set).0 refl

queued : Run
queued = script 4 (gives 0 0 3 ∷ gives 0 1 1 ∷ gives 2 1 1 ∷ [])

queued_legal : Legal queued_set queued
unfolding scripts queued
queued_legal = (legal_is queued_set queued).0 refl

queued_plays : (((state_at queued_set queued 3).lanes 1).jobs ≡ job 0 0 1 ∷ job 2 0 1 ∷ []) × (((state_at queued_set queued 4).lanes 1).jobs ≡ job 0 0 0 ∷ job 2 0 1 ∷ [])
unfolding scripts queued
queued_plays = (refl, refl)

-- a job of 0 work is complete at its release
empty_job : Run
empty_job = script 2 (gives 0 0 0 ∷ [])

empty_job_legal : Legal short_lock empty_job
unfolding scripts empty_job
empty_job_legal = (legal_is short_lock empty_job).0 refl

empty_job_takes_0 : Takes short_lock empty_job 0 0 0 0
unfolding scripts empty_job
empty_job_takes_0 = (record { released = lit< tt; reached = lit≤ tt; stands = Memᴰ.head refl }, λ x h. let z : ⊥ = omega arith in absurd z)

-- ---- runs that break a rule are not legal

-- a release before the period is over
early : ¬ Legal short_lock (script 20 (gives 0 0 2 ∷ gives 5 0 2 ∷ []))
unfolding scripts
early = refused refl (legal_is short_lock (script 20 (gives 0 0 2 ∷ gives 5 0 2 ∷ [])))

-- the same at the period is legal
in_time : Legal short_lock (script 20 (gives 0 0 2 ∷ gives 6 0 2 ∷ []))
unfolding scripts
in_time = (legal_is short_lock (script 20 (gives 0 0 2 ∷ gives 6 0 2 ∷ []))).0 refl

-- more work than the frame has
too_much : ¬ Legal short_lock (script 20 (gives 0 0 3 ∷ []))
unfolding scripts
too_much = refused refl (legal_is short_lock (script 20 (gives 0 0 3 ∷ [])))

-- a stretch longer than Q
too_long : ¬ Legal short_lock (script 20 (gives 0 1 4 ∷ locks 0 4 ∷ []))
unfolding scripts
too_long = refused refl (legal_is short_lock (script 20 (gives 0 1 4 ∷ locks 0 4 ∷ [])))

-- a stretch that starts while one is under way
twice_locked : ¬ Legal short_lock (script 20 (gives 0 1 4 ∷ locks 0 3 ∷ locks 1 1 ∷ []))
unfolding scripts
twice_locked = refused refl (legal_is short_lock (script 20 (gives 0 1 4 ∷ locks 0 3 ∷ locks 1 1 ∷ [])))

-- a stretch with an idle tick
idle_locked : ¬ Legal short_lock (script 20 (locks 0 1 ∷ []))
unfolding scripts
idle_locked = refused refl (legal_is short_lock (script 20 (locks 0 1 ∷ [])))

-- a first frame that is none
no_frame : ¬ Legal short_lock (record { first_frame = λ p. 1; input = (script 20 []).input; ticks = 20 })
unfolding scripts
no_frame = refused refl (legal_is short_lock (record { first_frame = λ p. 1; input = (script 20 []).input; ticks = 20 }))
