-- SCOPE.md, "Runs". Tasks stand in priority order, place 0 is highest; a lane is what a run has of one task.
use Rattle.std.specs.Prelude.{Bool, true, false, ◌≡◌, ℕ, zero, suc, pred, ◌+◌, ◌≤◌, ◌<◌, ltb, eqb, length, None, Option, Some}
use mathlib.Core.List.{List, [], ◌∷◌, ◌++◌, Memᴰ}
use Rattle.theory.specs.First.{first}
use Rattle.theory.specs.Tasks.{Task, task_at, frame_count, frame, next_frame, deadline_of}

-- a job: the tick of its release, its frame, and its work that is left; with none left it is complete, also at its release
pub data Job : Type 0 where
  job : (released frame left : ℕ) → Job

-- a lane: all jobs released so far, oldest first; the frame of the next job; the first tick at which it may be released
pub record Lane : Type 0 where
  pub jobs : List Job
  pub next : ℕ
  pub free_from : ℕ

-- a state: the lanes, and of a locked stretch under way the place of its job's task and the ticks still to come (0: none is)
pub record State : Type 0 where
  pub lanes : ℕ → Lane
  pub owner : ℕ
  pub to_come : ℕ

-- what a run chooses at a tick: for each task no release or the work of the job released; the length of the stretch that starts, 0 for none
pub record Input : Type 0 where
  pub release_of : ℕ → Option ℕ
  pub stretch : ℕ

-- a run: a first frame for each task, a choice for each tick, and how many ticks it lasts
pub record Run : Type 0 where
  pub first_frame : ℕ → ℕ
  pub input : ℕ → Input
  pub ticks : ℕ

-- ---- first the releases

-- a lane after a release, if there is one: the job stands last, the next job takes the next frame, a period later at the earliest
unfoldable pub release_lane : Task → ℕ → Option ℕ → Lane → Lane
release_lane t now None l = l
release_lane t now (Some w) l =
    record { jobs = l.jobs ++ (job now l.next w ∷ []); next = next_frame t l.next; free_from = now + t.period }

-- the releases of all tasks at a tick
unfoldable pub release : List Task → ℕ → Input → State → State
release set now i s =
    record { lanes = λ p. release_lane (task_at set p) now (i.release_of p) (s.lanes p); owner = s.owner; to_come = s.to_come }

-- ---- then the job that has the tick

-- the work left of the oldest job that is not complete; 0 if none is pending
unfoldable pub oldest_left : List Job → ℕ
oldest_left [] = 0
oldest_left (job r k zero ∷ js) = oldest_left js
oldest_left (job r k (suc w) ∷ js) = suc w

-- the task has a pending job
unfoldable pub pending : Lane → Bool
pending l = ltb 0 (oldest_left l.jobs)

-- the place whose job has the tick: the owner of a stretch under way, else the highest place with a pending job; none where the tick is idle
unfoldable pub pick : List Task → State → Option ℕ
pick set s = elim s.to_come [ zero ↦ first 0 (length set) (λ p. pending (s.lanes p)) | suc n ↦ Some s.owner ]

-- ---- then the tick itself

-- one tick of work on the oldest job that is not complete
unfoldable pub serve : List Job → List Job
serve [] = []
serve (job r k zero ∷ js) = job r k zero ∷ serve js
serve (job r k (suc w) ∷ js) = job r k w ∷ js

-- a lane that has not the tick, and the one that has it
unfoldable pub serve_lane : Bool → Lane → Lane
serve_lane false l = l
serve_lane true l = record { jobs = serve l.jobs; next = l.next; free_from = l.free_from }

-- the length of the stretch at this tick: of one under way what is to come, or of the one that starts with this tick
unfoldable pub stretch_now : ℕ → ℕ → ℕ
stretch_now zero new = new
stretch_now (suc n) new = suc n

-- what is to come of it after this tick: nothing more once its job has no work left
unfoldable pub stretch_after : ℕ → ℕ → ℕ
stretch_after zero length = 0
stretch_after (suc left) length = pred length

-- the state after the tick, which went to the place picked
unfoldable pub tick : Option ℕ → ℕ → State → State
tick None new s = s
tick (Some p) new s =
    record {
      lanes = λ q. serve_lane (eqb q p) (s.lanes q);
      owner = p;
      to_come = stretch_after (pred (oldest_left (s.lanes p).jobs)) (stretch_now s.to_come new);
    }

-- ---- runs

-- nothing is pending when a run begins
unfoldable pub start_state : Run → State
start_state run = record { lanes = λ p. record { jobs = []; next = run.first_frame p; free_from = 0 }; owner = 0; to_come = 0 }

-- a whole tick: releases, pick, tick
unfoldable pub step : List Task → ℕ → Input → State → State
step set now i s = let seen = release set now i s in tick (pick set seen) i.stretch seen

-- the state that a run has reached at time t, before the releases of tick t
unfoldable pub state_at : List Task → Run → ℕ → State
state_at set run zero = start_state run
state_at set run (suc t) = step set t (run.input t) (state_at set run t)

-- the same with the releases of tick t seen
unfoldable pub seen_at : List Task → Run → ℕ → State
seen_at set run t = release set t (run.input t) (state_at set run t)

-- the longest stretch that may start with a tick: the Q of the place picked; none while one is under way, none with an idle tick
unfoldable pub longest_stretch : List Task → ℕ → Option ℕ → ℕ
longest_stretch set (suc n) picked = 0
longest_stretch set zero None = 0
longest_stretch set zero (Some p) = (task_at set p).lock

-- what the run rules ask of the choices at a tick
pub record LegalTick (set : List Task) (run : Run) (t : ℕ) : Type 0 where
  -- releases of a task are at least its period apart
  pub apart : (p w : ℕ) → p < length set → (run.input t).release_of p ≡ Some w → ((state_at set run t).lanes p).free_from ≤ t
  -- a job has at most its frame's time as work
  pub work_fits : (p w : ℕ) → p < length set → (run.input t).release_of p ≡ Some w → w ≤ frame (task_at set p) ((state_at set run t).lanes p).next
  -- a stretch that starts is no longer than it may be
  pub stretch_fits : (run.input t).stretch ≤ longest_stretch set (seen_at set run t).to_come (pick set (seen_at set run t))

-- a run of the set: its first frames are frames, and each of its ticks keeps the rules
pub record Legal (set : List Task) (run : Run) : Type 0 where
  pub first_frames : (p : ℕ) → p < length set → run.first_frame p < frame_count (task_at set p)
  pub each_tick : (t : ℕ) → t < run.ticks → LegalTick set run t

-- ---- what a run shows of a job: the job of the task at place p that is released at tick r and has frame k

-- at time t the run has that much of the job's work left; releases of tick t are seen, so that a job shows from its release on
pub record Left (set : List Task) (run : Run) (p r k t left : ℕ) : Type 0 where
  pub released : r < run.ticks
  pub reached : t ≤ run.ticks
  pub stands : Memᴰ (job r k left) ((seen_at set run t).lanes p).jobs

-- the job takes longer than R: the run reaches R ticks after its release with work of it left
unfoldable pub TakesLonger : List Task → Run → (p r k R : ℕ) → Type 0
TakesLonger set run p r k R = (left : ℕ) × (1 ≤ left) × Left set run p r k (r + R) left

-- the job takes R: it is complete R ticks after its release and at no time before
unfoldable pub Takes : List Task → Run → (p r k R : ℕ) → Type 0
Takes set run p r k R = Left set run p r k (r + R) 0 × ((x : ℕ) → x < R → TakesLonger set run p r k x)

-- the job misses: it takes longer than its deadline
unfoldable pub Misses : List Task → Run → (p r k : ℕ) → Type 0
Misses set run p r k = TakesLonger set run p r k (deadline_of (task_at set p) k)
