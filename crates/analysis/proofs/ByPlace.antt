-- What is found from the tasks above and the blocking is the finding of the task's place.
use Rattle.std.specs.Prelude.{None, Option, Some, unwrap_or}
use mathlib.Core.Bool.{Bool, true, false, not, ◌&&◌, true≢false, and-eq-true_iff}
use mathlib.Core.List.{List, ◌∷◌}
use mathlib.Core.Logic.{◌⊎◌, ◌≢◌, inl, inr}
use mathlib.Core.Path.{◌≡◌, refl, sym, ap, ap₂, fun_ext, ◌∙◌}
use Prim.Native.Nat.{ℕ, zero, suc, ◌+◌, ◌-◌, ◌≤◌, ◌<◌, zero-le}
use native.Mathlib.Decide.{ℕ_discrete}
use native.Mathlib.Nat.{zero-add, add-zero, add-suc, suc-add}
use native.Mathlib.Omega.{arith}
use borrow.Author.Tests.{le-leb, leb-true, eqb-true}
use lib.Dec.{leb, eqb}
use lib.ListN.{length, get_or, set, replicate, get_or-append}
use Rattle.theory.specs.First.{every, found}
use Rattle.theory.specs.Tasks.{Task, task_at, frame_count, frame, deadline_of, shortest_deadline, WellFormed}
use Rattle.theory.specs.Analysis.{Higher, lower, blocking, higher, demand_of, response_of, passes}
use Rattle.theory.proofs.Search.{bool_cases, every_at, every_is}
use Rattle.sheet.specs.Constants.{most_frames}
use Rattle.sheet.specs.Tasks.{task_in}
use Rattle.sheet.proofs.Records.{frame_is}
use Rattle.sheet.proofs.Filled.{filled, none_filled, filled_more, all_filled}
use Rattle.sheet.specs.declared.Task.{Task as Record}
use Rattle.analysis.specs.Times.{number_at, times_from, slots_by, slots_found}
use Rattle.analysis.specs.Findings.{finding_at, findings_from, findings_of}
use Rattle.analysis.specs.Inside.Response.{response_to, frame_response}
use Rattle.analysis.specs.Inside.Steps.{as_before, times_to, passes_to, slots_to, finding_to}
use Rattle.analysis.specs.declared.Finding.{Finding}

-- a row in which one fails
pub every_fails : (n : ℕ) (test : ℕ → Bool) (k : ℕ) → k < n → test k ≡ false → every 0 n test ≡ false
every_fails n test k h e = go (bool_cases (every 0 n test))
  where
    go : (every 0 n test ≡ true) ⊎ (every 0 n test ≡ false) → every 0 n test ≡ false
    go (inl y) = absurd (true≢false (sym (every_at 0 n test y k zero-le (omega arith)) ∙ e))
    go (inr f) = f

-- the frames of a well-formed task take a tick or more
pub frame_counts : (r : Record) (k : ℕ) → WellFormed (task_in r) → k < frame_count (task_in r) → 1 ≤ get_or r.frames k 0
frame_counts r k w h = rw (frame_is r k h) (w.frame_positive k h)

-- ---- a frame with the time and the deadline of the one before it

module _ (t : Task) where
  module _ (k : ℕ) where
    -- its time is the same
    abbrev same_time : Bool
    same_time = leb 1 k && eqb (frame t k) (frame t (k - 1))

    pub first_alone : k ≡ 0 → not (eqb k 0) ≡ same_time
    first_alone z = rw z

    pub later_time : k ≢ 0 → eqb (frame t k) (frame t (k - 1)) ≡ same_time
    later_time n = let later : 1 ≤ k = omega arith in rw (le-leb _ _ later)

    -- and its deadline too
    pub other_time : {b : Bool} → b ≡ same_time → b ≡ false → b ≡ as_before t k
    unfolding as_before
    other_time e f = rw (← e, f)

    pub same_deadline : {b : Bool} → b ≡ same_time → b ≡ true → eqb (deadline_of t k) (deadline_of t (k - 1)) ≡ as_before t k
    unfolding as_before
    same_deadline e f = rw (← e, f)

  -- has the same response
  pub response_before : (above : List Higher) (blocked k : ℕ) → as_before t k ≡ true
      → (1 ≤ k) × (frame_response above blocked t (k - 1) ≡ frame_response above blocked t k)
  unfolding as_before frame_response
  response_before above blocked k e =
      let same_frame = eqb (frame t k) (frame t (k - 1)) in
      let same_deadline = eqb (deadline_of t k) (deadline_of t (k - 1)) in
      let (both, deadline) = (and-eq-true_iff (leb 1 k && same_frame) same_deadline).0 e in
      let (later, time) = (and-eq-true_iff (leb 1 k) same_frame).0 both in
      (leb-true 1 k later, ap₂ (response_to above blocked) (sym (eqb-true _ _ time)) (sym (eqb-true _ _ deadline)))

-- ---- frame by frame

module _ (above : List Higher) (blocked : ℕ) (t : Task) where
  length_times_to : (k n : ℕ) → length (times_to above blocked t k n) ≡ n
  unfolding times_to
  length_times_to k zero = refl
  length_times_to k (suc n) = ap suc (length_times_to (suc k) n)

  time_to : (k n j : ℕ) → j < n → get_or (times_to above blocked t k n) j 0 ≡ unwrap_or (frame_response above blocked t (k + j)) 0
  unfolding times_to
  time_to k zero j h = let z : ⊥ = omega arith in absurd z
  time_to k (suc n) zero h = rw (add-zero k)
  time_to k (suc n) (suc j) h = time_to (suc k) n j (omega arith) ∙ ap (λ (m : ℕ). unwrap_or (frame_response above blocked t m) 0) (suc-add k j ∙ sym (add-suc k j))

  -- the frames before frame k are looked at: each has a response time, their times stand, and the last is that of the frame before
  pub record Looked (times : List ℕ) (last : Option ℕ) (k : ℕ) : Type 0 where
    pub stand : times ≡ filled most_frames 0 (times_to above blocked t 0 (frame_count t)) k
    pub have : (j : ℕ) → j < k → found (frame_response above blocked t j) ≡ true
    pub before : 1 ≤ k → last ≡ frame_response above blocked t (k - 1)

  pub none_looked : (last : Option ℕ) → Looked (replicate most_frames 0) last 0
  none_looked last =
      record {
        stand = none_filled most_frames 0 _;
        have = λ j l. let z : ⊥ = omega arith in absurd z;
        before = λ l. let z : ⊥ = omega arith in absurd z;
      }

  pub one_looked : {times : List ℕ} {last : Option ℕ} {k : ℕ} → Looked times last k → k < frame_count t → frame_count t ≤ most_frames
      → (next : Option ℕ) (time : ℕ) → next ≡ Some time → next ≡ frame_response above blocked t k → Looked (set times k time) next (k + 1)
  unfolding found
  one_looked {times} {last} {k} l h few next time is e =
      record {
        stand =
            rw l.stand
            (filled_more most_frames 0 (times_to above blocked t 0 (frame_count t)) k 0 time (rw (length_times_to 0 (frame_count t)) h) (omega arith)
            (ap (λ (o : Option ℕ). unwrap_or o 0) (sym is ∙ e)
            ∙ ap (λ (m : ℕ). unwrap_or (frame_response above blocked t m) 0) (sym (zero-add k))
            ∙ sym (time_to 0 (frame_count t) k h)));
        have = λ j m. at j m (ℕ_discrete j k);
        before = λ _. let same : k + 1 - 1 ≡ k = omega arith in rw same e;
      }
    where
      at : (j : ℕ) → j < k + 1 → Dec (j ≡ k) → found (frame_response above blocked t j) ≡ true
      at j m (yes s) = rw (s, ← e, is) refl
      at j m (no n) = l.have j (omega arith)

  -- every frame has a response time
  pub slots_there : {times : List ℕ} {last : Option ℕ} {k : ℕ} → Looked times last k → frame_count t ≡ k → Some times ≡ slots_to above blocked t
  unfolding slots_to passes_to slots_by
  slots_there {times} {last} {k} l e =
      rw (
        every_is 0 (frame_count t) (λ j. found (frame_response above blocked t j)) (λ j _ m. l.have j (omega arith)),
        l.stand,
        all_filled most_frames 0 (times_to above blocked t 0 (frame_count t)) k (length_times_to 0 (frame_count t) ∙ e),
      )

  -- or one has none
  pub slots_never : (k : ℕ) → k < frame_count t → None ≡ frame_response above blocked t k → None ≡ slots_to above blocked t
  unfolding slots_to passes_to slots_by found
  slots_never k h e = rw (every_fails (frame_count t) (λ j. found (frame_response above blocked t j)) k h (rw (← e)))

-- what is found of a record's task, part by part
pub finding_made : (above : List Higher) (number blocked : ℕ) (r : Record) {deadline frames : ℕ} {times : Option (List ℕ)} → deadline ≡ shortest_deadline (task_in r)
    → frames ≡ frame_count (task_in r) → times ≡ slots_to above blocked (task_in r)
    → ◌≡◌ {A = Finding} (record { number = number; period = r.period; deadline = deadline; frame_count = frames; blocked = blocked; times = times })
    (finding_to above number blocked (task_in r))
unfolding finding_to task_in
finding_made above number blocked r ed ef et = rw (ed, ef, et)

-- ---- the tasks above and the blocking are those of a place

module _ (set : List Task) (p : ℕ) (above : List Higher) (blocked : ℕ) (t : Task)
    (ea : above ≡ higher set p) (eb : blocked ≡ blocking (lower set p)) (et : t ≡ task_at set p) where
  pub response_at : (k : ℕ) → frame_response above blocked t k ≡ response_of set p k
  unfolding frame_response response_to response_of demand_of
  response_at k = rw (ea, eb, et)

  passes_at : passes_to above blocked t ≡ passes set p
  unfolding passes_to passes
  passes_at = ap₂ (every 0) (ap frame_count et) (fun_ext (λ k. ap found (response_at k)))

  times_at : (k n : ℕ) → times_to above blocked t k n ≡ times_from set p k n
  unfolding times_to times_from
  times_at k zero = refl
  times_at k (suc n) = ap₂ ◌∷◌ (ap (λ (o : Option ℕ). unwrap_or o 0) (response_at k)) (times_at (suc k) n)

  pub finding_is_at : (order : List ℕ) (number : ℕ) → number ≡ number_at order p → finding_to above number blocked t ≡ finding_at order set p
  unfolding finding_to slots_to finding_at slots_found
  finding_is_at order number en = rw (passes_at, times_at 0 (frame_count t), en, eb, et)

-- ---- the findings of a set

module _ (order : List ℕ) (set : List Task) where
  pub length_findings : (p n : ℕ) → length (findings_from order set p n) ≡ n
  unfolding findings_from
  length_findings p zero = refl
  length_findings p (suc n) = ap suc (length_findings (suc p) n)

  finding_from : (p n i : ℕ) (d : Finding) → i < n → get_or (findings_from order set p n) i d ≡ finding_at order set (p + i)
  unfolding findings_from
  finding_from p zero i d h = let z : ⊥ = omega arith in absurd z
  finding_from p (suc n) zero d h = rw (add-zero p)
  finding_from p (suc n) (suc i) d h = finding_from (suc p) n i d (omega arith) ∙ ap (finding_at order set) (suc-add p i ∙ sym (add-suc p i))

  pub finding_first : (n i : ℕ) (d : Finding) → i < n → get_or (findings_from order set 0 n) i d ≡ finding_at order set i
  finding_first n i d h = finding_from 0 n i d h ∙ ap (finding_at order set) (zero-add i)

  pub finding_is : (p : ℕ) (d : Finding) → p < length set → get_or (findings_of order set) p d ≡ finding_at order set p
  unfolding findings_of
  finding_is p d h =
      get_or-append (findings_from order set 0 (length set)) _ d p (rw (length_findings 0 (length set)) h) ∙ finding_first (length set) p d h
