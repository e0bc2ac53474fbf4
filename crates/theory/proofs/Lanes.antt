-- Laws of one lane: the work pending in it, what a release and a tick do to it, and what holds of its jobs that are not complete.
use Rattle.std.specs.Prelude.{None, Option, Some}
use mathlib.Core.Bool.{Bool, true, false}
use mathlib.Core.List.Memᴰ
use mathlib.Core.List.{List, [], ◌∷◌, ◌++◌, Memᴰ}
use mathlib.Core.Logic.{◌⊎◌, inl, inr}
use mathlib.Core.Path.{◌≡◌, refl, sym, ◌∙◌, ap}
use Prim.Native.Nat.{ℕ, zero, suc, pred, ◌+◌, ◌≤◌}
use native.Mathlib.Nat.{le_refl, add-zero, zero-add}
use native.Mathlib.Omega.{arith}
use borrow.Author.Tests.{ltb-true, ltb-false}
use Rattle.theory.specs.Tasks.{Task}
use Rattle.theory.specs.Runs.{Job, job, Lane, release_lane, oldest_left, pending, serve, serve_lane}

-- the work pending in a list of jobs
unfoldable pub total : List Job → ℕ
total [] = 0
total (job r k w ∷ js) = w + total js

-- the work of a release
unfoldable pub given : Option ℕ → ℕ
given None = 0
given (Some w) = w

pub given_none : given None ≡ 0
unfolding given
given_none = refl

pub given_some : (w : ℕ) → given (Some w) ≡ w
unfolding given
given_some w = refl

pub total_append : (js : List Job) (r k w : ℕ) → total (js ++ (job r k w ∷ [])) ≡ total js + w
unfolding total
total_append [] r k w = rw (add-zero w, zero-add w)
total_append (job r' k' w' ∷ js) r k w = let ih : total (js ++ (job r k w ∷ [])) ≡ total js + w = total_append js r k w in omega arith

-- nothing pending: no work
pub oldest_none : (js : List Job) → oldest_left js ≡ 0 → total js ≡ 0
unfolding total oldest_left
oldest_none [] e = refl
oldest_none (job r k zero ∷ js) e = rw (oldest_none js e) refl
oldest_none (job r k (suc w) ∷ js) e = let z : ⊥ = omega arith in absurd z

-- work: some job is pending
pub total_pending : (js : List Job) → 1 ≤ total js → 1 ≤ oldest_left js
total_pending js h = let some_left : ¬ (oldest_left js ≡ 0) = λ e. omega (arith, oldest_none js e) in omega arith

-- oldest first: the tick goes to the job before which all are complete, and to no other
pub serve_oldest_first : (older : List Job) (r k w : ℕ) (younger : List Job) → total older ≡ 0 → serve (older ++ (job r k (suc w) ∷ younger)) ≡ older ++ (job r k w ∷ younger)
unfolding total serve
serve_oldest_first [] r k w younger e = refl
serve_oldest_first (job r' k' zero ∷ older) r k w younger e = rw (serve_oldest_first older r k w younger (omega arith))
serve_oldest_first (job r' k' (suc w') ∷ older) r k w younger e = let z : ⊥ = omega arith in absurd z

-- a tick takes one unit of work
pub serve_total : (js : List Job) → 1 ≤ oldest_left js → total js ≡ suc (total (serve js))
unfolding total oldest_left serve
serve_total [] h = let z : ⊥ = omega arith in absurd z
serve_total (job r k zero ∷ js) h = let ih : total js ≡ suc (total (serve js)) = serve_total js h in omega arith
serve_total (job r k (suc w) ∷ js) h = omega arith

pub serve_total_le : (js : List Job) → total (serve js) ≤ total js
unfolding total serve
serve_total_le [] = le_refl 0
serve_total_le (job r k zero ∷ js) = omega (arith, serve_total_le js)
serve_total_le (job r k (suc w) ∷ js) = omega arith

-- the job that has the tick is one unit shorter, and where it is complete a later one is the oldest
pub serve_oldest : (js : List Job) → pred (oldest_left js) ≤ oldest_left (serve js)
unfolding oldest_left serve
serve_oldest [] = le_refl 0
serve_oldest (job r k zero ∷ js) = serve_oldest js
serve_oldest (job r k (suc zero) ∷ js) = omega arith
serve_oldest (job r k (suc (suc w)) ∷ js) = le_refl _

pub append_oldest : (js new : List Job) → 1 ≤ oldest_left js → oldest_left (js ++ new) ≡ oldest_left js
unfolding oldest_left
append_oldest [] new h = let z : ⊥ = omega arith in absurd z
append_oldest (job r k zero ∷ js) new h = append_oldest js new h
append_oldest (job r k (suc w) ∷ js) new h = refl

-- ---- no job, and one

-- of one job its work is left
pub oldest_one : (r k w : ℕ) → oldest_left (job r k w ∷ []) ≡ w
unfolding oldest_left
oldest_one r k zero = refl
oldest_one r k (suc w) = refl

-- and no more
pub total_one : {js : List Job} {r k w : ℕ} → js ≡ job r k w ∷ [] → total js ≡ w
unfolding total
total_one {w = w} e = rw e (add-zero w)

-- a tick takes a unit of it
pub serve_job : (r k w : ℕ) → serve (job r k w ∷ []) ≡ job r k (pred w) ∷ []
unfolding serve
serve_job r k zero = refl
serve_job r k (suc w) = refl

-- after a tick a lane without jobs has none
pub serve_empty : (b : Bool) (l : Lane) → l.jobs ≡ [] → (serve_lane b l).jobs ≡ []
unfolding serve_lane serve
serve_empty false l e = e
serve_empty true l e = rw e

-- and a lane of one job has that one
pub serve_one : (b : Bool) (l : Lane) {r k w : ℕ} → l.jobs ≡ job r k w ∷ [] → (v : ℕ) × ((serve_lane b l).jobs ≡ job r k v ∷ [])
unfolding serve_lane
serve_one false l {w = w} e = (w, e)
serve_one true l {r} {k} {w} e = (pred w, ap serve e ∙ serve_job r k w)

-- ---- a lane

pub pending_yes : (l : Lane) → pending l ≡ true → 1 ≤ oldest_left l.jobs
unfolding pending
pending_yes l e = ltb-true _ _ e

pub pending_no : (l : Lane) → pending l ≡ false → oldest_left l.jobs ≡ 0
unfolding pending
pending_no l e = let None : oldest_left l.jobs ≤ 0 = ltb-false _ _ e in omega arith

module _ (t : Task) (now : ℕ) where
  pub release_total : (o : Option ℕ) (l : Lane) → total (release_lane t now o l).jobs ≡ total l.jobs + given o
  unfolding release_lane given
  release_total None l = sym (add-zero _)
  release_total (Some w) l = total_append l.jobs now l.next w

  pub release_oldest : (o : Option ℕ) (l : Lane) → 1 ≤ oldest_left l.jobs → oldest_left (release_lane t now o l).jobs ≡ oldest_left l.jobs
  unfolding release_lane
  release_oldest None l h = refl
  release_oldest (Some w) l h = append_oldest l.jobs _ h

  -- a job in a lane with the release seen was there before, or is the one released
  pub release_mem : (o : Option ℕ) (l : Lane) {r k w : ℕ} → Memᴰ (job r k w) (release_lane t now o l).jobs
      → Memᴰ (job r k w) l.jobs ⊎ ((r ≡ now) × (k ≡ l.next) × (o ≡ Some w))
  unfolding release_lane
  release_mem None l m = inl m
  release_mem (Some v) l {r} {k} {w} m = go (Memᴰ.append_cases l.jobs m)
    where
      go : Memᴰ (job r k w) l.jobs ⊎ Memᴰ (job r k w) (job now l.next v ∷ [])
          → Memᴰ (job r k w) l.jobs ⊎ ((r ≡ now) × (k ≡ l.next) × (Some v ≡ Some w))
      go (inl m) = inl m
      go (inr m) = let e : job r k w ≡ job now l.next v = Memᴰ.eq_of_singleton m in inr (cc, cc, cc)

pub serve_lane_total : (b : Bool) (l : Lane) → total (serve_lane b l).jobs ≤ total l.jobs
unfolding serve_lane
serve_lane_total false l = le_refl _
serve_lane_total true l = serve_total_le l.jobs

pub serve_lane_next : (b : Bool) (l : Lane) → (serve_lane b l).next ≡ l.next
unfolding serve_lane
serve_lane_next false l = refl
serve_lane_next true l = refl

pub serve_lane_free : (b : Bool) (l : Lane) → (serve_lane b l).free_from ≡ l.free_from
unfolding serve_lane
serve_lane_free false l = refl
serve_lane_free true l = refl

-- ---- jobs that are not complete

-- each job with work left has a release r and a frame k of which P holds
abbrev pub Unfinished : (ℕ → ℕ → Type 0) → List Job → Type 0
Unfinished P js = (r k w : ℕ) → Memᴰ (job r k (suc w)) js → P r k

pub mem_total : {js : List Job} {r k w : ℕ} → Memᴰ (job r k w) js → w ≤ total js
unfolding total
mem_total {js = []} m = absurd (Memᴰ.not-nil m)
mem_total {js = job r' k' w' ∷ js} {r} {k} {w} m = go (Memᴰ.cases_cons m) (mem_total {js = js} {r = r} {k = k} {w = w})
  where
    go : (job r k w ≡ job r' k' w') ⊎ Memᴰ (job r k w) js → (Memᴰ (job r k w) js → w ≤ total js) → w ≤ w' + total js
    go (inl e) later = let same : w ≡ w' = cc in omega arith
    go (inr m) later = omega (arith, later m)

-- a job that is there after a tick was there before, with as much work or more
pub serve_mem : (js : List Job) {r k w : ℕ} → Memᴰ (job r k w) (serve js) → (v : ℕ) × Memᴰ (job r k v) js × (w ≤ v)
unfolding serve
serve_mem [] m = absurd (Memᴰ.not-nil m)
serve_mem (job r' k' zero ∷ js) {r} {k} {w} m = go (Memᴰ.cases_cons m) (serve_mem js {r = r} {k = k} {w = w})
  where
    go : (job r k w ≡ job r' k' zero) ⊎ Memᴰ (job r k w) (serve js) → (Memᴰ (job r k w) (serve js) → (v : ℕ) × Memᴰ (job r k v) js × (w ≤ v))
        → (v : ℕ) × Memᴰ (job r k v) (job r' k' zero ∷ js) × (w ≤ v)
    go (inl e) later = (w, Memᴰ.head e, le_refl w)
    go (inr n) later = let (v, there, more) = later n in (v, Memᴰ.tail there, more)
serve_mem (job r' k' (suc w') ∷ js) {r} {k} {w} m = go (Memᴰ.cases_cons m)
  where
    go : (job r k w ≡ job r' k' w') ⊎ Memᴰ (job r k w) js → (v : ℕ) × Memᴰ (job r k v) (job r' k' (suc w') ∷ js) × (w ≤ v)
    go (inl e) =
        let same : job r k (suc w') ≡ job r' k' (suc w') = cc in
        let left : w ≡ w' = cc in
        (suc w', Memᴰ.head same, omega arith)
    go (inr n) = (w, Memᴰ.tail n, le_refl w)

pub serve_lane_mem : (b : Bool) (l : Lane) {r k w : ℕ} → Memᴰ (job r k w) (serve_lane b l).jobs → (v : ℕ) × Memᴰ (job r k v) l.jobs × (w ≤ v)
unfolding serve_lane
serve_lane_mem false l {w} m = (w, m, le_refl w)
serve_lane_mem true l m = serve_mem l.jobs m

module _ (P : ℕ → ℕ → Type 0) where
  pub unfinished_none : (js : List Job) → total js ≡ 0 → Unfinished P js
  unfinished_none js e r k w m = let z : ⊥ = omega (arith, mem_total m) in absurd z

  pub unfinished_serve : (b : Bool) (l : Lane) → Unfinished P l.jobs → Unfinished P (serve_lane b l).jobs
  unfinished_serve b l h r k w m = go (serve_lane_mem b l m)
    where
      go : (v : ℕ) × Memᴰ (job r k v) l.jobs × (suc w ≤ v) → P r k
      go (zero, n, more) = let z : ⊥ = omega arith in absurd z
      go (suc v, n, more) = h r k v n
