-- Sums over the places of a set; the work of the higher tasks as such a sum.
use mathlib.Core.List.{List, [], ◌∷◌, ◌++◌, map, map-append}
use mathlib.Core.Path.{◌≡◌, refl, sym, ◌∙◌, ap}
use Prim.Native.Nat.{ℕ, zero, suc, ◌+◌, ◌≤◌, ◌<◌}
use native.Mathlib.Decide.{ℕ_discrete}
use native.Mathlib.Nat.{le_refl, add-le-add, add-zero, zero-add, le_trans, le-add_left, le-add_right}
use native.Mathlib.Omega.{arith}
use lib.ListN.{length, get_or, take}
use lib.Seq.{take-suc}
use Rattle.theory.specs.Tasks.{Task, task_at, work, start_frame}
use Rattle.theory.specs.Analysis.{Higher, from_start, higher, releases, higher_work}

-- what stands past the end of a set
abbrev pub zeros : Task
zeros = record { period = 0; lock = 0; frames = []; deadlines = [] }

-- the sum of f over the places below n
unfoldable pub sum_below : ℕ → (ℕ → ℕ) → ℕ
sum_below zero f = 0
sum_below (suc n) f = sum_below n f + f n

pub sum_zero : (f : ℕ → ℕ) → sum_below 0 f ≡ 0
unfolding sum_below
sum_zero f = refl

pub sum_suc : (n : ℕ) (f : ℕ → ℕ) → sum_below (suc n) f ≡ sum_below n f + f n
unfolding sum_below
sum_suc n f = refl

pub sum_le : (n : ℕ) {f g : ℕ → ℕ} → ((q : ℕ) → q < n → f q ≤ g q) → sum_below n f ≤ sum_below n g
unfolding sum_below
sum_le zero h = le_refl 0
sum_le (suc n) h = add-le-add (sum_le n (λ q l. h q (omega arith))) (h n (omega arith))

pub sum_eq : (n : ℕ) {f g : ℕ → ℕ} → ((q : ℕ) → q < n → f q ≡ g q) → sum_below n f ≡ sum_below n g
unfolding sum_below
sum_eq zero h = refl
sum_eq (suc n) h = rw (sum_eq n (λ q l. h q (omega arith)), h n (omega arith))

pub sum_add : (n : ℕ) (f g : ℕ → ℕ) → sum_below n (λ q. f q + g q) ≡ sum_below n f + sum_below n g
unfolding sum_below
sum_add zero f g = refl
sum_add (suc n) f g = let ih : sum_below n (λ q. f q + g q) ≡ sum_below n f + sum_below n g = sum_add n f g in omega arith

pub sum_none : (n : ℕ) → sum_below n (λ q. 0) ≡ 0
unfolding sum_below
sum_none zero = refl
sum_none (suc n) = rw (sum_none n)

-- one place is at most the sum
pub sum_at : {n : ℕ} (f : ℕ → ℕ) {q : ℕ} → q < n → f q ≤ sum_below n f
unfolding sum_below
sum_at {n = zero} f h = let z : ⊥ = omega arith in absurd z
sum_at {n = suc n} f {q} h = go (ℕ_discrete q n) (sum_at {n = n} f {q = q})
  where
    go : Dec (q ≡ n) → (q < n → f q ≤ sum_below n f) → f q ≤ sum_below n f + f n
    go (yes e) below = rw e (le-add_left (f n) (sum_below n f))
    go (no ne) below = le_trans (below (omega arith)) (le-add_right _ _)

-- a sum that is not 0 has a place that is not 0
pub sum_some : (n : ℕ) (f : ℕ → ℕ) → 1 ≤ sum_below n f → (q : ℕ) × (q < n) × (1 ≤ f q)
unfolding sum_below
sum_some zero f h = let z : ⊥ = omega arith in absurd z
sum_some (suc n) f h = go (ℕ_discrete (f n) 0) (sum_some n f)
  where
    go : Dec (f n ≡ 0) → (1 ≤ sum_below n f → (q : ℕ) × (q < n) × (1 ≤ f q)) → (q : ℕ) × (q < suc n) × (1 ≤ f q)
    go (yes e) below = let (q, l, k) = below (omega arith) in (q, omega arith, k)
    go (no ne) below = (n, omega arith, omega arith)

-- one place is one less, the others stay: so is the sum
pub sum_one_less : {n : ℕ} {f g : ℕ → ℕ} {q : ℕ} → q < n → f q ≡ suc (g q) → ((u : ℕ) → u < n → (u ≡ q → ⊥) → f u ≡ g u) → sum_below n f ≡ suc (sum_below n g)
unfolding sum_below
sum_one_less {n = zero} h e others = let z : ⊥ = omega arith in absurd z
sum_one_less {n = suc n} {f} {g} {q} h e others = go (ℕ_discrete q n) (sum_one_less {n = n} {f = f} {g = g} {q = q})
  where
    go : Dec (q ≡ n) → (q < n → f q ≡ suc (g q) → ((u : ℕ) → u < n → (u ≡ q → ⊥) → f u ≡ g u) → sum_below n f ≡ suc (sum_below n g))
        → sum_below n f + f n ≡ suc (sum_below n g + g n)
    go (yes same) below =
        let here : f n ≡ suc (g n) = rw (← same) e in
        let before : sum_below n f ≡ sum_below n g = sum_eq n (λ u l. others u (omega arith) (λ x. omega arith)) in
        omega arith
    go (no ne) below =
        let last : f n ≡ g n = others n (omega arith) (λ x. ne (sym x)) in
        let before : sum_below n f ≡ suc (sum_below n g) = below (omega arith) e (λ u l. others u (omega arith)) in
        omega arith

-- ---- the higher tasks

higher_work_append : (hs gs : List Higher) (t : ℕ) → higher_work (hs ++ gs) t ≡ higher_work hs t + higher_work gs t
unfolding higher_work
higher_work_append [] gs t = sym (zero-add _)
higher_work_append (h ∷ hs) gs t = let ih : higher_work (hs ++ gs) t ≡ higher_work hs t + higher_work gs t = higher_work_append hs gs t in omega arith

-- the work of ⌈t/T⌉ jobs of the task at place q
unfoldable pub work_in : List Task → ℕ → ℕ → ℕ
work_in set t q = work (task_at set q) (start_frame (task_at set q)) (releases t (task_at set q).period)

pub higher_work_sum : (set : List Task) (p t : ℕ) → p ≤ length set → higher_work (higher set p) t ≡ sum_below p (work_in set t)
unfolding higher higher_work sum_below work_in task_at
higher_work_sum set zero t h = refl
higher_work_sum set (suc p) t h =
    ap (λ ts. higher_work (map from_start ts) t) (take-suc set p zeros h)
    ∙ ap (λ hs. higher_work hs t) (map-append from_start (take p set) (get_or set p zeros ∷ []))
    ∙ higher_work_append (map from_start (take p set)) (from_start (get_or set p zeros) ∷ []) t
    ∙ ap (λ x. x + (work_in set t p + 0)) (higher_work_sum set p t (omega arith))
    ∙ ap (λ x. sum_below p (work_in set t) + x) (add-zero (work_in set t p))
