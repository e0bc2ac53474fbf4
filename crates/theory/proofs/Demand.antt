-- Laws of ⌈t/T⌉ and of the demand: monotone in t, in blocking, in frames and in the tasks above; the same in any order of those.
use mathlib.Core.List.{List, [], ◌∷◌, Perm, Permᴰ}
use mathlib.Core.Logic.{◌↔◌, ∥∥₁_elim}
use mathlib.Core.Path.{◌≡◌, refl, sym, ◌∙◌, ap}
use Prim.Native.Nat.{ℕ, zero, suc, ◌+◌, ◌-◌, ◌*◌, ◌/◌, ◌%◌, ◌≤◌, ◌<◌}
use native.Mathlib.Nat.{ℕ_set, le_refl, le_trans, le_of_eq, add-le-add, le-add_left, le_antisymm, le-div_iff_mul-le, div-mul-le_self, div-zero, div-add-mod', mod-lt, zero-mul, suc-mul, add_left_comm}
use native.Mathlib.Omega.{arith}
use Rattle.theory.specs.Tasks.{Task, frame, work}
use Rattle.theory.specs.Analysis.{Higher, releases, higher_work, demand}
use Rattle.theory.proofs.Work.{work_mono, work_in_periods}

-- ---- ⌈t/T⌉

-- more than n releases fit into t ticks exactly if n whole periods are less than t
pub releases_more : {T : ℕ} (n t : ℕ) → 1 ≤ T → (n < releases t T) ↔ (n * T < t)
unfolding releases
releases_more {T} n t h = (
  λ l. omega (arith, suc-mul n T, (le-div_iff_mul-le {x = suc n} {y = t + (T - 1)} h).0 l),
  λ l. (le-div_iff_mul-le {x = suc n} {y = t + (T - 1)} h).1 (omega (arith, suc-mul n T)),
)

div_mono : (k : ℕ) {n m : ℕ} → n ≤ m → n / k ≤ m / k
div_mono zero {n} {m} h = rw (div-zero n, div-zero m) (le_refl 0)
div_mono (suc k) {n} {m} h = (le-div_iff_mul-le {k = suc k} (omega arith)).1 (le_trans (div-mul-le_self n (suc k)) h)

pub releases_mono : (T : ℕ) {t u : ℕ} → t ≤ u → releases t T ≤ releases u T
unfolding releases
releases_mono T h = div_mono T (omega arith)

module _ {T : ℕ} (positive : 1 ≤ T) where
  -- ⌈t/T⌉ is the number of periods that t ticks just need
  pub releases_is : (n t : ℕ) → t ≤ n * T → n * T < t + T → releases t T ≡ n
  releases_is n t enough just =
      let no_more : ¬ (n < releases t T) = λ l. omega (arith, (releases_more n t positive).0 l) in
      le_antisymm (omega arith) (no_less n just)
    where
      no_less : (n : ℕ) → n * T < t + T → n ≤ releases t T
      no_less zero h = omega arith
      no_less (suc m) h = (releases_more m t positive).1 (omega (arith, suc-mul m T))

  -- as many periods are less than t and one period more
  pub releases_less : (t : ℕ) → releases t T * T < t + T
  unfolding releases
  releases_less t = omega (arith, div-mul-le_self (t + (T - 1)) T)

  -- .. and so is the work of as many jobs, where frames lie within the period
  pub released_less : (u : Task) → ((k : ℕ) → frame u k ≤ T) → (s t : ℕ) → work u s (releases t T) < t + T
  released_less u within s t = omega (arith, work_in_periods u within s (releases t T), releases_less t)

  -- tick m of its period
  in_period : (m : ℕ) → (m ≡ m / T * T + m % T) × (m % T < T) × (suc (m / T) * T ≡ m / T * T + T)
  in_period m = (sym (div-add-mod' m T), mod-lt m positive, suc-mul (m / T) T)

  pub releases_zero : releases 0 T ≡ 0
  releases_zero = releases_is 0 0 (omega arith) (omega (arith, zero-mul T))

  pub releases_suc : (m : ℕ) → releases (suc m) T ≡ suc (m / T)
  releases_suc m = releases_is (suc (m / T)) (suc m) (omega (arith, in_period m)) (omega (arith, in_period m))

  -- at a whole number of periods the release of that tick is not among them
  pub releases_at : (m : ℕ) → m % T ≡ 0 → releases m T ≡ m / T
  releases_at m e = releases_is (m / T) m (omega (arith, in_period m)) (omega (arith, in_period m))

  pub releases_between : (m : ℕ) → (m % T ≡ 0 → ⊥) → releases m T ≡ suc (m / T)
  releases_between m ne = releases_is (suc (m / T)) m (omega (arith, in_period m)) (omega (arith, in_period m))

-- ---- the work of the higher tasks

pub higher_work_mono : (hs : List Higher) {t u : ℕ} → t ≤ u → higher_work hs t ≤ higher_work hs u
unfolding higher_work
higher_work_mono [] h = le_refl 0
higher_work_mono (x ∷ hs) {t} {u} h = add-le-add (work_mono x.task x.start (releases_mono x.task.period h)) (higher_work_mono hs h)

-- a higher task with the same period and at least as much work in every number of jobs
pub record AtLeast (h g : Higher) : Type 0 where
  pub same_period : h.task.period ≡ g.task.period
  pub more_work : (n : ℕ) → work h.task h.start n ≤ work g.task g.start n

-- each task of the first list stands in the second, with at least as much work; the second may have more tasks
pub data Within : List Higher → List Higher → Type 0 where
  nobody : Within [] []
  extra : {g : Higher} {hs gs : List Higher} → Within hs gs → Within hs (g ∷ gs)
  each : {h g : Higher} {hs gs : List Higher} → AtLeast h g → Within hs gs → Within (h ∷ hs) (g ∷ gs)

pub within_refl : (hs : List Higher) → Within hs hs
within_refl [] = nobody
within_refl (h ∷ hs) = each (record { same_period = refl; more_work = λ n. le_refl _ }) (within_refl hs)

pub higher_work_within : {hs gs : List Higher} → Within hs gs → (t : ℕ) → higher_work hs t ≤ higher_work gs t
unfolding higher_work
higher_work_within nobody t = le_refl 0
higher_work_within (extra {g = g} w) t = le_trans (higher_work_within w t) (le-add_left _ _)
higher_work_within (each {h = h} {g = g} a w) t = add-le-add
    (le_trans (le_of_eq (ap (λ T. work h.task h.start (releases t T)) a.same_period)) (a.more_work (releases t g.task.period)))
    (higher_work_within w t)

-- demand is monotone in blocking, in the own frame, in the tasks above and their frames, and in t
pub demand_mono : {B B' C C' t u : ℕ} {hs gs : List Higher} → B ≤ B' → C ≤ C' → Within hs gs → t ≤ u → demand B C hs t ≤ demand B' C' gs u
unfolding demand
demand_mono {t = t} {gs = gs} b c w h = add-le-add (add-le-add b c) (le_trans (higher_work_within w t) (higher_work_mono gs h))

-- it does not depend on the order of the tasks above
higher_work_permᴰ : {hs gs : List Higher} → Permᴰ hs gs → (t : ℕ) → higher_work hs t ≡ higher_work gs t
unfolding higher_work
higher_work_permᴰ Permᴰ.nil t = refl
higher_work_permᴰ (Permᴰ.cons {b = g} e d) t = rw (e, higher_work_permᴰ d t)
higher_work_permᴰ (Permᴰ.swap {a' = a} {b' = b} e q) t = rw (e, q) (add_left_comm _ _ _)
higher_work_permᴰ (Permᴰ.trans d e) t = higher_work_permᴰ d t ∙ higher_work_permᴰ e t

pub demand_order : (B C : ℕ) {hs gs : List Higher} → Perm hs gs → (t : ℕ) → demand B C hs t ≡ demand B C gs t
unfolding demand
demand_order B C d t = ap (λ x. B + C + x) (∥∥₁_elim d (ℕ_set _ _) (λ e. higher_work_permᴰ e t))

-- the demand is at least blocking plus the frame
pub demand_least : (B C : ℕ) (hs : List Higher) (t : ℕ) → B + C ≤ demand B C hs t
unfolding demand
demand_least B C hs t = omega arith
