-- What `first`, `every` and `found` say: the first number of a row that passes a test, and that all of them do.
use Rattle.std.specs.Prelude.{None, Option, Some}
use mathlib.Core.Bool.{Bool, true, false, true≢false, false≢true}
use mathlib.Core.Logic.{◌⊎◌, inl, inr}
use Rattle.theory.proofs.Options.{none_ne_some}
use mathlib.Core.Path.{◌≡◌, refl, sym, ◌∙◌}
use Prim.Native.Nat.{ℕ, zero, suc, ◌+◌, ◌≤◌, ◌<◌}
use native.Mathlib.Decide.{ℕ_discrete}
use native.Mathlib.Nat.{le_refl, le_antisymm}
use native.Mathlib.Omega.{arith}
use Rattle.theory.specs.First.{first, every, found}

-- a Boolean is one of two, with the equation
pub bool_cases : (b : Bool) → (b ≡ true) ⊎ (b ≡ false)
bool_cases true = inl refl
bool_cases false = inr refl

-- an answer is one of two, with the equation
pub data Answer (o : Option ℕ) : Type 0 where
  nothing : o ≡ None → Answer o
  it_is : (n : ℕ) → o ≡ Some n → Answer o

pub answer : (o : Option ℕ) → Answer o
answer None = nothing refl
answer (Some n) = it_is n refl

module _ (a n : ℕ) (test : ℕ → Bool) where
  first_yes : test a ≡ true → first a (suc n) test ≡ Some a
  unfolding first
  first_yes e = rw (e, first)

  first_no : test a ≡ false → first a (suc n) test ≡ first (suc a) n test
  unfolding first
  first_no e = rw (e, first)

  every_yes : test a ≡ true → every a (suc n) test ≡ every (suc a) n test
  unfolding every
  every_yes e = rw (e, every)

  every_no : test a ≡ false → every a (suc n) test ≡ false
  unfolding every
  every_no e = rw (e, every)

first_zero : (a : ℕ) (test : ℕ → Bool) → first a 0 test ≡ None
unfolding first
first_zero a test = refl

every_zero : (a : ℕ) (test : ℕ → Bool) → every a 0 test ≡ true
unfolding every
every_zero a test = refl

-- j is the first of the n numbers from a that passes the test
pub record IsFirst (a n : ℕ) (test : ℕ → Bool) (j : ℕ) : Type 0 where
  pub from : a ≤ j
  pub before : j < a + n
  pub passes : test j ≡ true
  pub earlier : (u : ℕ) → a ≤ u → u < j → test u ≡ false

-- a number of the row is its first or a later one
split_row : (a u : ℕ) → a ≤ u → (u ≡ a) ⊎ (suc a ≤ u)
split_row a u h = go (ℕ_discrete u a)
  where
    go : Dec (u ≡ a) → (u ≡ a) ⊎ (suc a ≤ u)
    go (yes e) = inl e
    go (no ne) = inr (omega arith)

pub first_none : (a n : ℕ) (test : ℕ → Bool) → first a n test ≡ None → (u : ℕ) → a ≤ u → u < a + n → test u ≡ false
first_none a zero test e u h k = let z : ⊥ = omega arith in absurd z
first_none a (suc n) test e u h k = go (bool_cases (test a)) (split_row a u h) (first_none (suc a) n test)
  where
    go : (test a ≡ true) ⊎ (test a ≡ false) → (u ≡ a) ⊎ (suc a ≤ u)
        → (first (suc a) n test ≡ None → (v : ℕ) → suc a ≤ v → v < suc a + n → test v ≡ false) → test u ≡ false
    go (inl y) s later = absurd (none_ne_some a (sym e ∙ first_yes a n test y))
    go (inr x) (inl q) later = rw q x
    go (inr x) (inr l) later = later (cc (first_no a n test x)) u l (omega arith)

pub first_some : (a n : ℕ) (test : ℕ → Bool) {j : ℕ} → first a n test ≡ Some j → IsFirst a n test j
first_some a zero test {j} e = absurd (none_ne_some j (sym (first_zero a test) ∙ e))
first_some a (suc n) test {j} e = go (bool_cases (test a)) (first_some (suc a) n test {j = j})
  where
    here : test a ≡ true → j ≡ a → IsFirst a (suc n) test j
    here y q = record { from = omega arith; before = omega arith; passes = rw q y; earlier = λ u h k. let z : ⊥ = omega arith in absurd z }

    go : (test a ≡ true) ⊎ (test a ≡ false) → (first (suc a) n test ≡ Some j → IsFirst (suc a) n test j) → IsFirst a (suc n) test j
    go (inl y) later = here y (cc (first_yes a n test y))
    go (inr x) later =
        let f : IsFirst (suc a) n test j = later (cc (first_no a n test x)) in
        record { from = omega arith; before = omega arith; passes = f.passes; earlier = λ u h k. before_it f u h k (split_row a u h) }
      where
        before_it : IsFirst (suc a) n test j → (u : ℕ) → a ≤ u → u < j → (u ≡ a) ⊎ (suc a ≤ u) → test u ≡ false
        before_it f u h k (inl q) = rw q x
        before_it f u h k (inr l) = f.earlier u l k

first_not_less : {a n : ℕ} {test : ℕ → Bool} {i j : ℕ} → IsFirst a n test i → IsFirst a n test j → i ≤ j
first_not_less {i} {j} f g = let not_later : ¬ (j < i) = λ l. true≢false (sym g.passes ∙ f.earlier j g.from l) in omega arith

pub first_unique : {a n : ℕ} {test : ℕ → Bool} {i j : ℕ} → IsFirst a n test i → IsFirst a n test j → i ≡ j
first_unique f g = le_antisymm (first_not_less f g) (first_not_less g f)

pub first_is : (a n : ℕ) (test : ℕ → Bool) {j : ℕ} → IsFirst a n test j → first a n test ≡ Some j
first_is a n test {j} f = go (answer (first a n test))
  where
    go : Answer (first a n test) → first a n test ≡ Some j
    go (nothing e) = absurd (true≢false (sym f.passes ∙ first_none a n test e j f.from f.before))
    go (it_is i e) = rw (e, first_unique (first_some a n test e) f)

pub first_is_none : (a n : ℕ) (test : ℕ → Bool) → ((u : ℕ) → a ≤ u → u < a + n → test u ≡ false) → first a n test ≡ None
first_is_none a n test h = go (answer (first a n test))
  where
    go : Answer (first a n test) → first a n test ≡ None
    go (nothing e) = e
    go (it_is i e) =
        let f : IsFirst a n test i = first_some a n test e in
        absurd (true≢false (sym f.passes ∙ h i f.from f.before))

-- two tests that agree on a row have the same first one
pub first_same : (a n : ℕ) (f g : ℕ → Bool) → ((u : ℕ) → u < a + n → f u ≡ g u) → first a n f ≡ first a n g
first_same a n f g same = go (answer (first a n g))
  where
    go : Answer (first a n g) → first a n f ≡ first a n g
    go (nothing e) = first_is_none a n f (λ u l h. same u h ∙ first_none a n g e u l h) ∙ sym e
    go (it_is j e) =
        let it : IsFirst a n g j = first_some a n g e in
        let here : IsFirst a n f j =
        record { from = it.from; before = it.before; passes = same j it.before ∙ it.passes; earlier = λ u l h. same u (omega (arith, it.before)) ∙ it.earlier u l h } in
        first_is a n f here ∙ sym e

-- a row in which some number passes has a first one
pub first_exists : (a n : ℕ) (test : ℕ → Bool) (u : ℕ) → a ≤ u → u < a + n → test u ≡ true → (j : ℕ) × (first a n test ≡ Some j) × (j ≤ u)
first_exists a n test u h k e = go (answer (first a n test))
  where
    up_to : (j : ℕ) → IsFirst a n test j → j ≤ u
    up_to j f = let not_later : ¬ (u < j) = λ l. true≢false (sym e ∙ f.earlier u h l) in omega arith

    go : Answer (first a n test) → (j : ℕ) × (first a n test ≡ Some j) × (j ≤ u)
    go (nothing q) = absurd (true≢false (sym e ∙ first_none a n test q u h k))
    go (it_is j q) = (j, q, up_to j (first_some a n test q))

-- ---- every

pub every_at : (a n : ℕ) (test : ℕ → Bool) → every a n test ≡ true → (u : ℕ) → a ≤ u → u < a + n → test u ≡ true
every_at a zero test e u h k = let z : ⊥ = omega arith in absurd z
every_at a (suc n) test e u h k = go (bool_cases (test a)) (split_row a u h) (every_at (suc a) n test)
  where
    go : (test a ≡ true) ⊎ (test a ≡ false) → (u ≡ a) ⊎ (suc a ≤ u)
        → (every (suc a) n test ≡ true → (v : ℕ) → suc a ≤ v → v < suc a + n → test v ≡ true) → test u ≡ true
    go (inl y) (inl q) later = rw q y
    go (inl y) (inr l) later = later (sym (every_yes a n test y) ∙ e) u l (omega arith)
    go (inr x) s later = absurd (true≢false (sym e ∙ every_no a n test x))

pub every_is : (a n : ℕ) (test : ℕ → Bool) → ((u : ℕ) → a ≤ u → u < a + n → test u ≡ true) → every a n test ≡ true
every_is a zero test h = every_zero a test
every_is a (suc n) test h =
    every_yes a n test (h a (le_refl a) (omega arith)) ∙ every_is (suc a) n test (λ u l k. h u (omega arith) (omega arith))

-- ---- found

pub found_some : {o : Option ℕ} → found o ≡ true → (n : ℕ) × (o ≡ Some n)
unfolding found
found_some {o = None} e = absurd (false≢true e)
found_some {o = Some n} e = (n, refl)

pub found_none : {o : Option ℕ} → found o ≡ false → o ≡ None
unfolding found
found_none {o = None} e = refl
found_none {o = Some n} e = absurd (true≢false e)

pub some_found : {o : Option ℕ} {n : ℕ} → o ≡ Some n → found o ≡ true
unfolding found
some_found e = rw e

pub none_found : {o : Option ℕ} → o ≡ None → found o ≡ false
unfolding found
none_found e = rw e
