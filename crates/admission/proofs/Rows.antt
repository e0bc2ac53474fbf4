-- A row of numbers, from a on: a test of all of them and a search in it, turn by turn and as an iterator makes them.
use Rattle.std.specs.Prelude.{None, Option, Some}
use Rattle.std.specs.List.{find, list_all, position_from, range_with_len}
use Rattle.std.proofs.Common.{◌≡◌, ℕ, zero, suc, ◌+◌, ◌-◌, ◌≤◌, ◌<◌, Bool, true, false, cond, ◌&&◌, List, [], ◌∷◌, length, get_or, refl, sym, ap, ◌∙◌, add-one, add-zero, arith}
use Rattle.theory.specs.First.{first, every}

-- what is left is the next number and those behind it
split : (a e : ℕ) → a < e → e - a ≡ suc (e - suc a)
split a e h = omega arith

none_left : (a e : ℕ) → e ≤ a → e - a ≡ 0
none_left a e h = omega arith

module _ (test : ℕ → Bool) (a e : ℕ) where
  pub every_passes : a < e → test a ≡ true → every a (e - a) test ≡ every (a + 1) (e - (a + 1)) test
  unfolding every
  every_passes h t = rw (add-one a, split a e h, t, every)

  pub every_fails : a < e → test a ≡ false → every a (e - a) test ≡ false
  unfolding every
  every_fails h t = rw (split a e h, t, every)

  pub every_ends : e ≤ a → every a (e - a) test ≡ true
  unfolding every
  every_ends h = rw (none_left a e h)

-- a search for the first, of which the numbers from a on are left: what the whole search finds
module _ (test : ℕ → Bool) {whole : Option ℕ} (a e : ℕ) (left : first a (e - a) test ≡ whole) where
  pub search_hits : a < e → test a ≡ true → whole ≡ Some a
  unfolding first
  search_hits h t = sym left ∙ rw (split a e h, t, first)

  pub search_goes_on : a < e → test a ≡ false → first (a + 1) (e - (a + 1)) test ≡ whole
  unfolding first
  search_goes_on h t = sym step ∙ left
    where
      step : first a (e - a) test ≡ first (a + 1) (e - (a + 1)) test
      step = rw (add-one a, split a e h, t, first)

  pub search_ends : e ≤ a → whole ≡ None
  unfolding first
  search_ends h = sym left ∙ rw (none_left a e h)

-- ---- as `all`, `find` and `position` say it

pub every_listed : (a n : ℕ) (test : ℕ → Bool) → list_all test (range_with_len a n) ≡ every a n test
unfolding every
every_listed a zero test = refl
every_listed a (suc n) test = rw (add-one a, every_listed (suc a) n test) (both (test a) (every (suc a) n test))
  where
    both : (b rest : Bool) → (b && rest) ≡ elim b [ true ↦ rest | false ↦ false ]
    both true rest = refl
    both false rest = refl

one_of : (b : Bool) (a : ℕ) (rest : Option ℕ) → cond b (Some a) rest ≡ elim b [ true ↦ Some a | false ↦ rest ]
one_of true a rest = refl
one_of false a rest = refl

pub first_listed : (a n : ℕ) (test : ℕ → Bool) → find test (range_with_len a n) ≡ first a n test
unfolding first
first_listed a zero test = refl
first_listed a (suc n) test = rw (add-one a, first_listed (suc a) n test) (one_of (test a) a (first (suc a) n test))

-- the place in a list, where one test reads the number and the other its place
pub position_first : (ns : List ℕ) (a : ℕ) (test placed : ℕ → Bool) → ((k : ℕ) → k < length ns → placed (a + k) ≡ test (get_or ns k 0))
    → position_from test a ns ≡ first a (length ns) placed
unfolding first
position_first [] a test placed same = refl
position_first (n ∷ ns) a test placed same =
    let later : position_from test (suc a) ns ≡ first (suc a) (length ns) placed = position_first ns (suc a) test placed (λ k h. ap placed (omega arith) ∙ same (suc k) (omega arith)) in
    let here : test n ≡ placed a = sym (ap placed (sym (add-zero a)) ∙ same 0 (omega arith)) in
    rw (add-one a, later, here) (one_of (placed a) a (first (suc a) (length ns) placed))
