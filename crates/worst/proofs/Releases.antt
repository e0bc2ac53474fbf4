-- The releases of one task, from the first on and a step apart: at their ticks, between them, and how many there are.
use Rattle.std.specs.Prelude.{None, Some}
use mathlib.Core.Path.{◌≡◌, ap}
use Prim.Native.Nat.{ℕ, zero, suc, ◌+◌, ◌-◌, ◌*◌, ◌/◌, ◌%◌, ◌≤◌, ◌<◌, zero-le}
use native.Mathlib.Decide.{dec_le, dec_lt, ℕ_discrete}
use native.Mathlib.Nat.{mul-mod_left, mul-div_left, div-add-mod', div-eq_of_lt-le, mul-le-mul_right, suc-mul}
use native.Mathlib.Omega.{arith}
use borrow.Author.Tests.{le-leb, lt-leb, lt-ltb, le-ltb, ne_eqb}
use Rattle.theory.specs.Tasks.{Task}
use Rattle.worst.specs.declared.Series.{Series}
use Rattle.worst.specs.Inside.Plans.{work_with, series_release, releases_to}

-- the tick of release c
abbrev pub tick_of : Series → ℕ → ℕ
tick_of series c = series.opens + c * series.step

module _ (t : Task) (series : Series) (positive : 1 ≤ series.step) where
  -- at the tick of release c the job of that release is released
  pub release_at : (c : ℕ) → series_release t series (tick_of series c) ≡ Some (work_with t (series.next + c) series.lock)
  unfolding series_release
  release_at c =
      let past : tick_of series c - series.opens ≡ c * series.step = omega arith in
      rw (le-leb series.opens (tick_of series c) (omega arith), past, mul-mod_left c series.step, mul-div_left c positive)

  -- at any other tick nothing is released
  pub release_none : (now : ℕ) → ((c : ℕ) → tick_of series c ≡ now → ⊥) → series_release t series now ≡ None
  unfolding series_release
  release_none now h = go (dec_le series.opens now) (ℕ_discrete ((now - series.opens) % series.step) 0)
    where
      go : Dec (series.opens ≤ now) → Dec ((now - series.opens) % series.step ≡ 0) → series_release t series now ≡ None
      go (yes l) (yes e) = absurd (h ((now - series.opens) / series.step) (omega (arith, div-add-mod' (now - series.opens) series.step)))
      go (yes l) (no ne) = rw (le-leb series.opens now l, ne_eqb ((now - series.opens) % series.step) 0 ne)
      go (no l) d = rw (lt-leb series.opens now (omega arith))

-- before tick u there are c releases
pub record Reached (series : Series) (u c : ℕ) : Type 0 where
  pub ahead : u ≤ tick_of series c
  pub behind : (j : ℕ) → j < c → tick_of series j < u

-- before tick 0 there is no release
pub reached_none : (series : Series) → Reached series 0 0
reached_none series = record { ahead = zero-le; behind = λ j h. let z : ⊥ = omega arith in absurd z }

-- as long as the next release is not passed, the count stays
pub reached_later : (series : Series) {u v c : ℕ} → u ≤ v → v ≤ tick_of series c → Reached series u c → Reached series v c
reached_later series l m r = record { ahead = m; behind = λ j h. let b = r.behind j h in omega arith }

module _ (series : Series) (positive : 1 ≤ series.step) where
  -- behind the next release the count is one more
  pub reached_more : {u c : ℕ} → tick_of series c ≡ u → Reached series u c → Reached series (suc u) (suc c)
  reached_more {u} {c} e r =
      record {
        ahead = omega (arith, suc-mul c series.step);
        behind = λ j h. go j h (ℕ_discrete j c);
      }
    where
      go : (j : ℕ) → j < suc c → Dec (j ≡ c) → tick_of series j < suc u
      go j h (yes s) = rw s (omega arith)
      go j h (no ne) = let b = r.behind j (omega arith) in omega arith

  -- no release between two
  pub quiet : (t : Task) {u c : ℕ} → Reached series u c → (v : ℕ) → u ≤ v → v < tick_of series c → series_release t series v ≡ None
  quiet t {u} {c} r v l m = release_none t series positive v (λ j e. go j e (dec_lt j c))
    where
      go : (j : ℕ) → tick_of series j ≡ v → Dec (j < c) → ⊥
      go j e (yes h) = let b = r.behind j h in omega arith
      go j e (no h) = let b = mul-le-mul_right {m = c} {n = j} series.step (omega arith) in omega arith

-- how many there are up to a tick
pub counted : (series : Series) (end c : ℕ) → Reached series (suc end) c → releases_to series.opens series.step end ≡ c
unfolding releases_to
counted series end zero r = rw (lt-ltb end series.opens (omega (arith, r.ahead)))
counted series end (suc m) r =
    let last = r.behind m (omega arith) in
    let more = suc-mul m series.step in
    let here : (m + 1) * series.step ≡ m * series.step + series.step = omega arith in
    rw (le-ltb end series.opens (omega arith))
    (ap suc (div-eq_of_lt-le {k = m} series.step {m = end - series.opens} (omega arith) (omega (arith, r.ahead))))
