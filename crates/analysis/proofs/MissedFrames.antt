-- The missed frame of a set is the first without a response time, and looking at the places from the front finds it.
use Rattle.std.specs.Prelude.{None, Option, Some, is_some, unwrap_or}
use mathlib.Core.Bool.{Bool, true, false, not}
use mathlib.Core.List.{List}
use mathlib.Core.Path.{◌≡◌, refl, sym, ap, ap₂, subst, fun_ext, ◌∙◌}
use Prim.Native.Nat.{ℕ, ◌+◌, ◌≤◌, ◌<◌, zero-le}
use native.Mathlib.Decide.{ℕ_discrete}
use native.Mathlib.Omega.{arith}
use borrow.Author.Tests.{not-true, not-false}
use lib.ListN.{length}
use Rattle.theory.specs.First.{first, found}
use Rattle.theory.specs.Tasks.{Task, task_at, frame_count, frame, deadline_of}
use Rattle.theory.specs.Analysis.{Higher, lower, blocking, blocker, higher, response_of, passes, FirstWithout}
use Rattle.theory.proofs.Search.{IsFirst, first_some, first_none, first_is, first_is_none, found_some, some_found, none_found}
use Rattle.theory.proofs.Verdict.{passes_if, fails_first, IsMissed, Way, way, all_pass, one_fails, verdict_holds, verdict_missed}
use Rattle.analysis.specs.Misses.{first_without, miss_by, miss_in}
use Rattle.analysis.specs.Inside.Response.{response_to, frame_response}
use Rattle.analysis.specs.Inside.Steps.{without_to}
use Rattle.analysis.specs.declared.MissedFrame.{MissedFrame}
use Rattle.analysis.proofs.ByPlace.{every_fails, response_at}
use Rattle.analysis.proofs.Passed.{Passed}

abbrev pub frame_at : ℕ → ℕ → MissedFrame
frame_at p k = record { place = p; frame = k }

-- a frame is without
abbrev test_of : List Task → ℕ → ℕ → Bool
test_of set p k = not (found (response_of set p k))

-- the first frame without a response time, where the task does not pass
pub first_without_is : (set : List Task) (p : ℕ) → passes set p ≡ false → FirstWithout set p (first_without set p)
unfolding first_without
first_without_is set p e =
    let (k, f) = fails_first set p e in
    let it : IsFirst 0 (frame_count (task_at set p)) (test_of set p) k =
    record {
      from = zero-le;
      before = omega (arith, f.frame_in);
      passes = ap not (none_found f.without);
      earlier = λ u _ l. ap not (some_found (f.earlier_have u l).1);
    }
    in
    rw (first_is 0 (frame_count (task_at set p)) (test_of set p) it) f

-- what the missed frame of a set names: the first task in priority order that does not pass, and its first frame without a response time
pub miss_names : (set : List Task) (p k : ℕ) → miss_in set ≡ Some (record { place = p; frame = k })
    → IsMissed set p (blocker set p) × FirstWithout set p k
unfolding miss_in miss_by
miss_names set p k e = go (way set)
  where
    go : Way set → IsMissed set p (blocker set p) × FirstWithout set p k
    go (all_pass v h) =
        let none : None ≡ Some (frame_at p k) = sym (ap (miss_by set) v) ∙ e in
        cc
    go (one_fails q v m) =
        let same : Some (frame_at q (first_without set q)) ≡ Some (frame_at p k) = sym (ap (miss_by set) v) ∙ e in
        let both : frame_at q (first_without set q) ≡ frame_at p k = cc in
        let place : q ≡ p = ap (λ (m : MissedFrame). m.place) both in
        let frame_is : first_without set q ≡ k = ap (λ (m : MissedFrame). m.frame) both in (
          subst (λ x. IsMissed set x (blocker set x)) place m,
          subst (FirstWithout set p) frame_is (subst (λ x. FirstWithout set x (first_without set q)) place (first_without_is set q m.fails)),
        )

-- ---- frame by frame

found_is : (o : Option ℕ) → found o ≡ is_some o
unfolding found
found_is None = refl
found_is (Some t) = refl

-- no frame before k is without
module _ (above : List Higher) (blocked : ℕ) (t : Task) where
  abbrev without : ℕ → Bool
  without k = not (found (frame_response above blocked t k))

  -- what is found of frame k, of its time and its deadline
  pub seen_of : (k : ℕ) {cost deadline : ℕ} {r : Option ℕ} {b : Bool} → cost ≡ frame t k → deadline ≡ deadline_of t k → r ≡ response_to above blocked cost deadline
      → is_some r ≡ b → without k ≡ not b
  unfolding frame_response
  seen_of k ec ed er e = rw (← ec, ← ed, ← er, found_is, e)

  pub AllHave : ℕ → Type 0
  AllHave k = (j : ℕ) → j < k → without j ≡ false

  pub none_looked : AllHave 0
  unfolding AllHave
  none_looked j h = let z : ⊥ = omega arith in absurd z

  pub one_has : (k : ℕ) → AllHave k → without k ≡ false → AllHave (k + 1)
  unfolding AllHave
  one_has k a e j h = go (ℕ_discrete j k)
    where
      go : Dec (j ≡ k) → without j ≡ false
      go (yes s) = rw s e
      go (no ne) = a j (omega arith)

  pub found_without : (k : ℕ) → AllHave k → k < frame_count t → without k ≡ true → Some k ≡ without_to above blocked t
  unfolding AllHave without_to
  found_without k a h e =
      let it : IsFirst 0 (frame_count t) without k = record { from = zero-le; before = omega arith; passes = e; earlier = λ u _ l. a u l } in
      sym (first_is 0 (frame_count t) without it)

  pub all_have : (k : ℕ) → AllHave k → frame_count t ≤ k → None ≡ without_to above blocked t
  unfolding AllHave without_to
  all_have k a h = sym (first_is_none 0 (frame_count t) without (λ u _ l. a u (omega arith)))

-- the first frame without of the task at a place: where there is one the task does not pass, else it does
module _ (set : List Task) (p : ℕ) where
  abbrev frames : ℕ
  frames = frame_count (task_at set p)

  misses_there : (k : ℕ) → first 0 frames (test_of set p) ≡ Some k → (passes set p ≡ false) × (k ≡ first_without set p)
  unfolding first_without passes
  misses_there k e =
      let f : IsFirst 0 frames (test_of set p) k = first_some 0 frames (test_of set p) e in (
        every_fails frames (λ j. found (response_of set p j)) k (omega (arith, f.before)) (not-true _ f.passes),
        sym (ap (λ (o : Option ℕ). unwrap_or o 0) e),
      )

  passes_there : first 0 frames (test_of set p) ≡ None → passes set p ≡ true
  passes_there e = passes_if set p (λ k l. found_some (not-false _ (first_none 0 frames (test_of set p) e k zero-le (omega arith))))

  -- what is seen of it, by the tasks above it and its blocking
  module _ (above : List Higher) (blocked : ℕ) (t : Task) (ea : above ≡ higher set p) (eb : blocked ≡ blocking (lower set p)) (et : t ≡ task_at set p) where
    seen : without_to above blocked t ≡ first 0 frames (test_of set p)
    unfolding without_to
    seen =
        ap₂ (λ (n : ℕ) (test : ℕ → Bool). first 0 n test) (ap frame_count et)
        (fun_ext (λ k. ap (λ (o : Option ℕ). not (found o)) (response_at set p above blocked t ea eb et k)))

    pub without_at : (k : ℕ) → without_to above blocked t ≡ Some k → (passes set p ≡ false) × (k ≡ first_without set p)
    without_at k e = misses_there k (sym seen ∙ e)

    pub passes_at : without_to above blocked t ≡ None → passes set p ≡ true
    passes_at e = passes_there (sym seen ∙ e)

-- ---- place by place

module _ (set : List Task) where
  pub no_miss : (p : ℕ) → Passed set p → length set ≤ p → None ≡ miss_in set
  unfolding Passed miss_in miss_by
  no_miss p a h = sym (ap (miss_by set) ((verdict_holds set).1 (λ q l. a q (omega arith))))

  pub frame_missed : (p : ℕ) → Passed set p → p < length set → passes set p ≡ false → Some (frame_at p (first_without set p)) ≡ miss_in set
  unfolding Passed miss_in miss_by
  frame_missed p a h e =
      sym (ap (miss_by set) ((verdict_missed set {p = p} {b = blocker set p}).1 (record { in_set = h; fails = e; earlier_pass = a; named = refl })))
