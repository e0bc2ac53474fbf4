-- Laws of a set: its frames' demands, passing, the verdict, the rounds.
use Rattle.std.specs.Prelude.{None, Option, Some}
use mathlib.Core.Bool.{Bool, true, false, not, true≢false}
use mathlib.Core.List.{List}
use mathlib.Core.Logic.{◌↔◌}
use mathlib.Core.Path.{◌≡◌, refl, sym, ◌∙◌, ap, ap₂, subst₂}
use Prim.Native.Nat.{ℕ, suc, ◌+◌, ◌%◌, ◌≤◌, ◌<◌, zero-le}
use native.Mathlib.Nat.{le_refl, le_antisymm, mod-lt}
use native.Mathlib.Omega.{arith}
use borrow.Author.Tests.{not-true, not-false}
use lib.ListN.{length}
use Rattle.theory.specs.First.{first, found}
use Rattle.theory.specs.Tasks.{Task, task_at, frame_count, frame, deadline_of}
use Rattle.theory.specs.Analysis.{lower, blocking, blocker, higher, demand, IsResponse, response, demand_of, response_of, rounds_of, passes, FirstWithout, holds, missed, verdict}
use Rattle.theory.proofs.Search.{IsFirst, first_some, first_none, every_at, every_is, found_some, found_none, some_found, Answer, answer, nothing, it_is}
use Rattle.theory.proofs.Work.{frame_mod, deadline_mod}
use Rattle.theory.proofs.Passed.{asked}
use Rattle.theory.proofs.Demand.{within_refl, demand_mono, demand_least}
use Rattle.theory.proofs.Response.{Monotone, response_is, no_response_is, rounds_reach, rounds_pass}

module _ (set : List Task) (p : ℕ) where
  -- a larger frame of the task at a later time has no less demand
  pub demand_of_mono : (j k : ℕ) → frame (task_at set p) j ≤ frame (task_at set p) k → (t u : ℕ) → t ≤ u → demand_of set p j t ≤ demand_of set p k u
  unfolding demand_of
  demand_of_mono j k c t u h = demand_mono (le_refl _) c (within_refl (higher set p)) h

  pub demand_of_monotone : (k : ℕ) → Monotone (demand_of set p k)
  demand_of_monotone k = demand_of_mono k k (le_refl _)

  pub demand_of_least : (k t : ℕ) → blocking (lower set p) + frame (task_at set p) k ≤ demand_of set p k t
  unfolding demand_of
  demand_of_least k t = demand_least _ _ _ _

  -- the response time, as computed and as the equation says it
  pub response_of_is : (k : ℕ) {t : ℕ} → (response_of set p k ≡ Some t) ↔ IsResponse (demand_of set p k) (deadline_of (task_at set p) k) t
  unfolding response_of
  response_of_is k = response_is (demand_of set p k) (deadline_of (task_at set p) k)

  pub no_response_of_is : (k : ℕ) → (response_of set p k ≡ None) ↔ ((t : ℕ) → 1 ≤ t → t ≤ deadline_of (task_at set p) k → t < demand_of set p k t)
  unfolding response_of
  no_response_of_is k = no_response_is (demand_of set p k) (deadline_of (task_at set p) k)

  -- frames are counted going round
  pub response_of_mod : (k : ℕ) → response_of set p (k % frame_count (task_at set p)) ≡ response_of set p k
  unfolding response_of demand_of
  response_of_mod k =
      ap₂ (λ (own D : ℕ). response (demand (blocking (lower set p)) own (higher set p)) D) (frame_mod (task_at set p) k) (deadline_mod (task_at set p) k)

  -- of a task that passes every frame has a response time
  pub passes_frames : 1 ≤ frame_count (task_at set p) → passes set p ≡ true → (k : ℕ) → (t : ℕ) × (response_of set p k ≡ Some t)
  passes_frames h e k =
      let m = frame_count (task_at set p) in
      let (t, r) = found_some (every_at 0 m (λ j. found (response_of set p j)) (asked set p e) (k % m) zero-le (omega (arith, mod-lt k h))) in
      (t, sym (response_of_mod k) ∙ r)

  pub passes_if : ((k : ℕ) → k < frame_count (task_at set p) → (t : ℕ) × (response_of set p k ≡ Some t)) → passes set p ≡ true
  unfolding passes
  passes_if have = every_is 0 (frame_count (task_at set p)) _ (λ k _ h. some_found (have k (omega arith)).1)

  -- a task that does not pass has a first frame without a response time
  pub fails_first : passes set p ≡ false → (k : ℕ) × FirstWithout set p k
  fails_first e = go (answer (first 0 (frame_count (task_at set p)) has_none))
    where
      has_none : ℕ → Bool
      has_none k = not (found (response_of set p k))

      go : Answer (first 0 (frame_count (task_at set p)) has_none) → (k : ℕ) × FirstWithout set p k
      go (nothing q) =
          absurd (true≢false (sym (passes_if (λ k l. found_some (not-false _ (first_none 0 (frame_count (task_at set p)) has_none q k zero-le (omega arith))))) ∙ e))
      go (it_is k q) =
          let f : IsFirst 0 (frame_count (task_at set p)) has_none k = first_some 0 (frame_count (task_at set p)) has_none q in (
            k,
            record {
              frame_in = omega (arith, f.before);
              without = found_none (not-true _ f.passes);
              earlier_have = λ j l. found_some (not-false _ (f.earlier j zero-le l));
            },
          )

  -- the rounds reach the response time; without one they pass the deadline
  module _ (k : ℕ) (positive : 1 ≤ frame (task_at set p) k) where
    pub rounds_of_reach : {t : ℕ} → response_of set p k ≡ Some t → (n : ℕ) × (n ≤ suc (deadline_of (task_at set p) k)) × (rounds_of set p k n ≡ t) × (rounds_of set p k (suc n) ≡ t)
    unfolding rounds_of
    rounds_of_reach e = rounds_reach (demand_of_monotone k) (demand_of_least k) (omega arith) ((response_of_is k).0 e)

    pub rounds_of_pass : response_of set p k ≡ None → (n : ℕ) × (n ≤ suc (deadline_of (task_at set p) k)) × (deadline_of (task_at set p) k < rounds_of set p k n)
    unfolding rounds_of
    rounds_of_pass e = rounds_pass (demand_of_monotone k) (demand_of_least k) (omega arith) ((no_response_of_is k).0 e)

-- ---- the verdict

-- the first task in priority order that does not pass, and its blocker
pub record IsMissed (set : List Task) (p : ℕ) (b : Option ℕ) : Type 0 where
  pub in_set : p < length set
  pub fails : passes set p ≡ false
  pub earlier_pass : (q : ℕ) → q < p → passes set q ≡ true
  pub named : b ≡ blocker set p

-- the answer is holds and all tasks pass, or it names the first that does not
pub data Way (set : List Task) : Type 0 where
  all_pass : verdict set ≡ holds → ((p : ℕ) → p < length set → passes set p ≡ true) → Way set
  one_fails : (p : ℕ) → verdict set ≡ missed p (blocker set p) → IsMissed set p (blocker set p) → Way set

pub way : (set : List Task) → Way set
unfolding verdict
way set = go (answer (first 0 (length set) (λ p. not (passes set p))))
  where
    go : Answer (first 0 (length set) (λ p. not (passes set p))) → Way set
    go (nothing e) = all_pass (rw (e, verdict)) (λ p h. not-false _ (first_none 0 (length set) (λ q. not (passes set q)) e p (omega arith) (omega arith)))
    go (it_is p e) =
        let f : IsFirst 0 (length set) (λ q. not (passes set q)) p = first_some 0 (length set) (λ q. not (passes set q)) e in
        one_fails p (rw (e, verdict))
        (record {
          in_set = omega (arith, f.before);
          fails = not-true _ f.passes;
          earlier_pass = λ q l. not-false _ (f.earlier q (omega arith) l);
          named = refl;
        })

pub verdict_holds : (set : List Task) → (verdict set ≡ holds) ↔ ((p : ℕ) → p < length set → passes set p ≡ true)
verdict_holds set = (there (way set), back (way set))
  where
    there : Way set → verdict set ≡ holds → (p : ℕ) → p < length set → passes set p ≡ true
    there (all_pass e h) q = h
    there (one_fails p e m) q = let z : ◌≡◌ {A = ℕ} 0 1 = cc in let z : ⊥ = omega arith in absurd z

    back : Way set → ((p : ℕ) → p < length set → passes set p ≡ true) → verdict set ≡ holds
    back (all_pass e h) a = e
    back (one_fails p e m) a = absurd (true≢false (sym (a p m.in_set) ∙ m.fails))

missed_no_later : {set : List Task} {p q : ℕ} {b c : Option ℕ} → IsMissed set p b → IsMissed set q c → p ≤ q
missed_no_later {p = p} {q = q} m n = let not_later : ¬ (q < p) = λ l. true≢false (sym (m.earlier_pass q l) ∙ n.fails) in omega arith

missed_unique : {set : List Task} {p q : ℕ} {b c : Option ℕ} → IsMissed set p b → IsMissed set q c → p ≡ q
missed_unique m n = le_antisymm (missed_no_later m n) (missed_no_later n m)

pub verdict_missed : (set : List Task) {p : ℕ} {b : Option ℕ} → (verdict set ≡ missed p b) ↔ IsMissed set p b
verdict_missed set {p} {b} = (there (way set), back (way set))
  where
    there : Way set → verdict set ≡ missed p b → IsMissed set p b
    there (all_pass e h) q = let z : ◌≡◌ {A = ℕ} 0 1 = cc in let z : ⊥ = omega arith in absurd z
    there (one_fails u e m) q = let same : u ≡ p = cc in let name : blocker set u ≡ b = cc in subst₂ (IsMissed set) same name m

    back : Way set → IsMissed set p b → verdict set ≡ missed p b
    back (all_pass e h) m = absurd (true≢false (sym (h p m.in_set) ∙ m.fails))
    back (one_fails u e n) m = e ∙ ap (λ x. missed x (blocker set x)) (missed_unique n m) ∙ ap (missed p) (sym m.named)
