-- The verdict by looking at the places from the front.
use Rattle.std.specs.Prelude.{None, Some, is_none}
use Rattle.std.specs.List.{position, position_or_len}
use Rattle.std.proofs.lemmas.List.Sums.{fails_before_first}
use Rattle.std.proofs.lemmas.List.Quantifiers.{position-Some}
use mathlib.Core.Bool.{Bool, true, false, not}
use mathlib.Core.List.{List}
use mathlib.Core.Path.{◌≡◌, refl, sym, ap, ◌∙◌}
use Prim.Native.Nat.{ℕ, ◌+◌, ◌≤◌, ◌<◌}
use native.Mathlib.Decide.{ℕ_discrete, dec_lt}
use native.Mathlib.Nat.{min-eq_left}
use native.Mathlib.Omega.{arith}
use borrow.Author.Tests.{not-true, not-false, lt-ltb}
use lib.ListN.{length, get_or, take, length-append, length-take}
use lib.Seq.{get_or-take}
use Rattle.theory.specs.Tasks.{Task}
use Rattle.theory.specs.Analysis.{passes, blocker, verdict}
use Rattle.theory.proofs.Verdict.{verdict_holds, verdict_missed}
use Rattle.analysis.specs.Times.{number_at, blocker_number, verdict_number, slots_by, slots_found}
use Rattle.analysis.specs.Findings.{fails, no_finding, finding_at, findings_of}
use Rattle.analysis.specs.declared.Finding.{Finding}
use Rattle.analysis.specs.declared.Verdict.TheVariants.{Holds, Missed}
use Rattle.analysis.proofs.ByPlace.{length_findings, finding_is}

-- a finding has times where its task passes
none_fails : (b : Bool) (l : List ℕ) → is_none (slots_by b l) ≡ not b
unfolding slots_by
none_fails true l = refl
none_fails false l = refl

module _ (set : List Task) where
  -- every task before place p passes
  unfoldable pub Passed : ℕ → Type 0
  Passed p = (q : ℕ) → q < p → passes set q ≡ true

  pub none_passed : Passed 0
  unfolding Passed
  none_passed q h = let z : ⊥ = omega arith in absurd z

  pub one_passed : (p : ℕ) → Passed p → passes set p ≡ true → Passed (p + 1)
  unfolding Passed
  one_passed p a e q h = go (ℕ_discrete q p)
    where
      go : Dec (q ≡ p) → passes set q ≡ true
      go (yes s) = rw s e
      go (no ne) = a q (omega arith)

  all_passed : (order : List ℕ) (p : ℕ) → Passed p → length set ≤ p → Holds ≡ verdict_number order (verdict set)
  unfolding Passed verdict_number
  all_passed order p a h = sym (ap (verdict_number order) ((verdict_holds set).1 (λ q l. a q (omega arith))))

  first_missed : (order : List ℕ) (p : ℕ) → Passed p → p < length set → passes set p ≡ false
      → Missed (number_at order p) (blocker_number order (blocker set p)) ≡ verdict_number order (verdict set)
  unfolding Passed verdict_number
  first_missed order p a h e =
      sym (ap (verdict_number order) ((verdict_missed set {p = p} {b = blocker set p}).1 (record { in_set = h; fails = e; earlier_pass = a; named = refl })))

  -- ---- the verdict from the findings of the places

  module _ (order : List ℕ) (findings : List Finding) (found : findings ≡ findings_of order set) (n : ℕ) (many : length set ≡ n) where
    abbrev used : List Finding
    used = take n findings

    pub used_length : length used ≡ n
    unfolding findings_of
    used_length =
        rw found (length-take n (findings_of order set) ∙ min-eq_left (simp (length-append, length_findings order set 0 (length set)) (omega arith)))

    -- what a finding says of its place
    said : (p : ℕ) → p < n → fails (get_or used p no_finding) ≡ not (passes set p)
    unfolding finding_at slots_found
    said p h =
        ap fails (get_or-take n findings p no_finding h ∙ ap (λ (l : List Finding). get_or l p no_finding) found ∙ finding_is order set p no_finding (omega arith))
        ∙ none_fails (passes set p) _

    pub first_fails : (p : ℕ) → position fails used ≡ Some p → p < length set
    first_fails p e = omega (arith, position-Some fails used p no_finding e, used_length)

    pub missed_first : (p : ℕ) → position fails used ≡ Some p → Missed (number_at order p) (blocker_number order (blocker set p)) ≡ verdict_number order (verdict set)
    unfolding Passed
    missed_first p e =
        let (inside, here, before) = position-Some fails used p no_finding e in
        first_missed order p (λ q h. not-false _ (sym (said q (omega (arith, used_length))) ∙ before q h)) (first_fails p e)
        (not-true _ (sym (said p (omega (arith, used_length))) ∙ here))

    pub holds_all : position fails used ≡ None → Holds ≡ verdict_number order (verdict set)
    unfolding Passed
    holds_all e = go (dec_lt (position_or_len fails used) (length used))
      where
        go : Dec (position_or_len fails used < length used) → Holds ≡ verdict_number order (verdict set)
        go (yes l) = let found : Some (position_or_len fails used) ≡ None = rw (lt-ltb _ _ l) at e in cc
        go (no l) =
            all_passed order n (λ q h. not-false _ (sym (said q h) ∙ fails_before_first fails used q no_finding (omega (arith, used_length)))) (omega arith)
