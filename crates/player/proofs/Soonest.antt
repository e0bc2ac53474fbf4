-- The soonest moment by which a pending job is due: that it is, that no such moment comes before it as a play goes on, and that no task is late before it.
use Rattle.std.specs.Prelude.{Bool, false, None, fold, position}
use Rattle.std.specs.List.{position_or_len}
use Rattle.std.proofs.Common.{length-take-le}
use Rattle.std.proofs.lemmas.List.{get_or_past}
use Rattle.std.proofs.lemmas.List.Sums.{position_or_len_is}
use mathlib.Core.List.{List, [], ◌∷◌}
use mathlib.Core.Path.{◌≡◌, sym, ap, ◌∙◌}
use Prim.Native.Nat.{ℕ, zero, suc, ◌≤◌, ◌<◌, min}
use native.Mathlib.Decide.{ℕ_discrete, dec_le, dec_lt}
use native.Mathlib.Nat.{le_refl, le_trans, not-suc-le-zero, le_of_suc-le-suc, min-le_left, min-le_right}
use native.Mathlib.Omega.{arith}
use borrow.Author.Tests.{lt-ltb, le-ltb, le-leb, lt-leb, ne_eqb}
use lib.ListN.{length, get_or, take, set}
use lib.Seq.{get_or-set_same, get_or-set_other, get_or-take, take_all}
use Rattle.theory.specs.First.{first}
use Rattle.theory.proofs.Search.{IsFirst, Answer, answer, nothing, it_is, first_some, first_none, first_is, first_is_none, first_same}
use Rattle.player.specs.State.{no_job, never, due_with, soonest_due, late, misser_in, looking_ahead}
use Rattle.player.specs.Shows.{NoSooner}
use Rattle.player.specs.declared.state.Job.{Job}
use Rattle.player.specs.declared.state.Player.{Player}

-- ---- that it is

due_then : (job : Job) → 1 ≤ job.left → due_with job ≡ job.due
due_then job h = rw (ne_eqb job.left 0 (λ e. absurd (omega arith)))

-- the soonest of a moment and those of a row of jobs
abbrev soonest_from : ℕ → List Job → ℕ
soonest_from m jobs = fold (λ soonest job. min soonest (due_with job)) m jobs

from_least : (m : ℕ) (jobs : List Job) → soonest_from m jobs ≤ m
from_least m [] = le_refl m
from_least m (j ∷ js) = le_trans (from_least (min m (due_with j)) js) (min-le_left m (due_with j))

least_from : (m : ℕ) (jobs : List Job) → NoSooner (soonest_from m jobs) (length jobs) jobs
least_from m [] i h l = absurd (not-suc-le-zero h)
least_from m (j ∷ js) zero h l = le_trans (from_least (min m (due_with j)) js) (omega (arith, min-le_right m (due_with j), due_then j l))
least_from m (j ∷ js) (suc i) h l = least_from (min m (due_with j)) js i (le_of_suc-le-suc h) l

pub soonest_least : (jobs : List Job) → NoSooner (soonest_due jobs) (length jobs) jobs
soonest_least jobs = least_from never jobs

-- ---- no such moment comes before it

module _ (soonest n : ℕ) (jobs : List Job) (no_sooner : NoSooner soonest n jobs) where
  -- with a job released
  pub sooner_released : (j : ℕ) (new : Job) → j < length jobs → NoSooner (min soonest new.due) n (set jobs j new)
  sooner_released j new room i h l = go (ℕ_discrete i j)
    where
      go : Dec (i ≡ j) → min soonest new.due ≤ (get_or (set jobs j new) i no_job).due
      go (yes e) = rw (e, get_or-set_same jobs j new no_job room) (min-le_right soonest new.due)
      go (no ne) =
          rw (get_or-set_other jobs j i new no_job ne)
          (le_trans (min-le_left soonest new.due) (no_sooner i h (rw (get_or-set_other jobs j i new no_job ne) at l)))

  -- with a tick given
  pub sooner_served : (j : ℕ) (new : Job) → j < length jobs → new.left ≤ (get_or jobs j no_job).left → new.due ≡ (get_or jobs j no_job).due
      → NoSooner soonest n (set jobs j new)
  sooner_served j new room less same i h l = go (ℕ_discrete i j)
    where
      go : Dec (i ≡ j) → soonest ≤ (get_or (set jobs j new) i no_job).due
      go (yes e) =
          let k : 1 ≤ new.left = rw (e, get_or-set_same jobs j new no_job room) at l in
          rw (e, get_or-set_same jobs j new no_job room, same) (no_sooner j (rw e at h) (omega arith))
      go (no ne) = rw (get_or-set_other jobs j i new no_job ne) (no_sooner i h (rw (get_or-set_other jobs j i new no_job ne) at l))

-- ---- looking ahead

module _ (s : Player) (t : ℕ) where
  pub not_reached : t < s.soonest → looking_ahead s t ≡ s
  not_reached h = rw (lt-leb s.soonest t h)

  pub reached : s.soonest ≤ t → looking_ahead s t ≡ record { jobs = s.jobs; soonest = soonest_due s.jobs; picked = s.picked; to_come = s.to_come }
  reached h = rw (le-leb s.soonest t h)

-- ---- no task is late before it

module _ (test : Job → Bool) (jobs : List Job) where
  abbrev passes_at : ℕ → Bool
  passes_at i = test (get_or jobs i no_job)

  -- the first place that passes is the first number whose job passes
  position_first : position test jobs ≡ first 0 (length jobs) (λ i. test (get_or jobs i no_job))
  position_first = go (answer (first 0 (length jobs) passes_at))
    where
      go : Answer (first 0 (length jobs) passes_at) → position test jobs ≡ first 0 (length jobs) passes_at
      go (nothing e) =
          let none : position_or_len test jobs ≡ length jobs =
          position_or_len_is test jobs (length jobs) no_job (le_refl _) (λ k h. first_none 0 (length jobs) passes_at e k (omega arith) (omega arith)) (λ h. absurd (omega arith)) in
          rw (none, le-ltb (length jobs) (length jobs) (le_refl _)) (sym e)
      go (it_is i e) =
          let is : IsFirst 0 (length jobs) passes_at i = first_some 0 (length jobs) passes_at e in
          let here : position_or_len test jobs ≡ i =
          position_or_len_is test jobs i no_job (omega (arith, is.before)) (λ k h. is.earlier k (omega arith) h) (λ _. is.passes) in
          rw (here, lt-ltb i (length jobs) (omega (arith, is.before))) (sym e)

module _ (s : Player) (n t : ℕ) where
  abbrev late_at : ℕ → Bool
  late_at i = late (get_or s.jobs i no_job) t

  -- behind the last slot no task is late
  late_past : (u : ℕ) → length s.jobs ≤ u → late_at u ≡ false
  late_past u h = ap (λ j. late j t) (get_or_past s.jobs u no_job h)

  first_past : length s.jobs ≤ n → first 0 (length s.jobs) late_at ≡ first 0 n late_at
  first_past past = go (answer (first 0 (length s.jobs) late_at))
    where
      none_late : first 0 (length s.jobs) late_at ≡ None → (u : ℕ) → Dec (u < length s.jobs) → late_at u ≡ false
      none_late e u (yes h) = first_none 0 (length s.jobs) late_at e u (omega arith) (omega arith)
      none_late e u (no h) = late_past u (omega arith)

      go : Answer (first 0 (length s.jobs) late_at) → first 0 (length s.jobs) late_at ≡ first 0 n late_at
      go (nothing e) = e ∙ sym (first_is_none 0 n late_at (λ u _ h. none_late e u (dec_lt u (length s.jobs))))
      go (it_is i e) =
          let is : IsFirst 0 (length s.jobs) late_at i = first_some 0 (length s.jobs) late_at e in
          let here : IsFirst 0 n late_at i = record { from = is.from; before = omega (arith, is.before); passes = is.passes; earlier = is.earlier } in
          e ∙ sym (first_is 0 n late_at here)

  -- the tasks looked at are the first n
  first_taken : Dec (n ≤ length s.jobs) → first 0 (length (take n s.jobs)) (λ i. late (get_or (take n s.jobs) i no_job) t) ≡ first 0 n late_at
  first_taken (yes room) =
      rw (length-take-le n s.jobs room)
      (first_same 0 n (λ i. late (get_or (take n s.jobs) i no_job) t) late_at (λ u h. ap (λ j. late j t) (get_or-take n s.jobs u no_job (omega arith))))
  first_taken (no past) = rw (take_all n s.jobs (omega arith)) (first_past (omega arith))

  from_soonest : s.soonest ≤ t → misser_in s n t ≡ first 0 n late_at
  from_soonest h = rw (le-ltb t s.soonest h) (position_first (λ job. late job t) (take n s.jobs) ∙ first_taken (dec_le n (length s.jobs)))

  -- before the soonest moment there is nothing to find
  pub misser_is : NoSooner s.soonest n s.jobs → misser_in s n t ≡ first 0 n late_at
  misser_is no_sooner = go (dec_lt t s.soonest)
    where
      not_late : t < s.soonest → (u : ℕ) → u < n → late_at u ≡ false
      not_late h u l = cases (ℕ_discrete (get_or s.jobs u no_job).left 0)
        where
          cases : Dec ((get_or s.jobs u no_job).left ≡ 0) → late_at u ≡ false
          cases (yes e) = rw (le-ltb 0 (get_or s.jobs u no_job).left (omega arith))
          cases (no ne) =
              let later = no_sooner u l (omega arith) in
              rw (lt-ltb 0 (get_or s.jobs u no_job).left (omega arith), ne_eqb (get_or s.jobs u no_job).due t (λ e. absurd (omega arith)))

      go : Dec (t < s.soonest) → misser_in s n t ≡ first 0 n late_at
      go (yes h) = rw (lt-ltb t s.soonest h) (sym (first_is_none 0 n late_at (λ u _ l. not_late h u (omega arith))))
      go (no h) = from_soonest (omega arith)
