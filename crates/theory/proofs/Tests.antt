-- Admitted and Legal as tests that compute, each equivalent to what it tests.
use Rattle.std.specs.Prelude.{None, Option, Some}
use mathlib.Core.Bool.{Bool, true, false, ◌&&◌, So, and-eq-true_iff, true≢false}
use mathlib.Core.List.{List}
use mathlib.Core.Logic.Iff
use mathlib.Core.Logic.{◌↔◌}
use Rattle.theory.proofs.Options.{none_ne_some}
use mathlib.Core.Path.{◌≡◌, refl, sym, ◌∙◌}
use Prim.Native.Nat.{ℕ, ◌≤◌, ◌<◌}
use native.Mathlib.Omega.{arith}
use borrow.Author.Tests.{leb-true, le-leb, ltb-true, lt-ltb, eqb-true, eq-eqb}
use lib.Dec.{leb, ltb, eqb}
use lib.ListN.{length}
use Rattle.theory.specs.First.{first, every, found}
use Rattle.theory.specs.Tasks.{Task, task_at, frame_count, frame, deadline_of, largest, qualifies, WellFormed, AdmittedTask, Admitted}
use Rattle.theory.specs.Runs.{Lane, Run, pick, state_at, seen_at, longest_stretch, LegalTick, Legal}
use Rattle.theory.proofs.Search.{every_at, every_is}
use Rattle.theory.proofs.Work.{monotonic_test}

-- ---- a test and what it tests

pub is_and : {a b : Bool} {A B : Type 0} → So a ↔ A → So b ↔ B → So (a && b) ↔ (A × B)
is_and {a} {b} f g =
    (λ e. (f.0 ((and-eq-true_iff a b).0 e).0, g.0 ((and-eq-true_iff a b).0 e).1), λ x. (and-eq-true_iff a b).1 (f.1 x.0, g.1 x.1))

is_every : (n : ℕ) {test : ℕ → Bool} {P : ℕ → Type 0} → ((u : ℕ) → So (test u) ↔ P u) → So (every 0 n test) ↔ ((u : ℕ) → u < n → P u)
is_every n {test} f =
    (λ e u h. (f u).0 (every_at 0 n test e u (omega arith) (omega arith)), λ h. every_is 0 n test (λ u _ l. (f u).1 (h u (omega arith))))

pub is_leb : (a b : ℕ) → So (leb a b) ↔ (a ≤ b)
is_leb a b = (leb-true a b, le-leb a b)

pub is_eqb : (a b : ℕ) → So (eqb a b) ↔ (a ≡ b)
is_eqb a b = (eqb-true a b, eq-eqb a b)

is_ltb : (a b : ℕ) → So (ltb a b) ↔ (a < b)
is_ltb a b = (ltb-true a b, lt-ltb a b)

-- ---- admitted

unfoldable pub well_formed_test : Task → Bool
well_formed_test t =
    (leb 1 (frame_count t) && eqb (length t.deadlines) (frame_count t))
    && every 0 (frame_count t) (λ k. leb 1 (frame t k) && (leb (frame t k) (deadline_of t k) && leb (deadline_of t k) t.period))

pub well_formed_is : (t : Task) → (well_formed_test t ≡ true) ↔ WellFormed t
unfolding well_formed_test
well_formed_is t =
    Iff.trans
    (is_and (is_and (is_leb 1 (frame_count t)) (is_eqb (length t.deadlines) (frame_count t)))
    (is_every (frame_count t) (λ k. is_and (is_leb 1 (frame t k)) (is_and (is_leb (frame t k) (deadline_of t k)) (is_leb (deadline_of t k) t.period))))) (
      λ h.
          record {
            has_frame = h.0.0;
            each_deadline = h.0.1;
            frame_positive = λ k l. (h.1 k l).0;
            frame_in_deadline = λ k l. (h.1 k l).1.0;
            deadline_in_period = λ k l. (h.1 k l).1.1;
          },
      λ w. ((w.has_frame, w.each_deadline), λ k l. (w.frame_positive k l, (w.frame_in_deadline k l, w.deadline_in_period k l))),
    )

unfoldable pub admitted_task_test : Task → Bool
admitted_task_test t = well_formed_test t && (leb t.lock (largest t.frames) && found (first 0 (frame_count t) (qualifies t)))

pub admitted_task_is : (t : Task) → (admitted_task_test t ≡ true) ↔ AdmittedTask t
unfolding admitted_task_test
admitted_task_is t =
    Iff.trans (is_and (well_formed_is t) (is_and (is_leb t.lock (largest t.frames)) (monotonic_test t)))
    (λ h. record { well_formed = h.0; lock_rule = h.1.0; monotonic = h.1.1 }, λ a. (a.well_formed, (a.lock_rule, a.monotonic)))

unfoldable pub admitted_test : List Task → Bool
admitted_test set = leb 1 (length set) && every 0 (length set) (λ p. admitted_task_test (task_at set p))

pub admitted_is : (set : List Task) → (admitted_test set ≡ true) ↔ Admitted set
unfolding admitted_test
admitted_is set =
    Iff.trans (is_and (is_leb 1 (length set)) (is_every (length set) (λ p. admitted_task_is (task_at set p))))
    (λ h. record { some_task = h.0; each_task = h.1 }, λ a. (a.some_task, a.each_task))

-- ---- legal

unfoldable pub release_test : Task → ℕ → Lane → Option ℕ → Bool
release_test task t l None = true
release_test task t l (Some w) = leb l.free_from t && leb w (frame task l.next)

release_is : (task : Task) (t : ℕ) (l : Lane) (o : Option ℕ)
    → (release_test task t l o ≡ true) ↔ ((w : ℕ) → o ≡ Some w → (l.free_from ≤ t) × (w ≤ frame task l.next))
unfolding release_test
release_is task t l None = (λ _ w e. absurd (none_ne_some w e), λ _. refl)
release_is task t l (Some v) =
    Iff.trans (is_and (is_leb l.free_from t) (is_leb v (frame task l.next)))
    (λ h w e. let same : v ≡ w = cc in (h.0, rw (← same) h.1), λ h. h v refl)

unfoldable pub legal_tick_test : List Task → Run → ℕ → Bool
legal_tick_test set run t =
    every 0 (length set) (λ p. release_test (task_at set p) t ((state_at set run t).lanes p) ((run.input t).release_of p))
    && leb (run.input t).stretch (longest_stretch set (seen_at set run t).to_come (pick set (seen_at set run t)))

pub legal_tick_is : (set : List Task) (run : Run) (t : ℕ) → (legal_tick_test set run t ≡ true) ↔ LegalTick set run t
unfolding legal_tick_test
legal_tick_is set run t =
    Iff.trans
    (is_and
    (is_every (length set) (λ p. release_is (task_at set p) t ((state_at set run t).lanes p) ((run.input t).release_of p)))
    (is_leb (run.input t).stretch (longest_stretch set (seen_at set run t).to_come (pick set (seen_at set run t))))) (
      λ h. record { apart = λ p w l e. (h.0 p l w e).0; work_fits = λ p w l e. (h.0 p l w e).1; stretch_fits = h.1 },
      λ x. (λ p l w e. (x.apart p w l e, x.work_fits p w l e), x.stretch_fits),
    )

unfoldable pub legal_test : List Task → Run → Bool
legal_test set run =
    every 0 (length set) (λ p. ltb (run.first_frame p) (frame_count (task_at set p))) && every 0 run.ticks (legal_tick_test set run)

pub legal_is : (set : List Task) (run : Run) → (legal_test set run ≡ true) ↔ Legal set run
unfolding legal_test
legal_is set run =
    Iff.trans
    (is_and
    (is_every (length set) (λ p. is_ltb (run.first_frame p) (frame_count (task_at set p))))
    (is_every run.ticks (legal_tick_is set run)))
    (λ h. record { first_frames = h.0; each_tick = h.1 }, λ x. (x.first_frames, x.each_tick))

-- a test that fails
pub refused : {b : Bool} {A : Type 0} → b ≡ false → So b ↔ A → ¬ A
refused e i a = true≢false (sym (i.1 a) ∙ e)
