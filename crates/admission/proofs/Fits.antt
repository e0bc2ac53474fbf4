-- A task in range and well formed, read off the tests.
use mathlib.Core.Bool.{true, false, So, ◌&&◌, and-eq-true_iff, true≢false}
use mathlib.Core.List.{List, [], ◌∷◌}
use mathlib.Core.Logic.Iff
use mathlib.Core.Logic.{◌↔◌}
use mathlib.Core.Path.{◌≡◌, refl, sym, ◌∙◌}
use Prim.Native.Nat.{ℕ, suc, ◌≤◌, ◌<◌}
use native.Mathlib.Omega.{arith}
use borrow.Author.Tests.{le-leb}
use lib.Dec.{leb}
use lib.ListN.{length, get_or}
use Rattle.theory.specs.Tasks.{Task}
use Rattle.theory.proofs.Tests.{is_and, is_leb}
use Rattle.sheet.specs.Constants.{greatest_time}
use Rattle.sheet.specs.Admission.{is_time, in_range, none_above, well_formed}
use Rattle.sheet.proofs.InFields.{as_long, below_at}
use Rattle.admission.specs.Inside.Frames.{all_between}
use Rattle.admission.proofs.Frames.{all_between_is}
use Rattle.admission.proofs.Tests.{same_outcome, fails, is_all}

pub record Fits (t : Task) : Type 0 where
  pub period_positive : 1 ≤ t.period
  pub period_in : t.period ≤ greatest_time
  pub lock_in : t.lock ≤ greatest_time
  pub as_many : length t.deadlines ≡ length t.frames
  pub frame_in : (k : ℕ) → k < length t.frames
      → (1 ≤ get_or t.frames k 0) × (get_or t.frames k 0 ≤ get_or t.deadlines k 0) × (get_or t.deadlines k 0 ≤ t.period)

time_is : (n : ℕ) → So (is_time n) ↔ ((1 ≤ n) × (n ≤ greatest_time))
unfolding is_time
time_is n = is_and (is_leb 1 n) (is_leb n greatest_time)

-- as many deadlines as frames, and none of these above its own
below_is : (cs ds : List ℕ) → So (none_above cs ds) ↔ ((length ds ≡ length cs) × ((k : ℕ) → k < length cs → get_or cs k 0 ≤ get_or ds k 0))
unfolding none_above
below_is cs ds = (λ e. (as_long cs ds e, below_at cs ds e), λ h. back cs ds h.0 h.1)
  where
    back : (cs ds : List ℕ) → length ds ≡ length cs → ((k : ℕ) → k < length cs → get_or cs k 0 ≤ get_or ds k 0) → So (none_above cs ds)
    back [] [] e h = refl
    back [] (d ∷ ds) e h = let z : ⊥ = omega arith in absurd z
    back (c ∷ cs) [] e h = let z : ⊥ = omega arith in absurd z
    back (c ∷ cs) (d ∷ ds) e h =
        (and-eq-true_iff (leb c d) (none_above cs ds)).1 (le-leb c d (h 0 (omega arith)), back cs ds (omega arith) (λ k l. h (suc k) (omega arith)))

pub fits_is : (t : Task) → So (in_range t && well_formed t) ↔ Fits t
unfolding in_range well_formed
fits_is t =
    Iff.trans
    (is_and
    (is_and
    (is_and (is_and (time_is t.period) (is_leb t.lock greatest_time)) (is_all is_time time_is t.frames))
    (is_all is_time time_is t.deadlines))
    (is_and (below_is t.frames t.deadlines) (is_all (λ d. leb d t.period) (λ d. is_leb d t.period) t.deadlines))) (
      λ h.
          record {
            period_positive = h.0.0.0.0.0;
            period_in = h.0.0.0.0.1;
            lock_in = h.0.0.0.1;
            as_many = h.1.0.0;
            frame_in = λ k l. ((h.0.0.1 k l).0, h.1.0.1 k l, h.1.1 k (omega (arith, h.1.0.0)));
          },
      λ f. (
        (
          (((f.period_positive, f.period_in), f.lock_in), λ k l. let x = f.frame_in k l in (x.0, omega (arith, x, f.period_in))),
          λ k l. let x = f.frame_in k (omega (arith, f.as_many)) in (omega (arith, x), omega (arith, x, f.period_in)),
        ),
        ((f.as_many, λ k l. (f.frame_in k l).1), λ k l. (f.frame_in k (omega (arith, f.as_many))).2),
      ),
    )

-- with the other numbers in order, the frames and deadlines decide
module _ (t : Task) where
  not_fitting : (Fits t → ⊥) → (in_range t && well_formed t) ≡ false
  not_fitting h = fails _ (λ e. h ((fits_is t).0 e))

  pub not_a_time : is_time t.period ≡ false → (in_range t && well_formed t) ≡ false
  not_a_time e = not_fitting (λ f. true≢false (sym ((time_is t.period).1 (f.period_positive, f.period_in)) ∙ e))

  pub long_lock : greatest_time < t.lock → (in_range t && well_formed t) ≡ false
  long_lock h = not_fitting (λ f. omega (arith, f.lock_in))

  pub frames_decide : length t.deadlines ≡ length t.frames → is_time t.period ≡ true → t.lock ≤ greatest_time
      → all_between t.period t.frames t.deadlines ≡ (in_range t && well_formed t)
  frames_decide many e q = same_outcome _ _ there back
    where
      frames_are : So (all_between t.period t.frames t.deadlines)
          ↔ ((k : ℕ) → k < length t.frames → ((1 ≤ get_or t.frames k 0) × (get_or t.frames k 0 ≤ get_or t.deadlines k 0)) × (get_or t.deadlines k 0 ≤ t.period))
      frames_are = all_between_is t.period t.frames t.deadlines many

      there : all_between t.period t.frames t.deadlines ≡ true → (in_range t && well_formed t) ≡ true
      there b =
          (fits_is t).1
          (record {
            period_positive = ((time_is t.period).0 e).0;
            period_in = ((time_is t.period).0 e).1;
            lock_in = q;
            as_many = many;
            frame_in = λ k l. let x = frames_are.0 b k l in (x.0.0, x.0.1, x.1);
          })

      back : (in_range t && well_formed t) ≡ true → all_between t.period t.frames t.deadlines ≡ true
      back b = frames_are.1 (λ k l. let x = ((fits_is t).0 b).frame_in k l in ((x.0, x.1), x.2))
