-- The start frame: frame by frame and length by length, and from the frames alone.
use Rattle.std.specs.Prelude.{Err, None, Ok, Option, Some}
use Rattle.std.specs.List.{find, list_all, range_with_len}
use mathlib.Core.Bool.{Bool}
use mathlib.Core.Path.{◌≡◌, refl, ap, ap₂, ◌∙◌, fun_ext}
use Prim.Native.Nat.{ℕ, zero, suc, ◌+◌}
use lib.Dec.{leb}
use lib.ListN.{length}
use mathlib.Core.List.{List}
use Rattle.theory.specs.First.{first, every, found}
use Rattle.theory.specs.Tasks.{Task, frame_count, frame, work, largest_frame, qualifies}
use Rattle.theory.specs.Reason.{exceeds, exceeding, exceeded, exceeded_length, exceeding_frame}
use Rattle.theory.proofs.Search.{every_at, every_is}
use Rattle.theory.proofs.Work.{work_zero, work_suc}
use Rattle.sheet.specs.Admission.{reason_of}
use Rattle.sheet.specs.declared.Reason.{Reason}
use Rattle.admission.specs.Inside.Frames.{of_frames, from_at_least}
use Rattle.admission.specs.Start.{start_found, start_of}
use Rattle.admission.proofs.Rows.{every_listed, first_listed}
use Rattle.admission.proofs.Tests.{same_outcome}

every_swap : (a m b n : ℕ) (test : ℕ → ℕ → Bool)
    → every a m (λ x. every b n (λ y. test x y)) ≡ every b n (λ y. every a m (λ x. test x y))
every_swap a m b n test =
    same_outcome _ _
    (λ e. every_is b n _ (λ y l u. every_is a m _ (λ x l' u'. every_at b n (λ y. test x y) (every_at a m (λ x. every b n (λ y. test x y)) e x l' u') y l u)))
    (λ e. every_is a m _ (λ x l u. every_is b n _ (λ y l' u'. every_at a m (λ x. test x y) (every_at b n (λ y. every a m (λ x. test x y)) e y l' u') x l u)))

-- the frames that qualify, as `find` looks through them
pub starts_found : (frames : List ℕ) → find (qualifies (of_frames frames)) (range_with_len 0 (length frames)) ≡ first 0 (frame_count (of_frames frames)) (qualifies (of_frames frames))
unfolding frame_count of_frames
starts_found frames = first_listed 0 (length frames) (qualifies (of_frames frames))

-- what was found, from the answer
pub found_at : (why : Reason) (o : Option ℕ) (s : ℕ) → start_found why o ≡ Ok s → o ≡ Some s
found_at why None s e = cc
found_at why (Some n) s e = ap Some (cc)

pub found_nowhere : (why : Reason) (o : Option ℕ) (said : Reason) → start_found why o ≡ Err said → (o ≡ None) × (said ≡ why)
found_nowhere why None said e = (refl, cc)
found_nowhere why (Some n) said e = cc

module _ (t : Task) where
  -- a frame qualifies that is at least every other, at every length
  pub qualifies_by : (s : ℕ) → list_all (from_at_least t s) (range_with_len 0 (frame_count t)) ≡ qualifies t s
  unfolding qualifies from_at_least
  qualifies_by s = every_listed 0 (frame_count t) (from_at_least t s) ∙ every_swap 0 (frame_count t) 1 (frame_count t) (λ k n. leb (work t k n) (work t s n))

  -- the answer, by what the search found
  pub start_by : {o : Option ℕ} → first 0 (frame_count t) (qualifies t) ≡ o → start_of t ≡ start_found (reason_of t) o
  unfolding start_of
  start_by e = rw e

  -- what the frames alone decide
  frame_of_frames : (k : ℕ) → frame (of_frames t.frames) k ≡ frame t k
  unfolding frame frame_count of_frames
  frame_of_frames k = refl

  pub work_of_frames : (k n : ℕ) → work (of_frames t.frames) k n ≡ work t k n
  work_of_frames k zero = rw (work_zero (of_frames t.frames) k, work_zero t k)
  work_of_frames k (suc n) = rw (work_suc (of_frames t.frames) k n, work_suc t k n, work_of_frames k n, frame_of_frames (k + n))

  qualifies_of_frames : (s : ℕ) → qualifies (of_frames t.frames) s ≡ qualifies t s
  unfolding qualifies frame_count of_frames
  qualifies_of_frames s = simp work_of_frames

  exceeds_of_frames : (s n k : ℕ) → exceeds (of_frames t.frames) s n k ≡ exceeds t s n k
  unfolding exceeds
  exceeds_of_frames s n k = rw (work_of_frames s n, work_of_frames k n)

  exceeding_of_frames : (s n : ℕ) → exceeding (of_frames t.frames) s n ≡ exceeding t s n
  unfolding exceeding frame_count of_frames
  exceeding_of_frames s n = ap (λ (q : ℕ → Bool). first 0 (frame_count t) q) (fun_ext (exceeds_of_frames s n))

  exceeded_of_frames : (s : ℕ) → exceeded (of_frames t.frames) s ≡ exceeded t s
  unfolding exceeded frame_count of_frames
  exceeded_of_frames s = ap (λ (q : ℕ → Bool). first 1 (frame_count t) q) (fun_ext (λ n. ap found (exceeding_of_frames s n)))

  pub largest_of_frames : largest_frame (of_frames t.frames) ≡ largest_frame t
  unfolding largest_frame frame frame_count of_frames
  largest_of_frames = refl

  reason_of_frames : reason_of (of_frames t.frames) ≡ reason_of t
  unfolding reason_of exceeded_length exceeding_frame
  reason_of_frames = rw (largest_of_frames, exceeded_of_frames, exceeding_of_frames)

  pub start_of_frames : start_of (of_frames t.frames) ≡ start_of t
  unfolding start_of frame_count of_frames
  start_of_frames = ap₂ (λ (why : Reason) (q : ℕ → Bool). start_found why (first 0 (frame_count t) q)) reason_of_frames (fun_ext qualifies_of_frames)
