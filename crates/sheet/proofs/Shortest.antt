-- The deadlines of a record's frames: one of them, and the shortest.
use Rattle.std.specs.Prelude.{unwrap_or}
use Rattle.std.specs.List.{reduce}
use Rattle.std.proofs.Common.{◌≡◌, ℕ, ◌%◌, min, List, [], ◌∷◌, length, get_or, fold, sym, refl, ap, ◌∙◌, arith}
use lib.ListN.{get_or-eq_default}
use Rattle.theory.specs.Tasks.{deadline_of, frame_count, smallest}
use Rattle.sheet.specs.Constants.{most_frames}
use Rattle.sheet.specs.Tasks.{task_in}
use Rattle.sheet.specs.declared.Task.{Task as Record}
use Rattle.sheet.proofs.Records.{as_many_slots}

-- ---- the smallest of a list, as the iterator's `min` finds it

smallest_folded : (d : ℕ) (ds : List ℕ) → fold min d ds ≡ smallest (d ∷ ds)
unfolding smallest
smallest_folded d [] = refl
smallest_folded d (e ∷ []) = refl
smallest_folded d (e ∷ f ∷ ds) =
    let later : fold min (min (min d e) f) ds ≡ smallest (min d e ∷ f ∷ ds) = smallest_folded (min d e) (f ∷ ds) in
    later ∙ omega arith

pub smallest_reduced : (ds : List ℕ) → unwrap_or (reduce min ds) 0 ≡ smallest ds
unfolding smallest
smallest_reduced [] = refl
smallest_reduced (d ∷ ds) = smallest_folded d ds

-- ---- of a record: its deadlines are as many as its frames

module _ (r : Record) (frames_room : length r.frames ≡ most_frames) (deadlines_room : length r.deadlines ≡ most_frames) (ds : List ℕ) (ds_are : ds ≡ (task_in r).deadlines) where
  pub deadline_found : (k : ℕ) → get_or ds (k % length ds) 0 ≡ deadline_of (task_in r) k
  unfolding deadline_of frame_count
  deadline_found k = rw ds_are (ap (λ (n : ℕ). get_or (task_in r).deadlines (k % n) 0) (as_many_slots r frames_room deadlines_room))

  pub no_deadline : (k : ℕ) → length ds ≡ 0 → 0 ≡ deadline_of (task_in r) k
  no_deadline k none = sym (get_or-eq_default ds 0 {n = k % length ds} (omega arith)) ∙ deadline_found k
