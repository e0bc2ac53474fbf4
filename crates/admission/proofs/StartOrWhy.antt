-- The test for a start frame answers the start exactly if some frame qualifies, and otherwise why none does.
use Rattle.std.specs.Prelude.{Err, Ok, Option, unwrap_or}
use mathlib.Core.Logic.{◌↔◌}
use mathlib.Core.Path.{◌≡◌, ap}
use Prim.Native.Nat.{ℕ, ◌≤◌}
use Rattle.theory.specs.First.{first}
use Rattle.theory.specs.Tasks.{Task, frame_count, qualifies, start_frame, Monotonic}
use Rattle.theory.specs.Reason.{IsReason}
use Rattle.theory.proofs.Laws.{monotonic_test, IsStart, start_is, reason_is}
use Rattle.theory.proofs.Search.{Answer, nothing, it_is, answer, some_found, none_found}
use Rattle.theory.proofs.Tests.{refused}
use Rattle.sheet.specs.Admission.{reason_of}
use Rattle.sheet.specs.declared.Reason.{Reason}
use Rattle.admission.specs.Start.{start_of}
use Rattle.admission.proofs.Starts.{found_at, found_nowhere, start_by}

module _ (t : Task) where
  -- The frame that it answers is the start frame.
  pub answers_the_start : (s : ℕ) → start_of t ≡ Ok s → IsStart t s
  unfolding start_of start_frame
  answers_the_start s e =
      let found = found_at (reason_of t) (first 0 (frame_count t) (qualifies t)) s e in
      rw (ap (λ (o : Option ℕ). unwrap_or o 0) found) at (start_is t ((monotonic_test t).0 (some_found found)))

  -- It answers that there is none exactly if no frame qualifies.
  pub answers_none : (start_of t ≡ Err (reason_of t)) ↔ (¬ Monotonic t)
  unfolding start_of
  answers_none = (λ e. refused (none_found (found_nowhere (reason_of t) (first 0 (frame_count t) (qualifies t)) _ e).0) (monotonic_test t), λ none_starts. go none_starts (answer _))
    where
      go : ¬ Monotonic t → Answer (first 0 (frame_count t) (qualifies t)) → start_of t ≡ Err (reason_of t)
      go none_starts (nothing e) = start_by t e
      go none_starts (it_is s e) = absurd (none_starts ((monotonic_test t).0 (some_found e)))

  -- What it then says is the reason.
  pub answers_why : (why : Reason) → start_of t ≡ Err why → 1 ≤ frame_count t → IsReason t why.frame why.length why.other
  unfolding start_of reason_of
  answers_why why e has =
      let (none_found_there, same) = found_nowhere (reason_of t) (first 0 (frame_count t) (qualifies t)) why e in
      rw same (reason_is t has (refused (none_found none_found_there) (monotonic_test t)))
