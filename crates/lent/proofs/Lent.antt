-- What a call with lent memory answers and leaves: turned away by its own checks, by the room, or done.
use Rattle.std.specs.Prelude.{None, Option, Some, Result, Ok, Err}
use mathlib.Core.List.{List, []}
use mathlib.Core.Path.{◌≡◌, refl, sym, ◌∙◌}
use Prim.Native.Nat.{◌≤◌, ◌<◌}
use native.Mathlib.Decide.{dec_lt}
use native.Mathlib.Omega.{arith}
use borrow.Author.Tests.{lt-ltb, le-ltb}
use lib.ListN.{length}
use Rattle.lent.specs.Checks.{first_refusal}
use Rattle.lent.specs.Lent.{Call, laid, refusal_of, answered, left_after}
use Rattle.lent.proofs.Checks.{applies, passed_over, no_check, none_first, some_first, Each, each_append, each_first}

module _ {R A X : Type 0} (full : R) (call : Call R A X) (memory : List A) where
  -- the answer and the memory of a refusal, and of a call that is done
  pub record TurnedAway (r : R) : Type 0 where
    pub why : refusal_of full call memory ≡ Some r
    pub answer : answered full call memory ≡ Err r
    pub unchanged : left_after full call memory ≡ memory

  pub record Done : Type 0 where
    pub admitted : first_refusal call.checks ≡ None
    pub room : length call.writes ≤ length memory
    pub answer : answered full call memory ≡ Ok call.says
    pub holds : left_after full call memory ≡ laid call.writes memory

  turned : (r : R) → refusal_of full call memory ≡ Some r → TurnedAway r
  unfolding answered left_after
  turned r e = record { why = e; answer = rw (e, answered); unchanged = rw (e, left_after) }

  -- its own checks turn it away
  pub by_checks : (r : R) → first_refusal call.checks ≡ Some r → TurnedAway r
  unfolding refusal_of
  by_checks r e = turned r (some_first call.checks _ r e)

  -- the memory is too short
  pub by_room : first_refusal call.checks ≡ None → length memory < length call.writes → TurnedAway full
  unfolding refusal_of
  by_room e h = turned full (none_first call.checks _ e ∙ applies _ full [] (lt-ltb (length memory) (length call.writes) h))

  -- it is done
  pub done : first_refusal call.checks ≡ None → length call.writes ≤ length memory → Done
  unfolding refusal_of answered left_after
  done e h =
      let n : refusal_of full call memory ≡ None = none_first call.checks _ e ∙ passed_over _ full [] (le-ltb (length memory) (length call.writes) h) ∙ no_check in
      record { admitted = e; room = h; answer = rw (n, answered); holds = rw (n, left_after) }

  -- what a call that is turned away or done has to answer and to leave
  pub turned_tells : {r : R} → TurnedAway r → (Err r ≡ answered full call memory) × (memory ≡ left_after full call memory)
  turned_tells t = (sym t.answer, sym t.unchanged)

  pub done_tells : Done → (Ok call.says ≡ answered full call memory) × (laid call.writes memory ≡ left_after full call memory)
  done_tells d = (sym d.answer, sym d.holds)

  -- there is no third way
  pub data Told : Type 0 where
    turned_away : (r : R) → TurnedAway r → Told
    is_done : Done → Told

  pub told : Told
  told = go (first_refusal call.checks) refl
    where
      roomy : first_refusal call.checks ≡ None → Dec (length memory < length call.writes) → Told
      roomy e (yes h) = turned_away full (by_room e h)
      roomy e (no h) = is_done (done e (omega arith))

      go : (o : Option R) → first_refusal call.checks ≡ o → Told
      go None e = roomy e (dec_lt (length memory) (length call.writes))
      go (Some r) e = turned_away r (by_checks r e)

  -- what is true of each refusal that its checks can give, and of the want of room, is true of the one that it gives
  pub each_refusal : (P : R → Type 0) → Each P call.checks → P full → (r : R) → refusal_of full call memory ≡ Some r → P r
  unfolding refusal_of
  each_refusal P each last r e = each_first P _ (each_append P call.checks _ each (λ _. (λ _. last, λ _. tt))) r e
