-- What an entry that analyses has answered and left keeps what we sign for.
use Rattle.std.specs.Prelude.{None, Some, Result, Ok, Err}
use mathlib.Core.List.{List}
use mathlib.Core.Logic.{◌⊎◌, inl, inr}
use mathlib.Core.Path.{◌≡◌, refl, subst}
use Prim.Native.Nat.{ℕ, ◌+◌, ◌*◌, ◌/◌, ◌%◌, ◌^◌, ◌≤◌, ◌<◌}
use native.Mathlib.Decide.{dec_lt}
use native.Mathlib.Omega.{arith}
use lib.ListN.{length, get_or}
use Rattle.theory.specs.Tasks.{Task, task_at, frame_count, deadline_of}
use Rattle.theory.proofs.Laws.{deadline_at}
use Rattle.lent.specs.Lent.{laid}
use Rattle.sheet.specs.Constants.{most_tasks}
use Rattle.sheet.specs.Refusals.{number_of}
use Rattle.sheet.specs.declared.Refusal.{Refusal}
use Rattle.sheet.proofs.Turns.{time_at}
use Rattle.sheet.proofs.Analysable.{each_at}
use Rattle.sheet.proofs.Carried.{carried_fit}
use Rattle.analysis.specs.Times.{outcome_of, times_of}
use Rattle.analysis.specs.Answers.{code, decision}
use Rattle.analysis.specs.declared.Verdict.{Verdict}
use Rattle.analysis.specs.declared.Verdict.TheVariants.{Holds, Missed}
use Rattle.analysis.specs.declared.Decision.{Decision}
use Rattle.analysis.proofs.Entries.{few, times_long}
use Rattle.signed.specs.Claims.{said, outcome_told, count_told, count_said, Kept, time_in, Timed, Untimed, Signed}
use Rattle.signed.specs.Numbers.{IsNumber, it_holds, it_refuses, task_misses, task_misses_alone}
use Rattle.signed.proofs.Times.{each, signed}
use Rattle.signed.proofs.Numbers.{refusal_range, FewOf, InBits}
use Rattle.signed.proofs.Memory.{stored, time_laid, surplus_kept}
use Rattle.signed.proofs.Entries.{Sound, Analysed, is_refused, is_analysed}

module _ (policy : ℕ) (tasks : List Task) (sound : Sound policy tasks) where
  eight : (i : ℕ) → frame_count (task_at tasks i) ≤ 8
  eight = few tasks sound.carried.counted

  long : length (times_of policy tasks) ≡ 8 * length tasks
  long = times_long policy tasks sound.carried.counted

  -- a time is within a deadline, and so small
  deadline_small : (i k : ℕ) → i < length tasks → k < frame_count (task_at tasks i) → deadline_of (task_at tasks i) k < 2 ^ 32
  unfolding frame_count
  deadline_small i k h l =
      let t = task_at tasks i in
      let f = each_at (carried_fit sound.carried) i h in
      rw (deadline_at t k l) (omega (arith, time_at t.deadlines k f.deadlines_fit (omega (arith, l, f.as_many))))

  times_small : (j : ℕ) → j < length (times_of policy tasks) → get_or (times_of policy tasks) j 0 < 2 ^ 32
  times_small j h = subst (λ (m : ℕ). get_or (times_of policy tasks) m 0 < 2 ^ 32) here (go (each policy tasks sound.admitted eight (λ m. get_or (times_of policy tasks) m 0) (λ m l. refl) (j / 8) inside))
    where
      here : 8 * (j / 8) + j % 8 ≡ j
      here = omega arith

      inside : j / 8 < length tasks
      inside = omega (arith, long)

      go : Timed policy tasks (λ m. get_or (times_of policy tasks) m 0) (j / 8) ⊎ Untimed policy tasks (λ m. get_or (times_of policy tasks) m 0) (j / 8)
          → get_or (times_of policy tasks) (8 * (j / 8) + j % 8) 0 < 2 ^ 32
      go (inr u) = omega (arith, u.zeros (j % 8) (omega arith))
      go (inl t) = framed (dec_lt (j % 8) (frame_count (task_at tasks (j / 8))))
        where
          framed : Dec (j % 8 < frame_count (task_at tasks (j / 8))) → get_or (times_of policy tasks) (8 * (j / 8) + j % 8) 0 < 2 ^ 32
          framed (yes l) = omega (arith, (t.worst (j % 8) l).least.within, deadline_small (j / 8) (j % 8) inside l)
          framed (no l) = omega (arith, t.no_frame (j % 8) (omega arith) (omega arith))

  -- the times that stand in memory
  pub laid_signed : (kept : Kept) (before : List ℕ) → length (stored kept (times_of policy tasks)) ≤ length before
      → Signed policy tasks kept before (laid (stored kept (times_of policy tasks)) before) (said (Ok (outcome_of policy tasks)))
  laid_signed kept before fits =
      signed policy tasks sound.admitted eight
      (time_in kept (laid (stored kept (times_of policy tasks)) before))
      (λ j h. time_laid kept (times_of policy tasks) before times_small j (omega (arith, long)))
      kept before _ refl
      (surplus_kept kept (times_of policy tasks) before (length tasks) long fits)

-- a blocker that is named is one of at most sixteen tasks
few_said : (policy : ℕ) (tasks : List Task) (kept : Kept) (before after : List ℕ) (v : Verdict)
    → length tasks ≤ most_tasks → Signed policy tasks kept before after (said (Ok v)) → FewOf (Ok v)
unfolding Signed said FewOf
few_said policy tasks kept before after Holds h s = tt
few_said policy tasks kept before after (Missed p b) h s = λ q e. omega (arith, s.0.blocker_in_set q e)

module _ {policy : ℕ} {tasks : List Task} {kept : Kept} {before : List ℕ} where
  pub promised : {answer : Result Decision Refusal} {after : List ℕ} → Analysed policy tasks kept before answer after → Signed policy tasks kept before after (said (outcome_told answer))
  unfolding Signed said outcome_told
  promised (is_refused why few) = ((refusal_range why).0, few, refl)
  promised (is_analysed sound fits) = laid_signed policy tasks sound kept before fits

  pub few_of : {answer : Result Decision Refusal} {after : List ℕ} → Analysed policy tasks kept before answer after → FewOf (outcome_told answer)
  unfolding FewOf outcome_told
  few_of (is_refused why few) = tt
  few_of (is_analysed sound fits) =
      few_said policy tasks kept before _ (outcome_of policy tasks) sound.carried.few_tasks (laid_signed policy tasks sound kept before fits)

  -- the parts of a decision have room in their bits
  pub in_bits : {answer : Result Decision Refusal} {after : List ℕ} → Analysed policy tasks kept before answer after → (d : Decision) → answer ≡ Ok d → InBits d.verdict d.task_count
  in_bits (is_refused why few) d e = cc
  in_bits (is_analysed sound fits) d e =
      let same : decision policy tasks ≡ d = cc in
      rw (← same) (go (outcome_of policy tasks) (laid_signed policy tasks sound kept before fits))
    where
      go : (v : Verdict) → Signed policy tasks kept before (laid (stored kept (times_of policy tasks)) before) (said (Ok v)) → InBits v (length tasks)
      go Holds s = unfold InBits in omega (arith, sound.carried.few_tasks)
      go (Missed p b) s =
          unfold InBits Signed said in
          (omega (arith, s.0.in_set, sound.carried.few_tasks), λ q e. omega (arith, s.0.blocker_in_set q e, sound.carried.few_tasks), omega (arith, sound.carried.few_tasks))

  -- the count is that of the tasks
  pub counted : {answer : Result Decision Refusal} {after : List ℕ} → Analysed policy tasks kept before answer after
      → count_told answer ≡ count_said (length tasks) (said (outcome_told answer))
  unfolding count_told count_said said outcome_told
  counted (is_refused why few) = refl
  counted (is_analysed sound fits) = go (outcome_of policy tasks)
    where
      go : (v : Verdict) → length tasks ≡ count_said (length tasks) (said (Ok v))
      go Holds = refl
      go (Missed p b) = refl

-- the number of a set's verdict is not from 1 to 12
pub outcome_number : (v : Verdict) → 1 ≤ code (Ok v) → ¬ (code (Ok v) ≤ 12)
outcome_number Holds l h = omega arith
outcome_number (Missed p b) l h = omega arith

-- the number of an outcome that is so
pub number_given : (policy : ℕ) (tasks : List Task) (kept : Kept) (before after : List ℕ) (outcome : Result Verdict Refusal)
    → Signed policy tasks kept before after (said outcome) → IsNumber (length tasks) (code outcome)
unfolding Signed said
number_given policy tasks kept before after (Ok Holds) s = it_holds
number_given policy tasks kept before after (Ok (Missed p (Some q))) s = task_misses p q s.0.in_set (s.0.blocker_in_set q refl)
number_given policy tasks kept before after (Ok (Missed p None)) s = task_misses_alone p s.0.in_set
number_given policy tasks kept before after (Err why) s = it_refuses (number_of why) s.0 s.1

-- a number from 1 to 12 is that of a refusal
pub number_refused : {policy : ℕ} {tasks : List Task} {kept : Kept} {before after : List ℕ} {answer : Result Decision Refusal} → Analysed policy tasks kept before answer after
    → 1 ≤ code (outcome_told answer) → code (outcome_told answer) ≤ 12 → after ≡ before
unfolding outcome_told
number_refused (is_refused why few) l h = refl
number_refused {policy} {tasks} (is_analysed sound fits) l h = absurd (outcome_number (outcome_of policy tasks) l h)
