-- What the entry returns and leaves, by the analysis of the sheet.
use Rattle.std.specs.Prelude.{Err, None, Ok, Option, Result, Some}
use mathlib.Core.List.{List}
use mathlib.Core.Path.{◌≡◌, refl, ap, ◌∙◌}
use Prim.Native.Nat.{ℕ, ◌*◌, ◌≤◌, ◌<◌}
use native.Mathlib.Decide.{dec_lt}
use native.Mathlib.Omega.{arith}
use lib.Dec.{lit<}
use lib.ListN.{length, get_or, get_or-eq_default}
use Rattle.theory.specs.Tasks.{Task}
use Rattle.theory.specs.Analysis.{Verdict, holds, missed, verdict}
use Rattle.lent.specs.Lent.{laid, answered}
use Rattle.lent.proofs.Lent.{by_checks, by_room, turned_tells, done_tells, Told, turned_away, is_done, told}
use Rattle.lent.proofs.Lent.{done as all_done}
use Rattle.sheet.specs.Admission.{decided}
use Rattle.sheet.specs.Reading.{sheet_checks, policy_of, tasks_of}
use Rattle.sheet.specs.declared.Refusal.TheVariants.{Room}
use Rattle.sheet.proofs.Small.{number_small}
use Rattle.sheet.proofs.Checks.{none_applies, one_applies, admits}
use Rattle.sheet.proofs.Carried.{by_reading}
use Rattle.order.specs.Order.{priority_order, ordered_set}
use Rattle.order.specs.Claims.{Permutes}
use Rattle.order.proofs.Order.{order_permutes}
use Rattle.analysis.specs.Times.{number_at, blocker_number, verdict_number, outcome_of, times_of}
use Rattle.analysis.specs.Answers.{blocker_code, code, analysed, analysis_by, sheet_analysis}
use Rattle.analysis.specs.declared.Analysis.{Analysis}
use Rattle.analysis.specs.declared.Verdict.{Verdict as Found}
use Rattle.analysis.specs.Findings.{times_by_number}
use Rattle.analysis.proofs.Entries.{times_long, by_number_is}
use Rattle.workbench.specs.Entry.{task_size, as_bytes, checking, entry_number, entry_left}
use Rattle.workbench.proofs.Four.{length_four}
use Rattle.sheet.specs.declared.Refusal.{Refusal}

-- ---- the number is small

place_small : (n : ℕ) (order : List ℕ) → Permutes n order → n ≤ 16 → (p : ℕ) → number_at order p < 16
unfolding number_at
place_small n order h l p = go (dec_lt p n)
  where
    go : Dec (p < n) → get_or order p 0 < 16
    go (yes i) = omega (arith, h.each_place p i)
    go (no i) = rw (get_or-eq_default order 0 {n = p} (omega (arith, h.same_length))) (lit< tt)

blocker_small : (n : ℕ) (order : List ℕ) → Permutes n order → n ≤ 16 → (b : Option ℕ) → blocker_code (blocker_number order b) ≤ 16
unfolding blocker_number
blocker_small n order h l None = omega arith
blocker_small n order h l (Some p) = omega (arith, place_small n order h l p)

verdict_small : (n : ℕ) (order : List ℕ) → Permutes n order → n ≤ 16 → (v : Verdict) → code (Ok (verdict_number order v)) < 1000
unfolding verdict_number
verdict_small n order h l holds = lit< tt
verdict_small n order h l (missed p b) = omega (arith, place_small n order h l p, blocker_small n order h l b)

-- ---- an analysis by the answer to the tasks

admitted_by : (a : Result Unit Refusal) (policy : ℕ) (tasks : List Task) (x : Analysis) → analysis_by a policy tasks ≡ Ok x → (a ≡ Ok tt) × (x ≡ analysed policy tasks)
unfolding analysis_by
admitted_by (Ok tt) policy tasks x e = (refl, cc)
admitted_by (Err r) policy tasks x e = cc

refused_by : (a : Result Unit Refusal) (policy : ℕ) (tasks : List Task) (why : Refusal) → analysis_by a policy tasks ≡ Err why → a ≡ Err why
unfolding analysis_by
refused_by (Ok tt) policy tasks why e = cc
refused_by (Err r) policy tasks why e = cc

-- ---- by the answer of the sheet's checks

module _ (s room : List ℕ) where
  -- what the call is to answer and to leave
  abbrev Tells : Result Found Refusal → List ℕ → Type 0
  Tells r left = (r ≡ answered Room (checking s) room) × (left ≡ entry_left s room)

  -- a sheet that is turned away
  pub refused : (why : Refusal) → sheet_analysis s ≡ Err why → Tells (Err why) room
  unfolding entry_left checking sheet_analysis
  refused why e = turned_tells Room (checking s) room (by_checks Room (checking s) room why (one_applies (sheet_checks s) why (refused_by (decided (sheet_checks s)) (policy_of s) (tasks_of s) why e)))

  module _ (x : Analysis) (e : sheet_analysis s ≡ Ok x) where
    analysis_is : (decided (sheet_checks s) ≡ Ok tt) × (x ≡ analysed (policy_of s) (tasks_of s))
    unfolding sheet_analysis
    analysis_is = admitted_by (decided (sheet_checks s)) (policy_of s) (tasks_of s) x e

    -- the bytes that it asks for
    slots : length (as_bytes (times_of (policy_of s) (tasks_of s))) ≡ task_size * x.task_count
    unfolding analysed
    slots =
        length_four (times_of (policy_of s) (tasks_of s))
        ∙ omega (arith, times_long (policy_of s) (tasks_of s) (by_reading s analysis_is.0).counted, ap (λ (a : Analysis). a.task_count) analysis_is.1)

    -- the room is not there
    pub short : length room < task_size * x.task_count → Tells (Err Room) room
    unfolding entry_left checking
    short h = turned_tells Room (checking s) room (by_room Room (checking s) room (none_applies (sheet_checks s) analysis_is.0) (rw slots h))

    -- it is
    pub done : task_size * x.task_count ≤ length room → Tells (Ok x.verdict) (laid (as_bytes (times_by_number x)) room)
    unfolding entry_left checking analysed
    done h =
        let d = done_tells Room (checking s) room (all_done Room (checking s) room (none_applies (sheet_checks s) analysis_is.0) (rw slots h)) in (
          ap (λ (a : Analysis). let told : Result Found Refusal = Ok a.verdict in told) analysis_is.1 ∙ d.0,
          ap (λ (a : Analysis). laid (as_bytes (times_by_number a)) room) analysis_is.1 ∙ ap (λ (l : List ℕ). laid (as_bytes l) room) (by_number_is (policy_of s) (tasks_of s)) ∙ d.1,
        )

  -- the number is small
  pub small : entry_number s room < 1000
  unfolding entry_number checking outcome_of
  small = go (told Room (checking s) room)
    where
      go : Told Room (checking s) room → code (answered Room (checking s) room) < 1000
      go (is_done d) =
          rw d.answer
          (verdict_small (length (tasks_of s)) (priority_order (policy_of s) (tasks_of s)) (order_permutes (policy_of s) (tasks_of s)) (by_reading s (admits (sheet_checks s) d.admitted)).few_tasks
          (verdict (ordered_set (policy_of s) (tasks_of s))))
      go (turned_away r t) = rw t.answer (omega (arith, number_small r))
