-- A list gathered into a set, and the three cases of a set scattered into a list.
use mathlib.Core.List.{List, [], ◌++◌}
use mathlib.Core.Path.{◌≡◌, refl, sym, ap, ◌∙◌}
use Prim.Native.Nat.{ℕ, suc, ◌≤◌, ◌<◌, min}
use native.Mathlib.Omega.{arith}
use borrow.Author.Tests.{lt-ltb, le-ltb}
use lib.ListN.{length, take, drop, replicate, length-take}
use lib.Seq.{length-take-le}
use native.Mathlib.Nat.{min_comm}
use Rattle.std.proofs.lemmas.List.{take_min}
use Rattle.lent.specs.Lent.{laid}
use Rattle.lent.proofs.Checks.{applies, passed_over, no_check}
use Rattle.lent.proofs.Lent.{by_checks, by_room, done}
use Rattle.sheet.specs.Constants.{most_tasks}
use Rattle.sheet.specs.Tasks.{blank_record, records_of}
use Rattle.sheet.specs.declared.Task.{Task}
use Rattle.sheet.specs.declared.TaskSet.{TaskSet}
use Rattle.lists.specs.Lists.{gathered_of, scattering, scattered_of}

-- the first sixteen records laid over blank ones
pub gathered_is : (policy n count : ℕ) (list front tasks : List Task) → n ≡ min (length list) (suc most_tasks) → count ≡ min (length list) most_tasks → front ≡ take count list
    → tasks ≡ replicate most_tasks blank_record → ◌≡◌ {A = TaskSet} (record { policy = policy; task_count = n; tasks = front ++ drop count tasks }) (gathered_of policy list)
unfolding gathered_of laid
gathered_is policy n count list front tasks en ec ef et =
    let first : take count list ≡ take most_tasks list = ap (λ (k : ℕ). take k list) (ec ∙ min_comm (length list) most_tasks) ∙ take_min most_tasks list in
    let long : length (take most_tasks list) ≡ count = length-take most_tasks list ∙ min_comm most_tasks (length list) ∙ sym ec in
    rw (en, ef, et, first, long) refl

module _ (s : TaskSet) (list : List Task) (sixteen : length s.tasks ≡ most_tasks) where
  records_count : s.task_count ≤ most_tasks → length (records_of s) ≡ s.task_count
  unfolding records_of
  records_count h = length-take-le s.task_count s.tasks (omega arith)

  -- what a scattered list is, by the three cases
  pub scattered_many : most_tasks < s.task_count → scattered_of s list ≡ list
  unfolding scattered_of scattering
  scattered_many h = (by_checks {X = Unit {0}} tt (scattering s) list tt (applies _ tt [] (lt-ltb most_tasks s.task_count h))).unchanged

  pub scattered_short : s.task_count ≤ most_tasks → length list < s.task_count → scattered_of s list ≡ list
  unfolding scattered_of scattering
  scattered_short h l = (by_room {X = Unit {0}} tt (scattering s) list (passed_over _ tt [] (le-ltb most_tasks s.task_count h) ∙ no_check) (rw (records_count h) l)).unchanged

  pub scattered_all : s.task_count ≤ most_tasks → s.task_count ≤ length list → scattered_of s list ≡ laid (records_of s) list
  unfolding scattered_of scattering
  scattered_all h l = (done {X = Unit {0}} tt (scattering s) list (passed_over _ tt [] (le-ltb most_tasks s.task_count h) ∙ no_check) (rw (records_count h) l)).holds

  -- the same as its records followed by the rest of the list
  pub scattered_first : s.task_count ≤ most_tasks → s.task_count ≤ length list → scattered_of s list ≡ take s.task_count s.tasks ++ drop s.task_count list
  unfolding records_of laid
  scattered_first h l = scattered_all h l ∙ ap (λ (n : ℕ). take s.task_count s.tasks ++ drop n list) (records_count h)
