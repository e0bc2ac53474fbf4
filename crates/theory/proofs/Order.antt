-- Demand, response times and passing depend on which tasks stand above and below a task, not on the order of those.
use mathlib.Core.List.{List, map, Perm, Permᴰ}
use mathlib.Core.Logic.{∥∥₁_elim, ∥∥₁_map}
use mathlib.Core.Path.{◌≡◌, refl, ◌∙◌, ap, fun_ext}
use Prim.Native.Nat.{ℕ, ◌-◌}
use native.Mathlib.Nat.{ℕ_set}
use native.Mathlib.Omega.{arith}
use lib.ListN.{take}
use Rattle.theory.specs.First.{every, found}
use Rattle.theory.specs.Tasks.{Task, task_at, frame_count, frame, deadline_of, largest}
use Rattle.theory.specs.Analysis.{lower, largest_lock, blocking, from_start, higher, demand, response, demand_of, response_of, passes}
use Rattle.theory.proofs.Demand.{demand_order}

map_permᴰ : {X Y : Type 0} (f : X → Y) {ls rs : List X} → Permᴰ ls rs → Permᴰ (map f ls) (map f rs)
map_permᴰ f Permᴰ.nil = Permᴰ.nil
map_permᴰ f (Permᴰ.cons e d) = Permᴰ.cons (ap f e) (map_permᴰ f d)
map_permᴰ f (Permᴰ.swap e q) = Permᴰ.swap (ap f e) (ap f q)
map_permᴰ f (Permᴰ.trans d e) = Permᴰ.trans (map_permᴰ f d) (map_permᴰ f e)

largest_permᴰ : {cs ds : List ℕ} → Permᴰ cs ds → largest cs ≡ largest ds
unfolding largest
largest_permᴰ Permᴰ.nil = refl
largest_permᴰ (Permᴰ.cons e d) = rw (e, largest_permᴰ d)
largest_permᴰ (Permᴰ.swap {a} {b} {a'} {b'} {l} e q) = omega arith
largest_permᴰ (Permᴰ.trans d e) = largest_permᴰ d ∙ largest_permᴰ e

-- blocking does not depend on the order of the tasks below
pub blocking_order : {ts us : List Task} → Perm ts us → blocking ts ≡ blocking us
unfolding blocking largest_lock
blocking_order d = ap (λ x. x - 1) (∥∥₁_elim d (ℕ_set _ _) (λ e. largest_permᴰ (map_permᴰ (λ t. t.lock) e)))

-- the same task in two lists, with the same tasks above it and the same below it
pub record SamePlace (set : List Task) (p : ℕ) (set' : List Task) (p' : ℕ) : Type 0 where
  pub same_task : task_at set p ≡ task_at set' p'
  pub same_above : Perm (take p set) (take p' set')
  pub same_below : Perm (lower set p) (lower set' p')

module _ {set : List Task} {p : ℕ} {set' : List Task} {p' : ℕ} (same : SamePlace set p set' p') where
  pub demand_of_same : (k t : ℕ) → demand_of set p k t ≡ demand_of set' p' k t
  unfolding demand_of higher
  demand_of_same k t =
      ap (λ B. demand B (frame (task_at set p) k) (higher set p) t) (blocking_order same.same_below)
      ∙ ap (λ u. demand (blocking (lower set' p')) (frame u k) (higher set p) t) same.same_task
      ∙ demand_order _ _ (∥∥₁_map same.same_above (λ d. map_permᴰ from_start d)) t

  pub response_of_same : (k : ℕ) → response_of set p k ≡ response_of set' p' k
  unfolding response_of
  response_of_same k =
      ap (λ f. response f (deadline_of (task_at set p) k)) (fun_ext (demand_of_same k))
      ∙ ap (λ u. response (demand_of set' p' k) (deadline_of u k)) same.same_task

  pub passes_same : passes set p ≡ passes set' p'
  unfolding passes
  passes_same =
      ap (λ f. every 0 (frame_count (task_at set p)) f) (fun_ext (λ k. ap found (response_of_same k)))
      ∙ ap (λ u. every 0 (frame_count u) (λ k. found (response_of set' p' k))) same.same_task
