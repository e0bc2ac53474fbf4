-- The entries before a tick and, in that tick, before a task: one row more, and no row where nothing is released.
use mathlib.Core.List.{List, [], ◌++◌, append-nil, append_assoc}
use mathlib.Core.Path.{◌≡◌, sym, ap, ap₂, ◌∙◌}
use Prim.Native.Nat.{ℕ, suc, ◌≤◌, ◌<◌, zero-le}
use native.Mathlib.Nat.{le_refl}
use native.Mathlib.Omega.{arith}
use lib.ListN.{length, length-append}
use Rattle.analysis.specs.Findings.{in_turn}
use Rattle.plays.specs.declared.Entry.{Entry}
use Rattle.worst.specs.declared.Plan.{Plan}
use Rattle.worst.specs.Inside.Plans.{plan_row, tick_row, plan_entries}
use Rattle.plays.proofs.InTurn.{turn_zero, turn_more, turn_quiet, turn_part}

module _ (pl : Plan) where
  -- the entries before task j of tick t
  pub done : ℕ → ℕ → List Entry
  done t j = in_turn (tick_row pl) 0 t ++ in_turn (plan_row pl t) 0 j

  -- at the start there are none
  pub done_none : done 0 0 ≡ []
  unfolding done
  done_none = ap₂ (λ (a b : List Entry). a ++ b) (turn_zero (tick_row pl)) (turn_zero (plan_row pl 0))

  -- behind a task its row is added
  pub done_more : (t j : ℕ) → done t (suc j) ≡ done t j ++ plan_row pl t j
  unfolding done
  done_more t j =
      ap (λ (l : List Entry). in_turn (tick_row pl) 0 t ++ l) (turn_more (plan_row pl t) j)
      ∙ sym (append_assoc (in_turn (tick_row pl) 0 t) (in_turn (plan_row pl t) 0 j) (plan_row pl t j))

  -- before the first task of a tick
  done_before : (t : ℕ) → done t 0 ≡ in_turn (tick_row pl) 0 t
  unfolding done
  done_before t = ap (λ (l : List Entry). in_turn (tick_row pl) 0 t ++ l) (turn_zero (plan_row pl t)) ∙ append-nil (in_turn (tick_row pl) 0 t)

  done_tick : (t : ℕ) → done t pl.count ≡ done (suc t) 0
  unfolding done tick_row
  done_tick t = sym (turn_more (tick_row pl) t) ∙ sym (done_before (suc t))

  done_all : done (suc pl.end) 0 ≡ plan_entries pl
  unfolding plan_entries
  done_all = done_before (suc pl.end)

  -- it is part of all entries
  pub done_part : (t j : ℕ) → t ≤ pl.end → j ≤ pl.count → length (done t j) ≤ length (plan_entries pl)
  unfolding done plan_entries tick_row
  done_part t j h l =
      let one : length (in_turn (plan_row pl t) 0 j) ≤ length (in_turn (plan_row pl t) 0 pl.count) = turn_part (plan_row pl t) j pl.count l in
      let tick : length (in_turn (tick_row pl) 0 (suc t)) ≤ length (in_turn (tick_row pl) 0 (suc pl.end)) = turn_part (tick_row pl) (suc t) (suc pl.end) (omega arith) in
      omega (
        arith,
        length-append (in_turn (tick_row pl) 0 t) (in_turn (plan_row pl t) 0 j),
        ap length (turn_more (tick_row pl) t),
        length-append (in_turn (tick_row pl) 0 t) (tick_row pl t),
      )

  -- nothing is released of task q from there on until its next release
  module _ (t j : ℕ) (opens : ℕ → ℕ) (quiet : (q : ℕ) → q < pl.count → (u : ℕ) → t ≤ u → (q < j → t < u) → u < opens q → plan_row pl u q ≡ []) where
    -- up to a task of the same tick
    pub skip_here : (i : ℕ) → j ≤ i → i ≤ pl.count → ((q : ℕ) → q < i → t < opens q) → done t j ≡ done t i
    unfolding done
    skip_here i l m h =
        ap (λ (r : List Entry). in_turn (tick_row pl) 0 t ++ r)
        (turn_quiet (plan_row pl t) j i l (λ q a b. quiet q (omega arith) t (le_refl t) (λ c. let z : ⊥ = omega arith in absurd z) (h q b)))

    -- up to a task of a later tick
    pub skip_later : j ≤ pl.count → (v i : ℕ) → t < v → i ≤ pl.count → ((q : ℕ) → q < pl.count → v ≤ opens q) → ((q : ℕ) → q < i → v < opens q) → done t j ≡ done v i
    unfolding done tick_row
    skip_later k v i l m h later =
        skip_here pl.count k (le_refl pl.count) (λ q a. let d = h q a in omega arith)
        ∙ done_tick t
        ∙ done_before (suc t)
        ∙ turn_quiet (tick_row pl) (suc t) v l
        (λ u a b. sym (turn_quiet (plan_row pl u) 0 pl.count zero-le (λ q _ c. let d = h q c in quiet q c u (omega arith) (λ _. omega arith) (omega arith))) ∙ turn_zero (plan_row pl u))
        ∙ sym (done_before v)
        ∙ ap (λ (r : List Entry). in_turn (tick_row pl) 0 v ++ r)
        (turn_quiet (plan_row pl v) 0 i zero-le (λ q _ c. let d = later q c in quiet q (omega arith) v (omega arith) (λ _. omega arith) (omega arith)))

    -- up to the end
    pub skip_all : j ≤ pl.count → t ≤ pl.end → ((q : ℕ) → q < pl.count → pl.end < opens q) → done t j ≡ plan_entries pl
    skip_all k l h =
        skip_later k (suc pl.end) 0 (omega arith) zero-le (λ q a. let d = h q a in omega arith) (λ q a. let z : ⊥ = omega arith in absurd z) ∙ done_all
