-- Rows in turn from the front: one more, none between, and how many elements they have.
use mathlib.Core.List.{List, [], ◌++◌, append-nil, append_assoc}
use mathlib.Core.Path.{◌≡◌, refl, sym, ap, ap₂, ◌∙◌}
use Prim.Native.Nat.{ℕ, zero, suc, ◌+◌, ◌-◌, ◌≤◌, ◌<◌, zero-le}
use native.Mathlib.Decide.{dec_le}
use native.Mathlib.Nat.{add-zero, zero-add, add-suc, suc-add}
use native.Mathlib.Omega.{arith}
use lib.ListN.{length, length-append}
use Rattle.theory.proofs.Places.{sum_below}
use Rattle.analysis.specs.Findings.{in_turn}

module _ {A : Type 0} (row : ℕ → List A) where
  turn_last : (i m : ℕ) → in_turn row i (suc m) ≡ in_turn row i m ++ row (i + m)
  unfolding in_turn
  turn_last i zero = append-nil (row i) ∙ ap row (sym (add-zero i))
  turn_last i (suc m) =
      ap (λ (l : List A). row i ++ l) (turn_last (suc i) m ∙ ap (λ (k : ℕ). in_turn row (suc i) m ++ row k) (suc-add i m ∙ sym (add-suc i m)))
      ∙ sym (append_assoc (row i) (in_turn row (suc i) m) (row (i + suc m)))

  -- no row has nothing
  pub turn_zero : in_turn row 0 0 ≡ []
  unfolding in_turn
  turn_zero = refl

  -- one row more
  pub turn_more : (m : ℕ) → in_turn row 0 (suc m) ≡ in_turn row 0 m ++ row m
  turn_more m = turn_last 0 m ∙ ap (λ (k : ℕ). in_turn row 0 m ++ row k) (zero-add m)

  quiet_to : (m d : ℕ) → ((j : ℕ) → m ≤ j → j < m + d → row j ≡ []) → in_turn row 0 (m + d) ≡ in_turn row 0 m
  quiet_to m zero h = ap (in_turn row 0) (add-zero m)
  quiet_to m (suc d) h =
      ap (in_turn row 0) (add-suc m d)
      ∙ turn_more (m + d)
      ∙ ap₂ (λ (a b : List A). a ++ b) (quiet_to m d (λ j k l. h j k (omega arith))) (h (m + d) (omega arith) (omega arith))
      ∙ append-nil (in_turn row 0 m)

  -- empty rows add nothing
  pub turn_quiet : (m n : ℕ) → m ≤ n → ((j : ℕ) → m ≤ j → j < n → row j ≡ []) → in_turn row 0 m ≡ in_turn row 0 n
  turn_quiet m n l h =
      let sum : m + (n - m) ≡ n = omega arith in
      sym (quiet_to m (n - m) (λ j k b. h j k (omega arith))) ∙ ap (in_turn row 0) sum

  part_to : (m d : ℕ) → length (in_turn row 0 m) ≤ length (in_turn row 0 (m + d))
  part_to m zero = rw (add-zero m) (omega arith)
  part_to m (suc d) = rw (add-suc m d, turn_more (m + d), length-append (in_turn row 0 (m + d)) (row (m + d))) (omega (arith, part_to m d))

  -- fewer rows have no more
  pub turn_part : (m n : ℕ) → m ≤ n → length (in_turn row 0 m) ≤ length (in_turn row 0 n)
  turn_part m n l =
      let sum : m + (n - m) ≡ n = omega arith in
      rw sum at (part_to m (n - m))

-- rows that have two parts each: their lengths add up
pub turn_parts : {A : Type 0} (row one two : ℕ → List A) → ((j : ℕ) → row j ≡ one j ++ two j) → (m : ℕ)
    → length (in_turn row 0 m) ≡ length (in_turn one 0 m) + length (in_turn two 0 m)
turn_parts row one two h zero = rw (turn_zero row, turn_zero one, turn_zero two) refl
turn_parts row one two h (suc m) =
    rw (
      turn_more row m,
      turn_more one m,
      turn_more two m,
      length-append (in_turn row 0 m) (row m),
      length-append (in_turn one 0 m) (one m),
      length-append (in_turn two 0 m) (two m),
      h m,
      length-append (one m) (two m),
    )
    (omega (arith, turn_parts row one two h m))

-- rows of rows: so many as all first rows have, and all second ones, and so on
pub turn_sum : {A : Type 0} (row : ℕ → ℕ → List A) (n m : ℕ)
    → length (in_turn (λ t. in_turn (row t) 0 n) 0 m) ≡ sum_below n (λ i. length (in_turn (λ t. row t i) 0 m))
unfolding sum_below
turn_sum row zero m =
    ap length (sym (turn_quiet (λ t. in_turn (row t) 0 0) 0 m zero-le (λ j _ _. turn_zero (row j))) ∙ turn_zero (λ t. in_turn (row t) 0 0))
turn_sum row (suc n) m =
    turn_parts (λ t. in_turn (row t) 0 (suc n)) (λ t. in_turn (row t) 0 n) (λ t. row t n) (λ t. turn_more (row t) n) m
    ∙ ap (λ x. x + length (in_turn (λ t. row t n) 0 m)) (turn_sum row n m)

-- all rows but one are empty
pub turn_one : {A : Type 0} (row : ℕ → List A) (at : ℕ) → ((u : ℕ) → (u ≡ at → ⊥) → row u ≡ []) → length (row at) ≤ 1 → (m : ℕ) → length (in_turn row 0 m) ≤ 1
turn_one row at others one m = go (dec_le m at)
  where
    before : (n : ℕ) → n ≤ at → length (in_turn row 0 n) ≡ 0
    before n h = ap length (sym (turn_quiet row 0 n zero-le (λ j _ l. others j (λ e. omega arith))) ∙ turn_zero row)

    go : Dec (m ≤ at) → length (in_turn row 0 m) ≤ 1
    go (yes h) = omega (arith, before m h)
    go (no h) =
        rw (← turn_quiet row (suc at) m (omega arith) (λ j l _. others j (λ e. omega arith)), turn_more row at, length-append (in_turn row 0 at) (row at))
        (omega (arith, before at (omega arith)))
