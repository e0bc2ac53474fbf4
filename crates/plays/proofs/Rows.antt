-- Rows of entries one behind another: the entry of a task at a tick, whose row an entry is of, and that the entries rise.
use Rattle.std.specs.Prelude.{None}
use mathlib.Core.List.Memᴰ
use mathlib.Core.List.{List, [], ◌∷◌, ◌++◌, Memᴰ}
use mathlib.Core.Logic.{◌⊎◌, inl, inr}
use mathlib.Core.Path.{◌≡◌, refl, sym, ◌∙◌}
use Prim.Native.Nat.{ℕ, zero, suc, ◌+◌, ◌≤◌, ◌<◌}
use native.Mathlib.Decide.{ℕ_discrete}
use native.Mathlib.Nat.{le_refl, add-zero, add-suc, suc-add}
use native.Mathlib.Omega.{arith}
use Rattle.analysis.specs.Findings.{in_turn}
use Rattle.plays.specs.Script.{entry_of}
use Rattle.plays.specs.Items.{standing}
use Rattle.plays.specs.declared.Entry.{Entry}
use Rattle.plays.proofs.Ledgers.{InOrder, entry_behind, entry_before}

-- ---- the entry of a task at a tick

module _ (i t : ℕ) (row : ℕ → List Entry) where
  -- none where no row has one
  pub turn_has_none : (a n : ℕ) → ((u : ℕ) → a ≤ u → u < a + n → entry_of (row u) i t ≡ None) → entry_of (in_turn row a n) i t ≡ None
  unfolding in_turn entry_of
  turn_has_none a zero h = refl
  turn_has_none a (suc n) h =
      entry_behind i t (row a) (in_turn row (suc a) n) (h a (le_refl a) (omega arith))
      ∙ turn_has_none (suc a) n (λ u l k. h u (omega arith) (omega arith))

  -- that of the one row that may have one
  pub turn_has : (a n j : ℕ) → a ≤ j → j < a + n → ((u : ℕ) → (u ≡ j → ⊥) → entry_of (row u) i t ≡ None)
      → entry_of (in_turn row a n) i t ≡ entry_of (row j) i t
  unfolding in_turn
  turn_has a zero j h k others = absurd (omega arith)
  turn_has a (suc n) j h k others = go (ℕ_discrete j a) (turn_has (suc a) n j)
    where
      go : Dec (j ≡ a) → (suc a ≤ j → j < suc a + n → ((u : ℕ) → (u ≡ j → ⊥) → entry_of (row u) i t ≡ None) → entry_of (in_turn row (suc a) n) i t ≡ entry_of (row j) i t)
          → entry_of (row a ++ in_turn row (suc a) n) i t ≡ entry_of (row j) i t
      go (yes e) later =
          rw e (entry_before i t (row a) (in_turn row (suc a) n) (turn_has_none (suc a) n (λ u l m. others u (λ q. omega arith))))
      go (no ne) later = entry_behind i t (row a) (in_turn row (suc a) n) (others a (λ q. ne (sym q))) ∙ later (omega arith) (omega arith) others

-- ---- the entries of rows

-- each is an entry of one of them
pub in_some_row : (row : ℕ → List Entry) (a n : ℕ) {e : Entry} → Memᴰ e (in_turn row a n) → (u : ℕ) × (a ≤ u) × (u < a + n) × Memᴰ e (row u)
unfolding in_turn
in_some_row row a zero m = absurd (Memᴰ.not-nil m)
in_some_row row a (suc n) {e} m = go (Memᴰ.append_cases (row a) m) (in_some_row row (suc a) n {e = e})
  where
    go : Memᴰ e (row a) ⊎ Memᴰ e (in_turn row (suc a) n)
        → (Memᴰ e (in_turn row (suc a) n) → (u : ℕ) × (suc a ≤ u) × (u < suc a + n) × Memᴰ e (row u))
        → (u : ℕ) × (a ≤ u) × (u < a + suc n) × Memᴰ e (row u)
    go (inl here) later = (a, le_refl a, omega arith, here)
    go (inr there) later = let (u, l, k, i) = later there in (u, omega arith, omega arith, i)

-- ---- entries that rise

-- each stands behind the one before it, the first not before lo, all before hi
abbrev pub Rises : ℕ → ℕ → List Entry → Type 0
Rises lo hi [] = lo ≤ hi
Rises lo hi (e ∷ es) = (lo ≤ standing e) × Rises (suc (standing e)) hi es

-- entries that rise within narrower marks rise within wider ones
pub rises_wider : {lo lo' hi hi' : ℕ} (es : List Entry) → lo' ≤ lo → hi ≤ hi' → Rises lo hi es → Rises lo' hi' es
rises_wider {lo = lo} {lo' = lo'} {hi = hi} {hi' = hi'} [] h k r = omega arith
rises_wider {lo = lo} {lo' = lo'} {hi = hi} {hi' = hi'} (e ∷ es) h k r =
    (omega (arith, r.0), rises_wider {lo = suc (standing e)} {lo' = suc (standing e)} {hi = hi} {hi' = hi'} es (le_refl _) k r.1)

rises_append : (lo mid hi : ℕ) (xs ys : List Entry) → Rises lo mid xs → Rises mid hi ys → Rises lo hi (xs ++ ys)
rises_append lo mid hi [] ys r s = rises_wider ys r (le_refl hi) s
rises_append lo mid hi (x ∷ xs) ys r s = (r.0, rises_append (suc (standing x)) mid hi xs ys r.1 s)

-- rows that rise from one mark to the next rise from the first to the last
pub rises_in_turn : (mark : ℕ → ℕ) (row : ℕ → List Entry) (a n : ℕ) → ((u : ℕ) → a ≤ u → u < a + n → Rises (mark u) (mark (suc u)) (row u))
    → Rises (mark a) (mark (a + n)) (in_turn row a n)
unfolding in_turn
rises_in_turn mark row a zero h = rw (add-zero a) (le_refl _)
rises_in_turn mark row a (suc n) h =
    rw (add-suc a n, ← suc-add a n)
    (rises_append (mark a) (mark (suc a)) (mark (suc a + n)) (row a) (in_turn row (suc a) n) (h a (le_refl a) (omega arith))
    (rises_in_turn mark row (suc a) n (λ u l k. h u (omega arith) (omega arith))))

-- entries that rise are in order
pub rises_in_order : (lo hi : ℕ) (es : List Entry) → Rises lo hi es → InOrder lo es
rises_in_order lo hi [] r = tt
rises_in_order lo hi (e ∷ es) r = (r.0, rises_in_order (suc (standing e)) hi es r.1)
