-- A row of checks, and one row behind another.
use Rattle.std.specs.Prelude.{None, Option, Some}
use mathlib.Core.Bool.{Bool, true, false}
use mathlib.Core.List.{List, [], ◌∷◌, ◌++◌}
use mathlib.Core.Path.{◌≡◌, refl, sym, subst, ap, ◌∙◌}
use Prim.Native.Nat.{ℕ}
use native.Mathlib.Omega.{arith}
use Rattle.lent.specs.Checks.{Check, ◌⇒◌, first_refusal, retold}

module _ {R : Type 0} where
  -- a check that applies decides
  pub applies : (b : Bool) (r : R) (cs : List (Check R)) → b ≡ true → first_refusal ((b ⇒ r) ∷ cs) ≡ Some r
  unfolding first_refusal
  applies b r cs e = rw e

  -- one that does not is passed over
  pub passed_over : (b : Bool) (r : R) (cs : List (Check R)) → b ≡ false → first_refusal ((b ⇒ r) ∷ cs) ≡ first_refusal cs
  unfolding first_refusal
  passed_over b r cs e = rw e

  -- a row of none turns nothing away
  pub no_check : first_refusal {R = R} [] ≡ None
  unfolding first_refusal
  no_check = refl

  -- a refusal, or what comes next where there is none
  abbrev pub or_else : Option R → Option R → Option R
  or_else None next = next
  or_else (Some r) next = Some r

  pub append : (cs ds : List (Check R)) → first_refusal (cs ++ ds) ≡ or_else (first_refusal cs) (first_refusal ds)
  unfolding first_refusal
  append [] ds = refl
  append (c ∷ cs) ds = go c.applies (append cs ds)
    where
      go : (b : Bool) → first_refusal (cs ++ ds) ≡ or_else (first_refusal cs) (first_refusal ds)
          → elim b as (λ (x : Bool). Option R) [ true ↦ Some c.refusal | false ↦ first_refusal (cs ++ ds) ]
          ≡ or_else (elim b as (λ (x : Bool). Option R) [ true ↦ Some c.refusal | false ↦ first_refusal cs ]) (first_refusal ds)
      go true e = refl
      go false e = e

  pub none_first : (cs ds : List (Check R)) → first_refusal cs ≡ None → first_refusal (cs ++ ds) ≡ first_refusal ds
  none_first cs ds e = append cs ds ∙ ap (λ (a : Option R). or_else a (first_refusal ds)) e

  pub some_first : (cs ds : List (Check R)) (r : R) → first_refusal cs ≡ Some r → first_refusal (cs ++ ds) ≡ Some r
  some_first cs ds r e = append cs ds ∙ ap (λ (a : Option R). or_else a (first_refusal ds)) e

  -- where nothing is turned away the first check does not apply, and the others turn nothing away
  pub passed : (c : Check R) (cs : List (Check R)) → first_refusal (c ∷ cs) ≡ None → (c.applies ≡ false) × (first_refusal cs ≡ None)
  unfolding first_refusal
  passed c cs e = go c.applies e
    where
      go : (b : Bool) → ◌≡◌ {A = Option R} (elim b as (λ (x : Bool). Option R) [ true ↦ Some c.refusal | false ↦ first_refusal cs ]) None
          → (b ≡ false) × (first_refusal cs ≡ None)
      go true q = let z : ◌≡◌ {A = ℕ} 0 1 = cc in let z : ⊥ = omega arith in absurd z
      go false q = (refl, q)

  pub both_passed : (cs ds : List (Check R)) → first_refusal (cs ++ ds) ≡ None → (first_refusal cs ≡ None) × (first_refusal ds ≡ None)
  both_passed cs ds e = go (first_refusal cs) refl (sym (append cs ds) ∙ e)
    where
      go : (a : Option R) → first_refusal cs ≡ a → or_else (first_refusal cs) (first_refusal ds) ≡ None → (first_refusal cs ≡ None) × (first_refusal ds ≡ None)
      go None p q = (p, ap (λ (x : Option R). or_else x (first_refusal ds)) (sym p) ∙ q)
      go (Some r) p q =
          let w : Some r ≡ None = ap (λ (x : Option R). or_else x (first_refusal ds)) (sym p) ∙ q in
          let z : ◌≡◌ {A = ℕ} 0 1 = cc in
          let z : ⊥ = omega arith in
          absurd z

-- ---- refusals told in another way

module _ {R S : Type 0} (f : R → S) where
  pub retold_none : (cs : List (Check R)) → first_refusal cs ≡ None → first_refusal (retold f cs) ≡ None
  unfolding retold first_refusal
  retold_none [] e = refl
  retold_none (c ∷ cs) e = go c.applies e (retold_none cs)
    where
      go : (b : Bool) → ◌≡◌ {A = Option R} (elim b as (λ (x : Bool). Option R) [ true ↦ Some c.refusal | false ↦ first_refusal cs ]) None
          → (first_refusal cs ≡ None → first_refusal (retold f cs) ≡ None)
          → ◌≡◌ {A = Option S} (elim b as (λ (x : Bool). Option S) [ true ↦ Some (f c.refusal) | false ↦ first_refusal (retold f cs) ]) None
      go true q later = let z : ◌≡◌ {A = ℕ} 0 1 = cc in let y : ⊥ = omega arith in absurd y
      go false q later = later q

  pub retold_some : (cs : List (Check R)) (r : R) → first_refusal cs ≡ Some r → first_refusal (retold f cs) ≡ Some (f r)
  unfolding retold first_refusal
  retold_some [] r e = let z : ◌≡◌ {A = ℕ} 0 1 = cc in let y : ⊥ = omega arith in absurd y
  retold_some (c ∷ cs) r e = go c.applies e (retold_some cs r)
    where
      go : (b : Bool) → ◌≡◌ {A = Option R} (elim b as (λ (x : Bool). Option R) [ true ↦ Some c.refusal | false ↦ first_refusal cs ]) (Some r)
          → (first_refusal cs ≡ Some r → first_refusal (retold f cs) ≡ Some (f r))
          → ◌≡◌ {A = Option S} (elim b as (λ (x : Bool). Option S) [ true ↦ Some (f c.refusal) | false ↦ first_refusal (retold f cs) ]) (Some (f r))
      go true q later = let same : c.refusal ≡ r = cc in rw same
      go false q later = later q

-- ---- what is true of each refusal that a row can give is true of the one that it gives

module _ {R : Type 0} (P : R → Type 0) where
  -- of each where its check applies and none before it does
  abbrev pub Each : List (Check R) → Type 0
  Each [] = Unit {0}
  Each (c ∷ cs) = (c.applies ≡ true → P c.refusal) × (c.applies ≡ false → Each cs)

  pub each_append : (cs ds : List (Check R)) → Each cs → (first_refusal cs ≡ None → Each ds) → Each (cs ++ ds)
  each_append [] ds n m = m no_check
  each_append (c ∷ cs) ds n m = (n.0, λ e. each_append cs ds (n.1 e) (λ none_applies. m (passed_over c.applies c.refusal cs e ∙ none_applies)))

  pub each_first : (cs : List (Check R)) → Each cs → (r : R) → first_refusal cs ≡ Some r → P r
  unfolding first_refusal
  each_first [] n r e = let z : ◌≡◌ {A = ℕ} 0 1 = cc in let y : ⊥ = omega arith in absurd y
  each_first (c ∷ cs) n r e = go c.applies refl e (λ (later : Each cs). each_first cs later r)
    where
      go : (b : Bool) → c.applies ≡ b → ◌≡◌ {A = Option R} (elim b as (λ (x : Bool). Option R) [ true ↦ Some c.refusal | false ↦ first_refusal cs ]) (Some r)
          → (Each cs → first_refusal cs ≡ Some r → P r) → P r
      go true a q rec = let z : c.refusal ≡ r = cc in subst P z (n.0 a)
      go false a q rec = rec (n.1 a) q
