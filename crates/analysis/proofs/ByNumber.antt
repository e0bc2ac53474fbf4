-- Rows put one after another into room, each at the block of its number: they end in the order of their numbers. Over any element and width of a row.
use mathlib.Core.List.{List, [], ◌++◌, append_assoc}
use mathlib.Core.Path.{◌≡◌, refl, sym, ap, ap₂, ◌∙◌}
use Prim.Native.Nat.{ℕ, zero, suc, ◌+◌, ◌-◌, ◌*◌, ◌≤◌, ◌<◌}
use borrow.Rule.Slice.PartMut.{put_mid}
use native.Mathlib.Decide.{ℕ_discrete, dec_lt}
use native.Mathlib.Nat.{zero-add, mul-zero, mul-suc, mul-le-mul_left}
use native.Mathlib.Omega.{arith}
use lib.ListN.{length, get_or, take, drop, length-append, length-take, length-drop, take-append-drop, get_or-append}
use Rattle.analysis.specs.Findings.{in_turn}
use lib.Seq.{get_or-take, get_or-drop, get_or-append-add, drop-drop, ext_get_or, length-take-le}

-- a list with a row put over it from `at` on
module _ {A : Type 0} (d : A) (l row : List A) (at w : ℕ) (wide : length row ≡ w) (room : at + w ≤ length l) where
  abbrev over : List A
  over = take at l ++ row ++ drop (at + w) l

  pub over_length : length over ≡ length l
  over_length = simp (length-append, length-take, length-drop, wide) (omega arith)

  in_parts : over ≡ take at l ++ (row ++ drop (at + w) l)
  in_parts = append_assoc (take at l) row (drop (at + w) l)

  pub over_before : (j : ℕ) → j < at → get_or over j d ≡ get_or l j d
  over_before j h =
      ap (λ (x : List A). get_or x j d) in_parts
      ∙ get_or-append (take at l) (row ++ drop (at + w) l) d j (omega (arith, length-take-le at l (omega arith)))
      ∙ get_or-take at l j d h

  from_at : (j : ℕ) → get_or over (at + j) d ≡ get_or (row ++ drop (at + w) l) j d
  from_at j =
      ap (λ (x : List A). get_or x (at + j) d) in_parts
      ∙ (rw (length-take-le at l (omega arith)) at (get_or-append-add (take at l) (row ++ drop (at + w) l) j d))

  pub over_there : (k : ℕ) → k < w → get_or over (at + k) d ≡ get_or row k d
  over_there k h = from_at k ∙ get_or-append row (drop (at + w) l) d k (omega arith)

  pub over_behind : (j : ℕ) → at + w ≤ j → get_or over j d ≡ get_or l j d
  over_behind j h =
      let m = j - (at + w) in
      let there : j ≡ at + (w + m) = omega arith in
      let same : at + w + m ≡ j = omega arith in
      ap (λ (i : ℕ). get_or over i d) there
      ∙ from_at (w + m)
      ∙ (rw wide at (get_or-append-add row (drop (at + w) l) m d))
      ∙ get_or-drop (at + w) l m d
      ∙ ap (λ (i : ℕ). get_or l i d) same

-- a copy to the w places from `at` on puts it there
pub copied : {A : Type 0} (l row : List A) (at w k : ℕ) → k ≡ w → put_mid at k l row ≡ take at l ++ row ++ drop (at + w) l
copied l row at w k e = rw (e, drop-drop w at l) (sym (append_assoc (take at l) row (drop (at + w) l)))

-- ---- rows in turn

module _ {A : Type 0} (row : ℕ → List A) where
  turn_none : (i : ℕ) → in_turn row i 0 ≡ []
  unfolding in_turn
  turn_none i = refl

  turn_more : (i m : ℕ) → in_turn row i (suc m) ≡ row i ++ in_turn row (suc i) m
  unfolding in_turn
  turn_more i m = refl

  pub turn_length : (w i m : ℕ) → ((j : ℕ) → j < i + m → length (row j) ≡ w) → length (in_turn row i m) ≡ w * m
  turn_length w i zero h = rw (turn_none i) (sym (mul-zero w))
  turn_length w i (suc m) h =
      ap length (turn_more i m)
      ∙ length-append (row i) (in_turn row (suc i) m)
      ∙ rw (h i (omega arith), turn_length w (suc i) m (λ j l. h j (omega arith)), mul-suc w m) (omega arith)

-- rows that agree up to the last number
pub turn_same : {A : Type 0} (row other : ℕ → List A) (i m : ℕ) → ((j : ℕ) → j < i + m → row j ≡ other j) → in_turn row i m ≡ in_turn other i m
turn_same row other i zero h = turn_none row i ∙ sym (turn_none other i)
turn_same {A} row other i (suc m) h =
    turn_more row i m
    ∙ ap₂ (λ (a b : List A). a ++ b) (h i (omega arith)) (turn_same row other (suc i) m (λ j l. h j (omega arith)))
    ∙ sym (turn_more other i m)

-- ---- rows put to their blocks

-- blocks of equal width do not meet
before_block : (w i j : ℕ) → i < j → w * i + w ≤ w * j
before_block w i j h = rw (← mul-suc w i) (mul-le-mul_left w h)

-- n rows of width w; the row of place p goes to the block of its number
module _ {A : Type 0} (d : A) (w n : ℕ) (number : ℕ → ℕ) (row : ℕ → List A) where
  -- after p places
  pub record Stands (room done : List A) (p : ℕ) : Type 0 where
    pub long : length done ≡ length room
    pub each : (q : ℕ) → q < p → (k : ℕ) → k < w → get_or done (w * number q + k) d ≡ get_or (row q) k d
    pub rest : (j : ℕ) → w * n ≤ j → get_or done j d ≡ get_or room j d

  pub none_stands : (room : List A) → Stands room room 0
  none_stands room = record { long = refl; each = λ q h. let z : ⊥ = omega arith in absurd z; rest = λ j h. refl }

  module _ (below : (p : ℕ) → p < n → number p < n) (apart : (p q : ℕ) → p < n → q < n → number p ≡ number q → p ≡ q)
      (wide : (p : ℕ) → p < n → length (row p) ≡ w) (room : List A) (enough : w * n ≤ length room) where
    block_in : (p : ℕ) → p < n → w * number p + w ≤ w * n
    block_in p h = before_block w (number p) n (below p h)

    pub stands_more : (done : List A) (p : ℕ) → p < n → Stands room done p
        → Stands room (take (w * number p) done ++ row p ++ drop (w * number p + w) done) (p + 1)
    stands_more done p h s =
        let fits : w * number p + w ≤ length done = omega (arith, block_in p h, s.long) in
        record {
          long = over_length d done (row p) (w * number p) w (wide p h) fits ∙ s.long;
          each = λ q l k m. go fits q l k m (ℕ_discrete q p) (dec_lt (number q) (number p));
          rest = λ j l. over_behind d done (row p) (w * number p) w (wide p h) fits j (omega (arith, block_in p h)) ∙ s.rest j l;
        }
      where
        go : w * number p + w ≤ length done → (q : ℕ) → q < p + 1 → (k : ℕ) → k < w → Dec (q ≡ p) → Dec (number q < number p)
            → get_or (take (w * number p) done ++ row p ++ drop (w * number p + w) done) (w * number q + k) d ≡ get_or (row q) k d
        go fits q l k m (yes e) o = rw e (over_there d done (row p) (w * number p) w (wide p h) fits k m)
        go fits q l k m (no ne) (yes o) =
            over_before d done (row p) (w * number p) w (wide p h) fits (w * number q + k) (omega (arith, before_block w (number q) (number p) o))
            ∙ s.each q (omega arith) k m
        go fits q l k m (no ne) (no o) = other (ℕ_discrete (number q) (number p))
          where
            other : Dec (number q ≡ number p) → get_or (take (w * number p) done ++ row p ++ drop (w * number p + w) done) (w * number q + k) d ≡ get_or (row q) k d
            other (yes e) = absurd (ne (apart q p (omega arith) h e))
            other (no x) =
                over_behind d done (row p) (w * number p) w (wide p h) fits (w * number q + k) (omega (arith, before_block w (number p) (number q) (omega arith)))
                ∙ s.each q (omega arith) k m

    -- where `place` finds a number's place
    module _ (place : ℕ → ℕ) (IsPlace_in : (i : ℕ) → i < n → place i < n) (number_back : (i : ℕ) → i < n → number (place i) ≡ i) where
      abbrev turn : ℕ → List A
      turn i = row (place i)

      module _ (done : List A) (s : Stands room done n) where
        block : (i : ℕ) → i < n → take w (drop (w * i) done) ≡ row (place i)
        block i h =
            let fits : w * i + w ≤ length done = omega (arith, before_block w i n h, s.long) in
            let cut : length (take w (drop (w * i) done)) ≡ w = rw (length-take, length-drop) (omega arith) in
            ext_get_or d (take w (drop (w * i) done)) (row (place i)) (cut ∙ sym (wide (place i) (IsPlace_in i h)))
            (λ k l. get_or-take w (drop (w * i) done) k d (omega arith)
            ∙ get_or-drop (w * i) done k d
            ∙ ap (λ (x : ℕ). get_or done (w * x + k) d) (sym (number_back i h))
            ∙ s.each (place i) (IsPlace_in i h) k (omega arith))

        behind : drop (w * n) done ≡ drop (w * n) room
        behind =
            ext_get_or d (drop (w * n) done) (drop (w * n) room) (length-drop (w * n) done ∙ ap (λ (x : ℕ). x - w * n) s.long ∙ sym (length-drop (w * n) room))
            (λ j l. get_or-drop (w * n) done j d ∙ s.rest (w * n + j) (omega arith) ∙ sym (get_or-drop (w * n) room j d))

        from : (i m : ℕ) → i + m ≡ n → drop (w * i) done ≡ in_turn turn i m ++ drop (w * n) room
        from i zero e =
            let last : i ≡ n = omega arith in
            rw (turn_none turn i) (ap (λ (x : ℕ). drop (w * x) done) last ∙ behind)
        from i (suc m) e =
            sym (take-append-drop w (drop (w * i) done))
            ∙ ap₂ (λ (a b : List A). a ++ b) (block i (omega arith)) (drop-drop w (w * i) done ∙ ap (λ (x : ℕ). drop x done) (sym (mul-suc w i)) ∙ from (suc i) m (omega arith))
            ∙ sym (append_assoc (row (place i)) (in_turn turn (suc i) m) (drop (w * n) room))
            ∙ ap (λ (a : List A). a ++ drop (w * n) room) (sym (turn_more turn i m))

        -- all stand, in the order of their numbers, and what is behind them is as it was
        pub all_stand : done ≡ in_turn turn 0 n ++ drop (w * n) room
        all_stand = ap (λ (x : ℕ). drop x done) (sym (mul-zero w)) ∙ from 0 n (zero-add n)
