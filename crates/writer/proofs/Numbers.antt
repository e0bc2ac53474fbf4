-- The numbers that are written of a task, and whether all its deadlines are the same, one by one.
use mathlib.Core.Bool.{Bool, true, false, ◌&&◌}
use mathlib.Core.List.{List, [], ◌∷◌, ◌++◌, map, append_assoc}
use mathlib.Core.Path.{◌≡◌, refl, sym, ap, ap₂, ◌∙◌}
use Prim.Native.Nat.{ℕ, zero, suc, ◌-◌, ◌*◌, ◌/◌, ◌%◌, ◌≤◌, ◌<◌}
use native.Mathlib.Nat.{one-mul, div-add-mod', mod-lt}
use native.Mathlib.Omega.{arith}
use lib.Dec.{eqb}
use lib.ListN.{length, get_or, take, replicate}
use lib.Seq.{take_at}
use Rattle.theory.specs.Tasks.{deadline_of}
use Rattle.sheet.specs.Constants.{fixed_room, most_frames}
use Rattle.sheet.specs.Fields.{fixed_widths, frame_fields}
use Rattle.sheet.specs.Tasks.{task_in}
use Rattle.sheet.specs.Admission.{all}
use Rattle.sheet.specs.Writing.{fixed_numbers, frame_numbers, by_turns, one_deadline, one_deadline_each}
use Rattle.sheet.specs.declared.Task.{Task as Record}
use Rattle.sheet.proofs.Filled.{filled, all_filled}
use Rattle.sheet.proofs.Records.{frame_slot, deadline_slot, as_many_slots}
use Rattle.sheet.proofs.Turns.{firsts_turns, seconds_turns, first_at, second_at, length_turns}
use Rattle.std.specs.List.{list_all}
use Rattle.std.specs.Prelude.{nat_eq}
use Rattle.writer.proofs.Tasks.{Slots, count_is}

-- a number that is not even leaves one
rest_one : (j : ℕ) → (j % 2 ≡ 0 → ⊥) → j % 2 ≡ 1
rest_one j odd = go (j % 2) (mod-lt j (omega arith)) odd
  where
    go : (n : ℕ) → n < 2 → (n ≡ 0 → ⊥) → n ≡ 1
    go zero h f = absurd (f refl)
    go (suc zero) h f = refl
    go (suc (suc n)) h f = let z : ⊥ = omega arith in absurd z

module _ (r : Record) (few : r.frame_count ≤ most_frames) (slots : Slots r) where
  -- how many frames
  counted : length (task_in r).frames ≡ r.frame_count
  counted = count_is true r few slots

  -- ---- the fixed part

  pub fixed_own : (own : Bool) → own ≡ true
      → ◌≡◌ {A = List ℕ} (r.period ∷ r.lock ∷ r.frame_count ∷ 0 ∷ []) (fixed_numbers own (task_in r) ++ replicate (fixed_room - length (fixed_widths own)) 0)
  unfolding fixed_numbers task_in
  fixed_own own e = rw e (ap (λ (n : ℕ). r.period ∷ r.lock ∷ n ∷ 0 ∷ []) (sym counted))

  pub fixed_one : (own : Bool) (d : ℕ) → own ≡ false → d ≡ deadline_of (task_in r) 0
      → ◌≡◌ {A = List ℕ} (r.period ∷ d ∷ r.lock ∷ r.frame_count ∷ []) (fixed_numbers own (task_in r) ++ replicate (fixed_room - length (fixed_widths own)) 0)
  unfolding fixed_numbers task_in
  fixed_one own d e ed = rw e (ap₂ (λ (x n : ℕ). r.period ∷ x ∷ r.lock ∷ n ∷ []) ed (sym counted))

  -- ---- the frames

  pub numbers_many : (own : Bool) → length (frame_numbers own (task_in r)) ≡ frame_fields own * r.frame_count
  unfolding frame_numbers
  numbers_many false = counted ∙ sym (one-mul r.frame_count)
  numbers_many true =
      length_turns (task_in r).frames (task_in r).deadlines (as_many_slots r slots.frames slots.deadlines) ∙ ap (λ (n : ℕ). 2 * n) counted

  module _ (own : Bool) (j : ℕ) (inside : j < frame_fields own * r.frame_count) where
    pub time_alone : own ≡ false → get_or r.frames j 0 ≡ get_or (frame_numbers own (task_in r)) j 0
    unfolding frame_numbers
    time_alone e =
        let here : j < 1 * r.frame_count = rw e at inside in
        rw e (sym (frame_slot r j (omega (arith, counted))))

    half_in : own ≡ true → j / 2 < length (task_in r).frames
    half_in e =
        let here : j < 2 * r.frame_count = rw e at inside in
        let whole = div-add-mod' j 2 in
        omega (arith, counted)

    pub time_by_turns : own ≡ true → j % 2 ≡ 0 → get_or r.frames (j / 2) 0 ≡ get_or (frame_numbers own (task_in r)) j 0
    unfolding frame_numbers
    time_by_turns e even =
        let same = as_many_slots r slots.frames slots.deadlines in
        let row = by_turns (task_in r).frames (task_in r).deadlines in
        let at : 2 * (j / 2) ≡ j = omega (arith, div-add-mod' j 2) in
        rw e
        (sym (frame_slot r (j / 2) (half_in e))
        ∙ ap (λ (l : List ℕ). get_or l (j / 2) 0) (sym (firsts_turns (task_in r).frames (task_in r).deadlines same))
        ∙ first_at row (j / 2) (rw (firsts_turns (task_in r).frames (task_in r).deadlines same) (half_in e))
        ∙ ap (λ (n : ℕ). get_or row n 0) at)

    pub deadline_by_turns : own ≡ true → (j % 2 ≡ 0 → ⊥) → get_or r.deadlines (j / 2) 0 ≡ get_or (frame_numbers own (task_in r)) j 0
    unfolding frame_numbers
    deadline_by_turns e odd =
        let same = as_many_slots r slots.frames slots.deadlines in
        let row = by_turns (task_in r).frames (task_in r).deadlines in
        let at : suc (2 * (j / 2)) ≡ j = omega (arith, div-add-mod' j 2, rest_one j odd) in
        rw e
        (sym (deadline_slot r (j / 2) (half_in e))
        ∙ ap (λ (l : List ℕ). get_or l (j / 2) 0) (sym (seconds_turns (task_in r).frames (task_in r).deadlines same))
        ∙ second_at row (j / 2) (rw (firsts_turns (task_in r).frames (task_in r).deadlines same) (half_in e))
        ∙ ap (λ (n : ℕ). get_or row n 0) at)

  -- a row whose first numbers were filled with all of them
  pub all_numbers : (own : Bool) (m j : ℕ) (rest : List ℕ) → m ≡ frame_fields own * r.frame_count → j ≡ m
      → take (frame_fields own * r.frame_count) (filled m 0 (frame_numbers own (task_in r)) j ++ rest) ≡ frame_numbers own (task_in r)
  all_numbers own m j rest e h =
      rw (all_filled m 0 (frame_numbers own (task_in r)) j (numbers_many own ∙ sym e ∙ sym h), append_assoc (frame_numbers own (task_in r)) (replicate (m - length (frame_numbers own (task_in r))) 0) rest)
      (take_at (frame_numbers own (task_in r)) _ (frame_fields own * r.frame_count) (numbers_many own))

-- ---- one deadline

-- the test that sheet's definition names is the library's
all_listed : (test : ℕ → Bool) (ns : List ℕ) → list_all test ns ≡ all test ns
unfolding all
all_listed test [] = refl
all_listed test (n ∷ ns) = ap (λ (b : Bool). test n && b) (all_listed test ns)

pub one_is : (r : Record) (first : ℕ) → first ≡ deadline_of (task_in r) 0 → list_all (λ d. nat_eq d first) (task_in r).deadlines ≡ one_deadline (task_in r)
unfolding one_deadline
one_is r first e = rw e (all_listed (λ d. nat_eq d (deadline_of (task_in r) 0)) (task_in r).deadlines)

pub each_listed : (rs : List Record) → list_all (λ r. one_deadline (task_in r)) rs ≡ one_deadline_each (map task_in rs)
unfolding one_deadline_each
each_listed [] = refl
each_listed (r ∷ rs) = ap (λ (b : Bool). one_deadline (task_in r) && b) (each_listed rs)
