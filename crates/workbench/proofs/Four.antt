-- Times in four bytes each, and rows of them in task-number order.
use Rattle.std.proofs.Common.{◌≡◌, ℕ, zero, suc, ◌+◌, ◌-◌, ◌*◌, ◌≤◌, ◌<◌, List, [], ◌∷◌, ◌++◌, length, get_or, take, drop, refl, sym, ap, ◌∙◌, append_assoc, append-nil, length-append, length-take-le, drop-drop, add-one, arith}
use Rattle.std.specs.Int.{w32, to_be_bytes}
use native.Mathlib.Nat.{div-one}
use borrow.Rule.Slice.PartMut.{put_mid}
use lib.Dec.{lit<}
use lib.ListN.{length-take, length-drop, drop_of_length-le}
use lib.Seq.{take-suc, take_all, take_at, drop_at, get_or-take}
use Rattle.bits.specs.Packed.{digits, bytes_of}
use Rattle.bits.proofs.Laws.{length_bytes}
use Rattle.bits.proofs.Numbers.{byte_of}
use Rattle.lent.specs.Lent.{laid}
use Rattle.analysis.specs.Findings.{no_finding, finding_in, slots_in, in_turn, times_by_number}
use Rattle.analysis.specs.Inside.Numbered.{Numbered}
use Rattle.analysis.specs.Times.{written_slots}
use Rattle.analysis.specs.declared.Analysis.{Analysis}
use Rattle.analysis.specs.declared.Finding.{Finding}
use Rattle.analysis.proofs.ByNumber.{Stands, stands_more, all_stand}
use Rattle.analysis.proofs.Delivered.{number_below, numbers_apart, place_found, place_found_in, number_found_back, by_number_length}
use Rattle.workbench.specs.Entry.{task_size, as_bytes}

four : (l : List ℕ) → length l ≡ 4 → l ≡ get_or l 0 0 ∷ get_or l 1 0 ∷ get_or l 2 0 ∷ get_or l 3 0 ∷ []
four (a ∷ b ∷ c ∷ d ∷ []) e = refl
four [] e = absurd (omega arith)
four (a ∷ []) e = absurd (omega arith)
four (a ∷ b ∷ []) e = absurd (omega arith)
four (a ∷ b ∷ c ∷ []) e = absurd (omega arith)
four (a ∷ b ∷ c ∷ d ∷ x ∷ l) e = absurd (omega arith)

-- four bytes of a number, high byte first
pub four_of : (n : ℕ) → bytes_of 4 (digits 32 n) ≡ to_be_bytes w32 n
four_of n =
    four (bytes_of 4 (digits 32 n)) (length_bytes 4 (digits 32 n))
    ∙ rw (byte_of 4 n 0 (lit< tt), byte_of 4 n 1 (lit< tt), byte_of 4 n 2 (lit< tt), byte_of 4 n 3 (lit< tt), div-one n)

-- what is put to a part of so many bytes
pub put_part : (at w : ℕ) (s part : List ℕ) → put_mid at (at + w - at) s part ≡ take at s ++ part ++ drop (at + w) s
put_part at w s part =
    let wide : at + w - at ≡ w = omega arith in
    ap (λ (l : List ℕ). take at s ++ (part ++ l)) (ap (λ (k : ℕ). drop k (drop at s)) wide ∙ drop-drop w at s) ∙ sym (append_assoc (take at s) part (drop (at + w) s))

-- ---- many numbers

pub length_four : (xs : List ℕ) → length (as_bytes xs) ≡ 4 * length xs
unfolding as_bytes
length_four [] = refl
length_four (x ∷ xs) = rw (length-append (bytes_of 4 (digits 32 x)) (as_bytes xs), length_bytes 4 (digits 32 x), length_four xs) (omega arith)

pub four_append : (xs ys : List ℕ) → as_bytes (xs ++ ys) ≡ as_bytes xs ++ as_bytes ys
unfolding as_bytes
four_append [] ys = refl
four_append (x ∷ xs) ys = ap (λ (l : List ℕ). bytes_of 4 (digits 32 x) ++ l) (four_append xs ys) ∙ sym (append_assoc (bytes_of 4 (digits 32 x)) (as_bytes xs) (as_bytes ys))

-- times put one after another
module _ (d xs : List ℕ) where
  -- the first i of them
  pub fours : ℕ → List ℕ
  fours i = as_bytes (take i xs) ++ drop (4 * i) d

  pub none_put : d ≡ fours 0
  unfolding fours as_bytes
  none_put = refl

  pub length_fours : (i : ℕ) → i ≤ length xs → 4 * i ≤ length d → length (fours i) ≡ length d
  unfolding fours
  length_fours i h l = simp (length-append, length_four, length-take, length-drop) (omega arith)

  pub fours_more : (i : ℕ) (put : List ℕ) → i < length xs → put ≡ to_be_bytes w32 (get_or xs i 0) → put_mid (4 * i) (4 * i + 4 - 4 * i) (fours i) put ≡ fours (i + 1)
  unfolding fours as_bytes
  fours_more i put h ef =
      let f = as_bytes (take i xs) in
      let long : length f ≡ 4 * i = length_four (take i xs) ∙ ap (λ (k : ℕ). 4 * k) (length-take-le i xs (omega arith)) in
      let more : as_bytes (take (i + 1) xs) ≡ f ++ put =
      rw (add-one i, take-suc xs i 0 h, four_append (take i xs) (get_or xs i 0 ∷ []), append-nil (bytes_of 4 (digits 32 (get_or xs i 0)))) (ap (λ (l : List ℕ). f ++ l) (four_of (get_or xs i 0) ∙ sym ef)) in
      let before : take (4 * i) (f ++ drop (4 * i) d) ≡ f = take_at f (drop (4 * i) d) (4 * i) long in
      let behind : drop (4 * i + 4) (f ++ drop (4 * i) d) ≡ drop (4 * i + 4) d =
      sym (drop-drop 4 (4 * i) (f ++ drop (4 * i) d)) ∙ ap (drop 4) (drop_at f (drop (4 * i) d) (4 * i) long) ∙ drop-drop 4 (4 * i) d in
      let next : 4 * (i + 1) ≡ 4 * i + 4 = omega arith in
      put_part (4 * i) 4 (f ++ drop (4 * i) d) put ∙ rw (before, behind, more, next) refl

  pub all_put : (i : ℕ) → i ≡ length xs → 4 * length xs ≡ length d → fours i ≡ as_bytes xs
  unfolding fours
  all_put i e l = rw (take_all i xs (omega arith), drop_of_length-le d {i = 4 * i} (omega arith)) (append-nil (as_bytes xs))

-- ---- rows of times in task-number order

four_in_turn : (row : ℕ → List ℕ) (i n : ℕ) → in_turn (λ j. as_bytes (row j)) i n ≡ as_bytes (in_turn row i n)
unfolding in_turn as_bytes
four_in_turn row i zero = refl
four_in_turn row i (suc n) = ap (λ (l : List ℕ). as_bytes (row i) ++ l) (four_in_turn row (suc i) n) ∙ sym (four_append (row i) (in_turn row (suc i) n))

-- after p places their times stand at their numbers
abbrev pub AtNumbers : Analysis → List ℕ → List ℕ → ℕ → Type 0
AtNumbers a = Stands 0 task_size a.task_count (λ p. (finding_in a p).number) (λ p. as_bytes (slots_in a p))

module _ (a : Analysis) (h : Numbered a) (room : List ℕ) (enough : task_size * a.task_count ≤ length room) where
  wide : (p : ℕ) → p < a.task_count → length (as_bytes (slots_in a p)) ≡ task_size
  wide p l = length_four (slots_in a p) ∙ ap (λ (k : ℕ). 4 * k) (h.eight p l)

  -- the finding of a place, among those in use
  pub found_there : (p : ℕ) → p < length (take a.task_count a.findings) → get_or (take a.task_count a.findings) p no_finding ≡ finding_in a p
  found_there p l = get_or-take a.task_count a.findings p no_finding (omega (arith, length-take a.task_count a.findings))

  pub in_use_long : length (take a.task_count a.findings) ≡ a.task_count
  in_use_long = length-take-le a.task_count a.findings (omega (arith, h.room, h.few))

  -- its times find room
  pub block_fits : (now : List ℕ) (p : ℕ) → length now ≡ length room → p < length (take a.task_count a.findings) → task_size * (get_or (take a.task_count a.findings) p no_finding).number + task_size ≤ length now
  block_fits now p e l = rw (found_there p l) (omega (arith, enough, number_below a h p (omega (arith, in_use_long))))

  pub numbers_more : (now put : List ℕ) (p : ℕ) → p < length (take a.task_count a.findings) → AtNumbers a room now p → let found : Finding = get_or (take a.task_count a.findings) p no_finding in
      put ≡ as_bytes (written_slots found.times) → AtNumbers a room (put_mid (task_size * found.number) (task_size * found.number + task_size - task_size * found.number) now put) (p + 1)
  numbers_more now put p l s ep =
      let found : Finding = get_or (take a.task_count a.findings) p no_finding in
      rw (put_part (task_size * found.number) task_size now put, ep, found_there p l)
      (stands_more 0 task_size a.task_count (λ p. (finding_in a p).number) (λ p. as_bytes (slots_in a p)) (number_below a h) (numbers_apart a h) wide room enough now p (omega (arith, in_use_long)) s)

  four_long : length (as_bytes (times_by_number a)) ≡ task_size * a.task_count
  four_long = length_four (times_by_number a) ∙ omega (arith, by_number_length a h)

  pub all_numbers : (now : List ℕ) (p : ℕ) → length (take a.task_count a.findings) ≤ p → p ≤ length (take a.task_count a.findings) → AtNumbers a room now p → now ≡ laid (as_bytes (times_by_number a)) room
  unfolding laid times_by_number
  all_numbers now p l m stand =
      let ends : p ≡ a.task_count = omega (arith, in_use_long) in
      let s = rw ends at stand in
      all_stand 0 task_size a.task_count (λ p. (finding_in a p).number) (λ p. as_bytes (slots_in a p)) (number_below a h) (numbers_apart a h) wide room enough
      (place_found a h) (place_found_in a h) (number_found_back a h) now s
      ∙ ap (λ (l : List ℕ). l ++ drop (task_size * a.task_count) room) (four_in_turn (λ i. slots_in a (place_found a h i)) 0 a.task_count)
      ∙ ap (λ (m : ℕ). as_bytes (times_by_number a) ++ drop m room) (sym four_long)
