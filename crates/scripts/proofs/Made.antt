-- Which strings are made as scripts: the count, where it is there, and each return of the test by the facts that lead to it.
use Rattle.std.proofs.Common.{◌≡◌, ℕ, ◌+◌, ◌^◌, ◌<◌, Bool, true, false, not, ◌&&◌, cond, leb, eqb, List, length, drop, Option, None, Some, Ok, Err, unwrap_or, refl, sym, ap, ap₂, ◌∙◌, arith}
use Rattle.std.specs.Result.{is_ok}
use mathlib.Core.Bool.{and-eq-true_iff}
use native.Mathlib.Decide.{ℕ_discrete}
use borrow.Author.Tests.{lt-leb, eqb-true, ne_eqb, eq-eqb, not-true}
use Rattle.bits.specs.Packed.{bits_of, field}
use Rattle.bits.specs.Faces.{within, taken}
use Rattle.bits.proofs.Laws.{length_bits}
use Rattle.bits.proofs.Within.{within_end}
use Rattle.check_word.specs.Division.{body, sealed}
use Rattle.records.specs.Rows.{unpacked, total}
use Rattle.records.specs.Sealed.{sealed_size, some_set, rest_of}
use Rattle.records.specs.declared.Surplus.TheVariants.{BitSet}
use Rattle.records.proofs.Filling.{length_rest}
use Rattle.records.proofs.Packing.{value_taken}
use Rattle.scripts.specs.Format.{first_frame_widths, entry_count_width, script_width}
use Rattle.scripts.specs.Reading.{entry_count_in, entry_count, there, well_made}
use Rattle.scripts.proofs.Widths.{firsts_width, width_is, body_length}

-- a count has 24 bits
pub count_small : (n : ℕ) (bits : List Bool) → entry_count_in n bits < 2 ^ 24
unfolding entry_count_in unpacked
count_small n bits = value_taken 24 (drop (total (first_frame_widths n)) bits)

-- fewer than eight bits behind the last entry are fill
rest_short : (left : List Bool) → length left < 8 → is_ok (rest_of left) ≡ not (some_set left)
unfolding rest_of
rest_short left h = rw (lt-leb 8 (length left) h) (go (some_set left))
  where
    go : (b : Bool) → is_ok (cond b (Err BitSet) (Ok (tt {0}))) ≡ not b
    go true = refl
    go false = refl

module _ (s : List ℕ) (n : ℕ) where
  abbrev bits : List Bool
  bits = bits_of (body s)

  there_within : within (length (body s)) (total (first_frame_widths n)) entry_count_width ≡ there n 0 s
  unfolding there
  there_within =
      let end : total (first_frame_widths n) + 24 ≡ script_width n 0 = omega (arith, firsts_width n, width_is n 0) in
      within_end (length (body s)) (total (first_frame_widths n)) 24 (omega arith) (omega arith)
      ∙ ap₂ leb end (sym (length_bits (body s)))

  count_is : taken (body s) (total (first_frame_widths n)) entry_count_width ≡ cond (there n 0 s) (Some (entry_count_in n bits)) None
  unfolding taken entry_count_in unpacked field
  count_is = ap (λ (b : Bool). cond b (Some (entry_count_in n bits)) None) there_within

  pub counted : unwrap_or (taken (body s) (total (first_frame_widths n)) entry_count_width) 0 ≡ entry_count n s
  unfolding entry_count
  counted = ap (λ (o : Option ℕ). unwrap_or o 0) count_is ∙ go (there n 0 s)
    where
      go : (b : Bool) → unwrap_or (cond b (Some (entry_count_in n bits)) None) 0 ≡ cond b (entry_count_in n bits) 0
      go true = refl
      go false = refl

  module _ (t : Option ℕ) (e : t ≡ taken (body s) (total (first_frame_widths n)) entry_count_width) where
    count_there : (count : ℕ) → t ≡ Some count → (there n 0 s ≡ true) × (entry_count_in n bits ≡ count)
    count_there count f = go (there n 0 s) (sym count_is ∙ sym e ∙ f)
      where
        go : (b : Bool) → cond b (Some (entry_count_in n bits)) None ≡ Some count → (b ≡ true) × (entry_count_in n bits ≡ count)
        go true q = (refl, cc)
        go false q = absurd cc

    pub not_made : t ≡ None → false ≡ well_made n s
    unfolding well_made
    not_made f = go (there n 0 s) (sym count_is ∙ sym e ∙ f)
      where
        go : (b : Bool) → cond b (Some (entry_count_in n bits)) None ≡ None
            → false ≡ (b && eqb (length s) (sealed_size (script_width n (entry_count_in n bits))) && sealed s && not (some_set (drop (script_width n (entry_count_in n bits)) bits)))
        go true q = absurd cc
        go false q = refl

    -- the tests where the count is there, in the order of the code
    pub made_is : (count : ℕ) → t ≡ Some count
        → well_made n s ≡ (eqb (length s) (sealed_size (script_width n count)) && is_ok (rest_of (drop (script_width n count) bits)) && sealed s)
    unfolding well_made
    made_is count f = rw ((count_there count f).0, (count_there count f).1) (go (ℕ_discrete (length s) (sealed_size (script_width n count))))
      where
        left : List Bool
        left = drop (script_width n count) bits

        fill_is : length s ≡ sealed_size (script_width n count) → not (some_set left) ≡ is_ok (rest_of left)
        fill_is e =
            let short : length left < 8 = omega (arith, length_rest (body s) (script_width n count), body_length s) in
            sym (rest_short left short)

        swapped : (b d : Bool) → (b && d) ≡ (d && b)
        swapped true true = refl
        swapped true false = refl
        swapped false true = refl
        swapped false false = refl

        go : Dec (length s ≡ sealed_size (script_width n count))
            → ((eqb (length s) (sealed_size (script_width n count)) && sealed s) && not (some_set left)) ≡ ((eqb (length s) (sealed_size (script_width n count)) && is_ok (rest_of left)) && sealed s)
        go (yes e) = rw (eq-eqb (length s) (sealed_size (script_width n count)) e, fill_is e) (swapped (sealed s) (is_ok (rest_of left)))
        go (no ne) = rw (ne_eqb (length s) (sealed_size (script_width n count)) ne)

  -- what a string that is made as a script has
  pub record Made : Type 0 where
    pub size : length s ≡ sealed_size (script_width n (entry_count_in n bits))
    pub counted_there : there n 0 s ≡ true
    pub right : sealed s ≡ true
    pub unset : some_set (drop (script_width n (entry_count_in n bits)) bits) ≡ false

  pub made : well_made n s ≡ true → Made
  unfolding well_made
  made e =
      let width = script_width n (entry_count_in n bits) in
      let a = (and-eq-true_iff ((there n 0 s && eqb (length s) (sealed_size width)) && sealed s) (not (some_set (drop width bits)))).0 e in
      let b = (and-eq-true_iff (there n 0 s && eqb (length s) (sealed_size width)) (sealed s)).0 a.0 in
      let c = (and-eq-true_iff (there n 0 s) (eqb (length s) (sealed_size width))).0 b.0 in
      record { size = eqb-true (length s) (sealed_size width) c.1; counted_there = c.0; right = b.1; unset = not_to_false (some_set (drop width bits)) a.1 }
    where
      not_to_false : (b : Bool) → not b ≡ true → b ≡ false
      not_to_false b = not-true b
