-- A field and the few bytes that it touches: `span` bytes from byte `first` on, `lead` bits before the field and `past` behind it.
use mathlib.Core.Bool.{Bool}
use mathlib.Core.List.{List, ◌++◌}
use mathlib.Core.Path.{◌≡◌, sym, ap, ◌∙◌}
use Prim.Native.Nat.{ℕ, ◌+◌, ◌-◌, ◌*◌, ◌/◌, ◌%◌, ◌^◌, ◌≤◌, ◌<◌}
use native.Mathlib.Omega.{arith}
use lib.ListN.{length, take, drop, length-take, length-drop, take-append-drop}
use lib.Seq.{drop-append_seam}
use Rattle.bits.specs.Packed.{value, digits, Bytes, bits_of, bytes_of, field, with_field}
use Rattle.bits.proofs.Laws.{length_digits, value_digits, digits_value, length_bits, bits_append, bits_bytes, equal_bits, bytes_are_bytes, bytes_append, bytes_take, bytes_drop}
use Rattle.bits.proofs.Numbers.{number_lt}
use Rattle.bits.proofs.Within.{Inside}
use Rattle.bits.proofs.Fields.{field_drop, field_append, with_field_inside, length_with_field, take_digits, put_digits, replaced}

module _ (s : List ℕ) (first span lead w past : ℕ) (e : 8 * span ≡ lead + (w + past)) (inside : first + span ≤ length s) where
  abbrev chunk : List ℕ
  chunk = take span (drop first s)

  length_chunk : length chunk ≡ span
  length_chunk = simp (length-take, length-drop) (omega arith)

  -- the bytes before the field's, its own, those behind
  parts : s ≡ take first s ++ (chunk ++ drop span (drop first s))
  parts =
      sym (ap (λ (l : List ℕ). take first s ++ l) (take-append-drop span (drop first s)) ∙ take-append-drop first s)

  bit_parts : bits_of s ≡ bits_of (take first s) ++ (bits_of chunk ++ bits_of (drop span (drop first s)))
  bit_parts =
      ap bits_of parts ∙ bits_append (take first s) (chunk ++ drop span (drop first s))
      ∙ ap (λ (l : List Bool). bits_of (take first s) ++ l) (bits_append chunk (drop span (drop first s)))

  bits_before : length (bits_of (take first s)) ≡ 8 * first
  bits_before = rw (length_bits, length-take) (omega arith)

  bits_own : length (bits_of chunk) ≡ lead + (w + past)
  bits_own = rw (length_bits, length_chunk) e

  own_digits : bits_of chunk ≡ digits (lead + (w + past)) (value (bits_of chunk))
  own_digits = sym (ap (λ (k : ℕ). digits k (value (bits_of chunk))) (sym bits_own) ∙ digits_value (bits_of chunk))

  pub chunk_take : value (field (8 * first + lead) w (bits_of s)) ≡ value (bits_of chunk) / 2 ^ past % 2 ^ w
  chunk_take =
      ap value
      (rw bit_parts (ap (λ (k : ℕ). field (k + lead) w (bits_of (take first s) ++ (bits_of chunk ++ bits_of (drop span (drop first s))))) (sym bits_before)
      ∙ field_drop (length (bits_of (take first s))) lead w _
      ∙ ap (field lead w) (drop-append_seam (bits_of (take first s)) _)
      ∙ field_append lead w (bits_of chunk) _ (omega (arith, bits_own))
      ∙ ap (field lead w) own_digits
      ∙ take_digits lead w past (value (bits_of chunk))))
      ∙ value_digits w (value (bits_of chunk) / 2 ^ past)

  pub chunk_put : (v : ℕ) → v < 2 ^ w → Bytes s
      → take first s ++ (bytes_of span (digits (8 * span) (replaced w past (value (bits_of chunk)) v)) ++ drop span (drop first s))
      ≡ bytes_of (length s) (with_field (8 * first + lead) (digits w v) (bits_of s))
  chunk_put v h bytes =
      equal_bits _ _
      (bytes_append (take first s) _ (bytes_take first s bytes)
      (bytes_append (bytes_of span new) (drop span (drop first s)) (bytes_are_bytes span new) (bytes_drop span (drop first s) (bytes_drop first s bytes))))
      (bytes_are_bytes (length s) _)
      (bits_append (take first s) _
      ∙ ap (λ (l : List Bool). bits_of (take first s) ++ l)
      (bits_append _ (drop span (drop first s)) ∙ ap (λ (l : List Bool). l ++ bits_of (drop span (drop first s))) own)
      ∙ sym (bits_bytes (length s) _ all
      ∙ ap (with_field (8 * first + lead) f) bit_parts
      ∙ ap (λ (k : ℕ). with_field (k + lead) f (bits_of (take first s) ++ (bits_of chunk ++ bits_of (drop span (drop first s))))) (sym bits_before)
      ∙ with_field_inside lead f (bits_of (take first s)) (bits_of chunk) (bits_of (drop span (drop first s))) room))
    where
      f : List Bool
      f = digits w v

      new : List Bool
      new = digits (8 * span) (replaced w past (value (bits_of chunk)) v)

      room : lead + length f ≤ length (bits_of chunk)
      room = rw (bits_own, length_digits w v) (omega arith)

      all : length (with_field (8 * first + lead) f (bits_of s)) ≡ 8 * length s
      all = length_with_field (8 * first + lead) f (bits_of s) (rw (length_digits w v, length_bits s) (omega arith)) ∙ length_bits s

      own : bits_of (bytes_of span new) ≡ with_field lead f (bits_of chunk)
      own =
          bits_bytes span _ (length_digits (8 * span) _)
          ∙ ap (λ (k : ℕ). digits k (replaced w past (value (bits_of chunk)) v)) e
          ∙ sym (ap (with_field lead f) own_digits ∙ put_digits lead w past (value (bits_of chunk)) v h)

-- the same where the bytes are found from the field's position and width
abbrev pub TouchedBy : ℕ → ℕ → ℕ → ℕ → ℕ → Type 0
TouchedBy at w first end past = (first ≡ at / 8) × (end ≡ (at + w + 7) / 8) × (past ≡ 8 * ((at + w + 7) / 8) - (at + w))

module _ (n at w first end past : ℕ) (h : Inside n at w) (p : TouchedBy at w first end past) where
  whole : 8 * (end - first) ≡ at % 8 + (w + past)
  whole = omega arith

  room : first + (end - first) ≤ n
  room = omega arith

  position : at ≡ 8 * first + at % 8
  position = omega arith

  pub part_end : end ≤ n
  part_end = omega arith

  pub past_small : past < 8
  past_small = omega arith

  span_small : end - first ≤ 5
  span_small = omega arith

module _ (s : List ℕ) (at w first end past : ℕ) (h : Inside (length s) at w) (p : TouchedBy at w first end past) where
  abbrev part : List ℕ
  part = take (end - first) (drop first s)

  pub field_value : value (field at w (bits_of s)) ≡ value (bits_of part) / 2 ^ past % 2 ^ w
  field_value =
      ap (λ (k : ℕ). value (field k w (bits_of s))) (position _ at w first end past h p)
      ∙ chunk_take s first (end - first) (at % 8) w past (whole _ at w first end past h p) (room _ at w first end past h p)

  field_stored : (v : ℕ) → v < 2 ^ w → Bytes s
      → take first s ++ (bytes_of (end - first) (digits (8 * (end - first)) (replaced w past (value (bits_of part)) v)) ++ drop (end - first) (drop first s))
      ≡ bytes_of (length s) (with_field at (digits w v) (bits_of s))
  field_stored v l bytes =
      chunk_put s first (end - first) (at % 8) w past (whole _ at w first end past h p) (room _ at w first end past h p) v l bytes
      ∙ ap (λ (k : ℕ). bytes_of (length s) (with_field k (digits w v) (bits_of s))) (sym (position _ at w first end past h p))

  part_count : length part ≡ end - first
  part_count = simp (length-take, length-drop) (omega (arith, room _ at w first end past h p))

  pub part_small : length part ≤ 5
  part_small = omega (arith, part_count, span_small _ at w first end past h p)

  pub part_number_lt : value (bits_of part) < 2 ^ 40
  part_number_lt = number_lt part 5 part_small

  -- by way of the number that the part holds, the number with the field in it, and the bytes of that
  pub field_put : (v run new : ℕ) (ys : List ℕ) → v < 2 ^ w → Bytes s → run ≡ value (bits_of part) → new ≡ replaced w past run v
      → ys ≡ bytes_of (length part) (digits (8 * length part) new)
      → take first s ++ (ys ++ drop (end - first) (drop first s)) ≡ bytes_of (length s) (with_field at (digits w v) (bits_of s))
  field_put v run new ys l bytes er en ey = rw (ey, en, er, part_count) (field_stored v l bytes)
