-- `take_field` meets its contract: the field stands among the digits of the few bytes that it touches.
use Rattle.std.specs.Prelude.{Some}
use mathlib.Core.Path.{sym, ap, ◌∙◌}
use Prim.Native.Nat.{ℕ, ◌/◌, ◌%◌, ◌^◌}
use native.Mathlib.Nat.{mod-lt, lt_of_lt_of_le}
use lib.Pow.{pow_mono, pow_pos}
use Rattle.bits.proofs.Chunk.{field_value, part_end, part_small}
use Rattle.bits.proofs.Faces.{taken_outside, taken_value}
use Rattle.bits.proofs.Within.{passed}
use Rattle.bits.proofs.take_field.Goals as goal

pub returns-then-not-lies_within : goal.returns-then-not-lies_within
returns-then-not-lies_within c = sym (taken_outside _ _ _ (sym c.lies_within.ensures ∙ c.if-not-lies_within.true))

pub touched_by-first-requires : goal.touched_by-first-requires
touched_by-first-requires c = let h = passed c.lies_within.ensures c.if-not-lies_within.false in (h.low, h.high)

pub slice_bounds-number-end : goal.slice_bounds-number-end
slice_bounds-number-end c = part_end _ _ _ _ _ _ (passed c.lies_within.ensures c.if-not-lies_within.false) c.touched_by-first.ensures

pub number-run-requires : goal.number-run-requires
number-run-requires c = part_small _ _ _ _ _ _ (passed c.lies_within.ensures c.if-not-lies_within.false) c.touched_by-first.ensures

pub low_bits-requires : goal.low_bits-requires
low_bits-requires c = (passed c.lies_within.ensures c.if-not-lies_within.false).high

pub overflow_cast-result : goal.overflow_cast-result
overflow_cast-result c =
    let h = passed c.lies_within.ensures c.if-not-lies_within.false in
    let w = c.args.width in
    record { fits = rw c.low_bits.ensures (lt_of_lt_of_le (mod-lt _ (pow_pos w)) (pow_mono {j = 32} h.high)) }

pub returns : goal.returns
returns c =
    let h = passed c.lies_within.ensures c.if-not-lies_within.false in
    ap Some (c.low_bits.ensures
    ∙ ap (λ (n : ℕ). n / 2 ^ c.touched_by-first.result.past % 2 ^ c.args.width) c.number-run.ensures
    ∙ sym (field_value _ _ _ _ _ _ h c.touched_by-first.ensures))
    ∙ sym (taken_value _ _ _ h)
