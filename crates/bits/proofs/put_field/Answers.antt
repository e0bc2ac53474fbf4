-- `put_field` meets its contract: the field is replaced among the digits of the few bytes that it touches.
use mathlib.Core.Path.{sym, ◌∙◌}
use native.Mathlib.Omega.{arith}
use Rattle.bits.proofs.Chunk.{field_put, part_end, part_small, past_small, part_number_lt}
use Rattle.bits.proofs.Faces.{fits_outside, fits_not, fits_well, stored_not, stored_well}
use Rattle.bits.proofs.Masks.{shifted_out, not_shifted_out}
use Rattle.bits.proofs.Within.{passed}
use Rattle.bits.proofs.put_field.Goals as goal

pub returns-then-not-lies_within : goal.returns-then-not-lies_within
returns-then-not-lies_within c =
    let no = fits_outside _ _ _ c.args.value (sym c.lies_within.ensures ∙ c.if-not-lies_within.true) in
    (sym no, sym (stored_not _ _ _ _ no))

pub overflow_shr-v : goal.overflow_shr-v
overflow_shr-v c = let h = passed c.lies_within.ensures c.if-not-lies_within.false in omega (arith, h.high)

pub returns-then-v-width-ne0 : goal.returns-then-v-width-ne0
returns-then-v-width-ne0 c =
    let no = fits_not _ _ _ c.args.value (passed c.lies_within.ensures c.if-not-lies_within.false) (not_shifted_out _ _ c.if-v-width-ne0.true) in
    (sym no, sym (stored_not _ _ _ _ no))

pub touched_by-first-requires : goal.touched_by-first-requires
touched_by-first-requires c = let h = passed c.lies_within.ensures c.if-not-lies_within.false in (h.low, h.high)

pub slice_bounds-number-end : goal.slice_bounds-number-end
slice_bounds-number-end c = part_end _ _ _ _ _ _ (passed c.lies_within.ensures c.if-not-lies_within.false) c.touched_by-first.ensures

pub number-run-requires : goal.number-run-requires
number-run-requires c = part_small _ _ _ _ _ _ (passed c.lies_within.ensures c.if-not-lies_within.false) c.touched_by-first.ensures

pub slice_bounds-hold_number-end : goal.slice_bounds-hold_number-end
slice_bounds-hold_number-end c = part_end _ _ _ _ _ _ (passed c.lies_within.ensures c.if-not-lies_within.false) c.touched_by-first.ensures

pub with_value-requires : goal.with_value-requires
with_value-requires c =
    let h = passed c.lies_within.ensures c.if-not-lies_within.false in
    let p = c.touched_by-first.ensures in
    (rw c.number-run.ensures (part_number_lt _ _ _ _ _ _ h p), h.high, past_small _ _ _ _ _ _ h p, shifted_out _ _ c.if-v-width-ne0.false)

pub hold_number-requires : goal.hold_number-requires
hold_number-requires c = part_small _ _ _ _ _ _ (passed c.lies_within.ensures c.if-not-lies_within.false) c.touched_by-first.ensures

pub returns : goal.returns
returns c =
    let h = passed c.lies_within.ensures c.if-not-lies_within.false in
    let small = shifted_out _ _ c.if-v-width-ne0.false in
    let yes_fits = fits_well _ _ _ c.args.value h small in (
      sym yes_fits,
      field_put _ _ _ _ _ _ h c.touched_by-first.ensures c.args.value _ _ _ small (λ i. grind arith)
          c.number-run.ensures c.with_value.ensures c.hold_number.ensures
          ∙ sym (stored_well _ _ _ _ yes_fits),
    )
