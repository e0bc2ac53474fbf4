-- `at_least` meets its contract.
use Rattle.std.proofs.Common.{refl, sym, ◌∙◌, arith}
use Rattle.admission.proofs.Sums.{summed_none, sum_more, summed_more, left_all, left_passes, left_fails, left_ends}
use Rattle.admission.proofs.at_least.Goals as goal

pub loop-init : goal.loop-init
loop-init c = (summed_none _ _ c.requires.1, summed_none _ _ c.requires.2, left_all _ _ _)

pub offset_bounds-frames-i : goal.offset_bounds-frames-i
offset_bounds-frames-i c = record { fits = omega (arith, c.loop.invariant.0.inside) }

pub offset_bounds-frames-j : goal.offset_bounds-frames-j
offset_bounds-frames-j c = record { fits = omega (arith, c.loop.invariant.1.inside) }

pub loop-preserved : goal.loop-preserved
loop-preserved c =
    let frames = c.args.frames.now in (
      summed_more frames _ _ _ _ _ c.loop.invariant.0 refl _ (c.type_inv.frames c.loop.i).fits c.next_frame-i.ensures,
      summed_more frames _ _ _ _ _ c.loop.invariant.1 refl _ (c.type_inv.frames c.loop.j).fits c.next_frame-j.ensures,
      left_passes frames _ _ c.loop.counter _ _ c.loop-test.true
          (sum_more frames _ _ _ _ _ c.loop.invariant.0 refl)
          (sum_more frames _ _ _ _ _ c.loop.invariant.1 refl)
          c.if-sum_s-sum_k.false ∙ c.loop.invariant.2,
    )

pub returns-then-sum_s-sum_k : goal.returns-then-sum_s-sum_k
returns-then-sum_s-sum_k c =
    let frames = c.args.frames.now in
    sym (left_fails frames _ _ c.loop.counter _ _ c.loop-test.true
    (sum_more frames _ _ _ _ _ c.loop.invariant.0 refl)
    (sum_more frames _ _ _ _ _ c.loop.invariant.1 refl)
    c.if-sum_s-sum_k.true) ∙ c.loop.invariant.2

pub returns : goal.returns
returns c = sym (left_ends _ _ _ _ c.loop-test.false) ∙ c.loop.invariant.2
