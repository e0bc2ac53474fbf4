-- `reason` meets its contract.
use Rattle.std.proofs.Common.{◌+◌, ◌≤◌, ◌<◌, length, sym, ◌∙◌, arith}
use Rattle.theory.proofs.Search.{some_found, none_found}
use Rattle.admission.proofs.Rows.{search_hits, search_goes_on, search_ends}
use Rattle.admission.proofs.Reasons.{largest_frame_in, largest_frame_few, exceeding_in, exceeded_all, reason_at, reason_none}
use Rattle.admission.proofs.reason.Goals as goal

pub overflow_cast-frame : goal.overflow_cast-frame
overflow_cast-frame c = record { fits = omega (arith, c.first_largest-largest.ensures, largest_frame_few c.args.frames.now, c.requires) }

pub loop-n-init : goal.loop-n-init
loop-n-init c = (omega arith, exceeded_all c.args.frames.now _)

pub exceeding-requires : goal.exceeding-requires
exceeding-requires c =
    let inside = largest_frame_in c.args.frames.now (omega arith) in
    (c.requires, omega (arith, inside, c.first_largest-largest.ensures), omega arith)

pub overflow_cast-result-in-Some : goal.overflow_cast-result-in-Some
overflow_cast-result-in-Some c =
    record { fits = omega (arith, exceeding_in c.args.frames.now _ _ _ (sym c.exceeding.ensures ∙ c.in-Some.is), c.requires) }

pub returns-in-Some : goal.returns-in-Some
returns-in-Some c =
    let other = sym c.exceeding.ensures ∙ c.in-Some.is in
    let tried : c.loop-n.n < length c.args.frames.now + 1 = omega arith in
    reason_at c.args.frames.now _ c.first_largest-largest.ensures _ _ (search_hits _ _ _ c.loop-n.invariant.1 tried (some_found other)) other

pub loop-n-preserved : goal.loop-n-preserved
loop-n-preserved c =
    let tried : c.loop-n.n < length c.args.frames.now + 1 = omega arith in
    (omega arith, search_goes_on _ _ _ c.loop-n.invariant.1 tried (none_found (sym c.exceeding.ensures ∙ c.in_default.is)))

pub returns : goal.returns
returns c =
    let past : length c.args.frames.now + 1 ≤ c.loop-n.n = omega arith in
    reason_none c.args.frames.now _ c.first_largest-largest.ensures (search_ends _ _ _ c.loop-n.invariant.1 past)

pub returns-in_default : goal.returns-in_default
returns-in_default c =
    let tried : c.loop-n.n < length c.args.frames.now + 1 = omega arith in
    let past : length c.args.frames.now + 1 ≤ c.loop-n.n + 1 = omega arith in
    reason_none c.args.frames.now _ c.first_largest-largest.ensures
    (search_ends _ _ _ (search_goes_on _ _ _ c.loop-n.invariant.1 tried (none_found (sym c.exceeding.ensures ∙ c.in_default.is))) past)
