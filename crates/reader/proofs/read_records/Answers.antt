-- `read_records` meets its contract: a walk over the records, and the fill behind them.
use Rattle.std.proofs.Common.{rules, arith, sym, ◌∙◌}
use Rattle.reader.proofs.Slots.{blank_task}
use Rattle.reader.proofs.Walk.{slots_long, none_walked, walk_ends, walk_more, fill_refused, walk_done}
use Rattle.reader.proofs.read_records.Goals as goal

pub loop-i-init : goal.loop-i-init
loop-i-init c = rw (blank_task _ c.default-tasks.ensures) (none_walked _ _ _ _ c.requires.0)

pub returns-in_err-found : goal.returns-in_err-found
returns-in_err-found c =
    let long = slots_long c.default-tasks.result _ c.requires.0 in
    let told =
    walk_ends _ _ _ _ _ _ _ c.loop-i.invariant (omega (arith, long, c.loop-i-test.true)) c.args.version c.args.policy c.own_deadlines-own.ensures _
    (sym c.read_record.ensures ∙ c.in_err-found.was) in
    search rules

pub loop-i-preserved : goal.loop-i-preserved
loop-i-preserved c =
    let long = slots_long c.default-tasks.result _ c.requires.0 in
    walk_more _ _ _ _ _ _ _ c.loop-i.invariant (omega (arith, long, c.loop-i-test.true)) _ (sym c.read_record.ensures ∙ c.in_ok-found.was)

pub returns-in_err-left_behind : goal.returns-in_err-left_behind
returns-in_err-left_behind c =
    let long = slots_long c.default-tasks.result _ c.requires.0 in
    let told =
    fill_refused _ _ _ _ _ _ _ c.loop-i.invariant (omega (arith, long, c.loop-i-test.false)) c.args.version c.args.policy c.own_deadlines-own.ensures _
    (sym c.left_behind.ensures ∙ c.in_err-left_behind.was) in
    search rules

pub returns : goal.returns
returns c =
    let long = slots_long c.default-tasks.result _ c.requires.0 in
    rw (blank_task _ c.default-tasks.ensures)
    (walk_done _ _ _ _ _ _ _ c.loop-i.invariant (omega (arith, long, c.loop-i-test.false)) _ _ c.own_deadlines-own.ensures (sym c.left_behind.ensures ∙ c.in_ok-left_behind.was))
