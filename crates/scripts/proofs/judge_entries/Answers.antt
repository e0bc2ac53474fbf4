-- `judge_entries` meets its contract: the entries from j on decide, by the ledger of those before.
use Rattle.std.proofs.Common.{◌≡◌, ℕ, ◌<◌, length, get_or, rules, arith, sym, ◌∙◌}
use borrow.Author.Tests.{ltb-true, ltb-false}
use Rattle.plays.specs.Items.{standing}
use Rattle.scripts.proofs.Entries.{count_of_entries, few_entries, read_is}
use Rattle.sheet.specs.Constants.{most_tasks}
use Rattle.scripts.proofs.Walk.{no_turn, none_walked, no_such_task, next_in, not_sound, walk_more, walk_done}
use Rattle.scripts.proofs.judge_entries.Goals as goal

pub loop-j-init : goal.loop-j-init
loop-j-init c = let a = c.args in
    let long : length a.firsts ≡ most_tasks = search rules in
    let room : length c.map-turns.result ≡ most_tasks = c.map-turns.ensures.items.long in
    let begin : (i : ℕ) → i < length a.tasks.now → get_or c.map-turns.result i no_turn ≡ (record { next = get_or a.firsts i 0; free_from = 0 }) =
    λ i h. let called = c.map-turns.ensures.items.at i 0 no_turn (omega arith) in search rules in
    none_walked _ _ a.firsts _ _ (omega arith) (omega arith) begin c.requires.2

pub overflow_add-result : goal.overflow_add-result
overflow_add-result c = omega (arith, (read_is _ _ c.requires.1 c.entry_count-j-end.ensures c.loop-j-test.true c.entry_at-entry.ensures).0, few_entries _ _ c.requires.1)

pub returns-in_default : goal.returns-in_default
returns-in_default c = no_such_task c.args.tasks.now c.loop-j.invariant (read_is _ _ c.requires.1 c.entry_count-j-end.ensures c.loop-j-test.true c.entry_at-entry.ensures) (ltb-false _ _ (sym c.in_default.ensures.lookup.0))

pub sound-requires : goal.sound-requires
sound-requires c = next_in c.args.tasks.now c.loop-j.invariant (read_is _ _ c.requires.1 c.entry_count-j-end.ensures c.loop-j-test.true c.entry_at-entry.ensures) (ltb-true _ _ (sym c.in-Some.ensures.lookup.0)) (search rules)

pub overflow_add-result-then-not-sound : goal.overflow_add-result-then-not-sound
overflow_add-result-then-not-sound c = omega (arith, (read_is _ _ c.requires.1 c.entry_count-j-end.ensures c.loop-j-test.true c.entry_at-entry.ensures).0, few_entries _ _ c.requires.1)

pub returns-then-not-sound : goal.returns-then-not-sound
returns-then-not-sound c =
    not_sound c.args.tasks.now c.loop-j.invariant (read_is _ _ c.requires.1 c.entry_count-j-end.ensures c.loop-j-test.true c.entry_at-entry.ensures) (ltb-true _ _ (sym c.in-Some.ensures.lookup.0)) (search rules)
    (sym c.sound.ensures ∙ c.if-not-sound.true)

pub after-requires : goal.after-requires
after-requires c = next_in c.args.tasks.now c.loop-j.invariant (read_is _ _ c.requires.1 c.entry_count-j-end.ensures c.loop-j-test.true c.entry_at-entry.ensures) (ltb-true _ _ (sym c.in-Some.ensures.lookup.0)) (search rules)

pub overflow_add-behind : goal.overflow_add-behind
unfolding standing
overflow_add-behind c = search rules

pub loop-j-preserved : goal.loop-j-preserved
loop-j-preserved c =
    rw c.standing-behind.ensures
    (walk_more c.args.tasks.now c.loop-j.invariant (read_is _ _ c.requires.1 c.entry_count-j-end.ensures c.loop-j-test.true c.entry_at-entry.ensures) (ltb-true _ _ (sym c.in-Some.ensures.lookup.0)) (search rules)
    (sym c.sound.ensures ∙ c.if-not-sound.false) _ c.after.ensures)

pub returns : goal.returns
returns c = walk_done c.args.tasks.now c.loop-j.invariant (omega (arith, c.entry_count-j-end.ensures, count_of_entries _ _ c.requires.1))
