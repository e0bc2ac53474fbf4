-- The times before the index stand on the page, each behind a space.
use Rattle.std.proofs.Common.{◌++◌, ◌≡◌, ◌+◌, ◌*◌, ◌≤◌, length, take}
use Rattle.std.specs.List.{flat_map}
use Rattle.report_text.specs.Words.{decimal}
use Rattle.report_text.specs.Inside.Lines.{behind, word_room}
use Rattle.report_text.proofs.put_times.Given as goal

abbrev pub invariant-loop-time : goal.invariant-loop-time
invariant-loop-time l =
    (l.page.items ≡ l.initial.page.items ++ flat_map (λ n. behind (decimal n)) (take l.time-index l.times))
    × (length l.page.items ≤ length l.initial.page.items + word_room * l.time-index)
