-- `judge_entries` meets its contract: the entries from j on decide, by the ledger of those before.
use Rattle.std.proofs.Common.{map, length, take}
use Rattle.sheet.specs.Tasks.{task_in}
use Rattle.scripts.specs.Reading.{script_in}
use Rattle.scripts.proofs.Walk.{Walked}
use Rattle.scripts.proofs.judge_entries.Given as goal

abbrev pub invariant-loop-j : goal.invariant-loop-j
invariant-loop-j l = let n = length l.tasks in
    Walked (map task_in l.tasks) n (take n l.fn.firsts) (script_in n l.script).entries l.turns l.behind l.j
