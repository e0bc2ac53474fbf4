-- `sound` meets its contract: the tests in their order.
use Rattle.std.proofs.Common.{◌≡◌, length, arith, rules}
use Rattle.std.proofs.lemmas.Bool.Decides.{nat_tests}
use Rattle.sheet.specs.Tasks.{task_in}
use Rattle.sheet.proofs.Records.{frame_there, frame_is}
use Rattle.scripts.specs.Inside.Steps.{sound_turn}
use Rattle.scripts.proofs.sound.Goals as goal

pub bounds-task-turn : goal.bounds-task-turn
bounds-task-turn c = let long : length c.args.task.frames ≡ 8 = search rules in
    omega (arith, frame_there c.args.task _ c.requires)

pub returns-then-turn-entry : goal.returns-then-turn-entry
unfolding sound_turn task_in
returns-then-turn-entry c = grind (arith, nat_tests, frame_is c.args.task _ c.requires)

pub returns-else-turn-entry : goal.returns-else-turn-entry
unfolding sound_turn task_in
returns-else-turn-entry c = grind (arith, nat_tests)
