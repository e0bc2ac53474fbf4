-- `check_word::feed` takes one byte into the register. The loop's invariant: the steps that are left of the register give what eight gave of the first.
use mathlib.Core.Path.{◌≡◌}
use Prim.Native.Nat.{◌-◌, ◌<◌, ◌^◌}
use Rattle.check_word.specs.Inside.Register.{shifted}
use Rattle.check_word.proofs.feed.Given as goal

abbrev pub invariant-loop : goal.invariant-loop
invariant-loop l = (l.r < 2 ^ 16) × (shifted (8 - l.counter) l.r ≡ shifted 8 l.initial.r)
