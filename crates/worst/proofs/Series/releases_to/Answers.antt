-- `releases_to` meets its contract.
use Rattle.std.proofs.Common.{◌-◌, ◌/◌, add-one, arith}
use native.Mathlib.Nat.{div-le_self}
use borrow.Author.Tests.{lt-ltb, le-ltb}
use Rattle.worst.specs.Inside.Plans.{releases_to}
use Rattle.worst.proofs.Series.releases_to.Goals as goal

pub returns-then-end-self : goal.returns-then-end-self
unfolding releases_to
returns-then-end-self c = rw (lt-ltb c.args.end c.args.self.opens c.if-end-self.true)

pub overflow_add-result : goal.overflow_add-result
overflow_add-result c = record { fits = omega (arith, div-le_self (c.args.end - c.args.self.opens) c.args.self.step, c.requires.1) }

pub returns : goal.returns
unfolding releases_to
returns c = rw (le-ltb c.args.end c.args.self.opens c.if-end-self.false) (add-one ((c.args.end - c.args.self.opens) / c.args.self.step))
