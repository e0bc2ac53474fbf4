-- `verdict_of` meets its contract.
use Rattle.std.proofs.Common.{sym, ◌∙◌}
use Rattle.analysis.proofs.Placed.{places_of}
use Rattle.analysis.proofs.Passed.{used_length, first_fails, missed_first, holds_all}
use Rattle.analysis.proofs.verdicts.verdict_of.Goals as goal

pub slice_bounds-first_failing-end : goal.slice_bounds-first_failing-end
slice_bounds-first_failing-end c = sym (used_length _ _ _ c.requires.1 _ (places_of c.args.o.now _ c.in_use.ensures))

pub missed-requires : goal.missed-requires
missed-requires c = (c.requires.0, first_fails _ _ _ c.requires.1 _ (places_of c.args.o.now _ c.in_use.ensures) _ (sym c.first_failing.ensures ∙ c.in-Some.is))

pub returns-in-Some : goal.returns-in-Some
returns-in-Some c = c.missed.ensures ∙ missed_first _ _ _ c.requires.1 _ (places_of c.args.o.now _ c.in_use.ensures) _ (sym c.first_failing.ensures ∙ c.in-Some.is)

pub returns-in-None : goal.returns-in-None
returns-in-None c = holds_all _ _ _ c.requires.1 _ (places_of c.args.o.now _ c.in_use.ensures) (sym c.first_failing.ensures ∙ c.in-None.is)
