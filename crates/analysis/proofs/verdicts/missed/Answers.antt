-- `missed` meets its contract: the place and its blocker's place are places of the set.
use Rattle.std.proofs.Common.{sym, ◌∙◌, arith, rules}
use Rattle.analysis.proofs.Placed.{places_of}
use Rattle.analysis.proofs.Missed.{blocker_below, missed_with}
use Rattle.analysis.proofs.verdicts.missed.Goals as goal

pub overflow_cast-p : goal.overflow_cast-p
overflow_cast-p c = record { fits = omega (arith, c.requires.0, places_of c.args.o.now _ c.in_use-places.ensures) }

pub map-blocker-requires : goal.map-blocker-requires
map-blocker-requires c x e =
    let many = places_of c.args.o.now _ c.in_use-places.ensures in
    let inside = blocker_below c.args.o.now _ c.in_use-places.ensures c.args.p x (sym c.blocker_of.ensures ∙ e) in
    (λ _ _ _ _ _. record { fits = omega (arith, c.requires.0, many, inside) }, λ _ _ _ _ _. inside)

pub offset_bounds-places-p : goal.offset_bounds-places-p
offset_bounds-places-p c = record { fits = omega (arith, c.requires.0, places_of c.args.o.now _ c.in_use-places.ensures) }

pub bounds-places-p : goal.bounds-places-p
bounds-places-p c = omega (arith, places_of c.args.o.now _ c.in_use-places.ensures)

pub returns : goal.returns
returns c =
    missed_with c.args.o.now _ c.in_use-places.ensures c.args.p _ (omega (arith, places_of c.args.o.now _ c.in_use-places.ensures)) _ _ _ c.blocker_of.ensures c.map-blocker.ensures.cases
    (λ q v l. search rules)
