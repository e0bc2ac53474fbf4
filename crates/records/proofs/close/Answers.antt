-- `close` meets its contract: the fill is one field of zeros, and the check word goes behind.
use mathlib.Core.Path.{sym, ◌∙◌}
use native.Mathlib.Omega.{arith}
use Rattle.records.proofs.Filling.{not_closed, was_closed}
use Rattle.records.proofs.close.Goals as goal

pub returns-then-bytes-sealed_size : goal.returns-then-bytes-sealed_size
returns-then-bytes-sealed_size c = not_closed _ _ (λ e. c.if-bytes-sealed_size.true (e ∙ sym c.sealed_size.ensures))

pub returns : goal.returns
returns c = was_closed _ _ (c.if-bytes-sealed_size.false ∙ c.sealed_size.ensures) _ c.put_field.ensures.1 (λ i. grind arith) c.put_field.auto.bytes _ c.seal.ensures.1
