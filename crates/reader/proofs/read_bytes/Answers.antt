-- `read_bytes` meets its contract.
use Rattle.std.proofs.Common.{rules, sym, ◌∙◌, length-take-le}
use Rattle.check_word.specs.Division.{body}
use Rattle.records.specs.Rows.{total}
use Rattle.reader.proofs.Whole.{size_wrong, seal_wrong, body_decides}
use Rattle.reader.proofs.read_bytes.Goals as goal

pub returns-then-not-contains : goal.returns-then-not-contains
returns-then-not-contains c = size_wrong _ _ _ (search rules)

pub returns-then-not-sealed : goal.returns-then-not-sealed
returns-then-not-sealed c = seal_wrong _ _ _ (search rules) (sym c.sealed.ensures ∙ c.if-not-sealed.true)

pub read_body-requires : goal.read_body-requires
unfolding total
read_body-requires c = search (rules, length-take-le)

pub returns : goal.returns
unfolding body
returns c = c.read_body.ensures ∙ body_decides _ _ _ (search rules) (sym c.sealed.ensures ∙ c.if-not-sealed.false)
