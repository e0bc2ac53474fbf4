-- `read_list` meets its contract.
use Rattle.std.specs.Prelude.{Err}
use Rattle.std.proofs.Common.{◌≡◌, sym, ◌∙◌, rules}
use Rattle.lists.proofs.Faces.{refused_list, short_list, read_into}
use Rattle.lists.proofs.read_list.Goals as goal

pub returns-in_err-version : goal.returns-in_err-version
returns-in_err-version c =
    let refused = refused_list c.args.sheet.now c.args.list.now c.in_err-version.field-0.0 (sym c.read_sheet.ensures ∙ c.in_err-version.was) in
    let told : c.from_residual.result ≡ Err c.in_err-version.field-0.0 = search rules in
    (told ∙ refused.0, refused.1)

pub returns-then-list-set : goal.returns-then-list-set
returns-then-list-set c = short_list c.args.sheet.now c.args.list.now _ (sym c.read_sheet.ensures ∙ c.in_ok-version.was) c.if-list-set.true

pub returns : goal.returns
returns c =
    let read = read_into c.args.sheet.now c.args.list.now _ (sym c.read_sheet.ensures ∙ c.in_ok-version.was) c.if-list-set.false in
    (read.0, c.scattered.ensures ∙ read.1)
