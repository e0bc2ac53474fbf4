-- `read_body` meets its contract.
use Rattle.std.proofs.Common.{rules, sym, ◌∙◌}
use Rattle.sheet.specs.Constants.{most_tasks}
use Rattle.sheet.proofs.Counts.{count_passed}
use Rattle.reader.proofs.Answers.{header_missing, version_wrong, policy_wrong, spare_set, task_count_wrong, header_right}
use Rattle.reader.proofs.read_body.Goals as goal

pub returns-in_err-header : goal.returns-in_err-header
returns-in_err-header c = absurd (header_missing 0 0 c.args.body.now c.requires.1 c.requires.0 _ (sym c.header_row.ensures ∙ c.in_err-header.was))

pub returns-then-not-version_among : goal.returns-then-not-version_among
returns-then-not-version_among c =
    version_wrong c.args.least c.args.most c.args.body.now c.requires.1 c.requires.0 _ (sym c.header_row.ensures ∙ c.in_ok-header.was)
    (sym c.version_among.ensures ∙ c.if-not-version_among.true)

pub returns-then-not-known_policy : goal.returns-then-not-known_policy
returns-then-not-known_policy c =
    policy_wrong c.args.least c.args.most c.args.body.now c.requires.1 c.requires.0 _ (sym c.header_row.ensures ∙ c.in_ok-header.was)
    (sym c.version_among.ensures ∙ c.if-not-version_among.false) (sym c.known_policy.ensures ∙ c.if-not-known_policy.true)

pub returns-then-header-ne0 : goal.returns-then-header-ne0
returns-then-header-ne0 c =
    spare_set c.args.least c.args.most c.args.body.now c.requires.1 c.requires.0 _ (sym c.header_row.ensures ∙ c.in_ok-header.was)
    (sym c.version_among.ensures ∙ c.if-not-version_among.false) (sym c.known_policy.ensures ∙ c.if-not-known_policy.false) c.if-header-ne0.true

pub returns-then-miscounted : goal.returns-then-miscounted
returns-then-miscounted c =
    task_count_wrong c.args.least c.args.most c.args.body.now c.requires.1 c.requires.0 _ (sym c.header_row.ensures ∙ c.in_ok-header.was)
    (sym c.version_among.ensures ∙ c.if-not-version_among.false) (sym c.known_policy.ensures ∙ c.if-not-known_policy.false) c.if-header-ne0.false (sym c.miscounted.ensures ∙ c.if-miscounted.true)

pub read_records-requires : goal.read_records-requires
read_records-requires c = ((count_passed _ most_tasks (sym c.miscounted.ensures ∙ c.if-miscounted.false)).1, search rules)

pub returns : goal.returns
returns c =
    c.read_records.ensures
    ∙ header_right c.args.least c.args.most c.args.body.now c.requires.1 c.requires.0 _ (sym c.header_row.ensures ∙ c.in_ok-header.was)
    (sym c.version_among.ensures ∙ c.if-not-version_among.false) (sym c.known_policy.ensures ∙ c.if-not-known_policy.false) c.if-header-ne0.false (sym c.miscounted.ensures ∙ c.if-miscounted.false)
