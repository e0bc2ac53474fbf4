-- `check_word::check_word` is the check word: the register, fed with all the bytes.
use Rattle.std.proofs.Common.{rules, tests}
use Rattle.std.proofs.lemmas.Iterator.{YieldsList-from_slice}
use Rattle.std.proofs.lemmas.Iterator.Consumers.{fold_from_yields_List}
use mathlib.Core.Path.{sym, ◌∙◌}
use Rattle.check_word.specs.Inside.Register.{fed}
use Rattle.check_word.proofs.Register.{register_form, register_folds}
use Rattle.check_word.proofs.check_word.Goals as goal

pub returns : goal.returns
returns c =
    fold_from_yields_List _ fed _ _ c.fold.ensures.ran (YieldsList-from_slice c.args.bytes.now (cc)) (λ a x b q k. search (rules, tests))
    ∙ register_folds c.args.bytes.now 0xFFFF
    ∙ sym (register_form c.args.bytes.now)
