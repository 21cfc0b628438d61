use Rattle.std.proofs.Common.{◌||◌, sym, ap, ◌∙◌}
use Rattle.ytext.specs.View.{row_view}
use Rattle.ylink_grammar.specs.LanguageView.{language_view}
use Rattle.ylink_grammar.specs.WordView.{word_view}
use Rattle.ylink_grammar.proofs.CountedLemmas.{one_by}
use Rattle.ylink_grammar.proofs.WordLemmas.{or_first}
use Rattle.ylink_grammar.proofs.counted.is_not_one.Goals as goal

pub returns-then-repeated : goal.returns-then-repeated
returns-then-repeated c =
    or_first c.is_repeated-repeated.result c.is_missing-missing.result c.if-repeated.true
    ∙ one_by (language_view c.args.language.now) (row_view c.args.statements.now) (word_view c.args.word) c.is_repeated-repeated.result c.is_missing-missing.result
    c.is_repeated-repeated.ensures c.is_missing-missing.ensures

pub returns-else-repeated : goal.returns-else-repeated
returns-else-repeated c =
    ap (λ b. b || c.is_missing-missing.result) (sym c.if-repeated.false)
    ∙ one_by (language_view c.args.language.now) (row_view c.args.statements.now) (word_view c.args.word) c.is_repeated-repeated.result c.is_missing-missing.result
    c.is_repeated-repeated.ensures c.is_missing-missing.ensures
