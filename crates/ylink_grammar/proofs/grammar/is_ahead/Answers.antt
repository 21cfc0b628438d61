use Rattle.std.proofs.Common.{◌||◌, map, refl, sym, ap, ◌∙◌}
use Rattle.ylink_grammar.specs.WordView.{word_view}
use Rattle.ylink_grammar.proofs.WordLemmas.{allowed_ahead, or_first}
use Rattle.ylink_grammar.proofs.grammar.is_ahead.Goals as goal

pub returns-then-is_one_of : goal.returns-then-is_one_of
returns-then-is_one_of c =
    let rule = c.args.rule.now in
    or_first c.is_one_of.result _ c.if-is_one_of.true
    ∙ allowed_ahead (word_view c.args.word) (map word_view rule.once.now) (map word_view rule.ahead.now) _ _ c.is_one_of.ensures refl

pub returns-else-is_one_of : goal.returns-else-is_one_of
returns-else-is_one_of c =
    let rule = c.args.rule.now in
    ap (λ first. first || c.is_one_of-else-is_one_of.result) (sym c.if-is_one_of.false)
    ∙ allowed_ahead (word_view c.args.word) (map word_view rule.once.now) (map word_view rule.ahead.now) _ _ c.is_one_of.ensures c.is_one_of-else-is_one_of.ensures
