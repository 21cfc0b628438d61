use Rattle.std.proofs.Common.{◌≡◌, true, false, cond, sym, ap, ◌∙◌, rules}
use Rattle.yspec.specs.linking.TypeStatements.{may_bear, may_bear_patterns}
use Rattle.ybase_words.specs.BuiltInView.{built_in_view}
use Rattle.ybase_words.specs.KeywordView.{keyword_view}
use Rattle.ylink_types.proofs.types.is_in_place.Goals as goal

pub returns-then-is_pattern_statement : goal.returns-then-is_pattern_statement
returns-then-is_pattern_statement c number =
    let type = built_in_view c.args.type_name in
    let holds : c.is_pattern_statement.result ≡ true = first_of (search rules, cc) in
    c.may_bear_patterns.ensures
    ∙ sym (ap (λ b. cond b (may_bear_patterns type) (may_bear type (keyword_view c.args.statement.now.keyword)))
    (sym (c.is_pattern_statement.ensures number) ∙ holds))

pub returns-else-is_pattern_statement : goal.returns-else-is_pattern_statement
returns-else-is_pattern_statement c number =
    let type = built_in_view c.args.type_name in
    let fails : c.is_pattern_statement.result ≡ false = first_of (search rules, cc) in
    c.may_bear.ensures
    ∙ sym (ap (λ b. cond b (may_bear_patterns type) (may_bear type (keyword_view c.args.statement.now.keyword)))
    (sym (c.is_pattern_statement.ensures number) ∙ fails))
