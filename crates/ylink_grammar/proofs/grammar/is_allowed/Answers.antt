use Rattle.std.proofs.Common.{map, ◌∙◌}
use Rattle.yspec_wide.specs.Table.{row_before}
use Rattle.ylink_grammar.specs.TableView.{ahead_view, allowed_views}
use Rattle.ylink_grammar.specs.WordView.{word_view}
use Rattle.ylink_grammar.proofs.WordLemmas.{allowed_by, or_first, or_last}
use Rattle.ylink_grammar.proofs.grammar.is_allowed.Goals as goal

pub returns-then-ahead : goal.returns-then-ahead
returns-then-ahead c =
    or_first c.is_ahead-ahead.result _ c.if-ahead.true
    ∙ allowed_by (word_view c.args.word) (ahead_view c.args.rule.now) (row_before (allowed_views c.args.rule.now.substatements.now))
    (map word_view c.args.rule.now.behind.now) _ _ _ c.is_ahead-ahead.ensures c.is_among-among.ensures c.is_one_of-behind.ensures

pub returns-else-among : goal.returns-else-among
returns-else-among c =
    or_last c.is_ahead-ahead.result c.is_among-among.result c.is_one_of-behind.result c.if-ahead.false c.if-among.false
    ∙ allowed_by (word_view c.args.word) (ahead_view c.args.rule.now) (row_before (allowed_views c.args.rule.now.substatements.now))
    (map word_view c.args.rule.now.behind.now) _ _ _ c.is_ahead-ahead.ensures c.is_among-among.ensures c.is_one_of-behind.ensures
