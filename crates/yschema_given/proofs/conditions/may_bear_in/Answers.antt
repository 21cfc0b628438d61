use Rattle.std.proofs.Common.{sym, ◌∙◌}
use Rattle.ybase_preorder.specs.View.{row_by}
use Rattle.ybase_words.specs.KeywordView.{keyword_view}
use Rattle.ylink_grammar.specs.LanguageView.{language_view}
use Rattle.ylink_grammar.specs.SourceView.{source_view}
use Rattle.yschema_given.proofs.KeepingLemmas.{none_borne}
use Rattle.yschema_given.proofs.conditions.may_bear_in.Goals as goal

pub returns-else-bears_guard : goal.returns-else-bears_guard
returns-else-bears_guard c =
    let f = row_by source_view c.args.given in
    c.may_bear.ensures
    ∙ none_borne (language_view c.args.language.now) (keyword_view c.args.keyword) f f (sym c.bears_guard.ensures ∙ c.if-bears_guard.false)
