use Rattle.std.proofs.Common.{length, arith, sym, ap, ◌∙◌}
use Rattle.ybase_preorder.specs.Layout.{numbered_by}
use Rattle.ybase_preorder.specs.View.{row_by, row_view}
use Rattle.ybase_preorder.proofs.RowLemmas.{size_forest}
use Rattle.ybase_words.specs.KeywordView.{keyword_view}
use Rattle.ylink_grammar.specs.LanguageView.{language_view}
use Rattle.ylink_grammar.specs.SourceView.{source_view}
use Rattle.yschema_given.specs.Keeping.{are_leaves, leaf_keywords}
use Rattle.yschema_given.proofs.KeepingLemmas.{leaf_borne}
use Rattle.yschema_given.proofs.conditions.may_bear_conditions.Goals as goal

pub new-requires : goal.new-requires
new-requires c =
    let few = c.in_ok-others.ensures.few in
    let same = ap length c.deref.ensures.value in
    let whole = size_forest c.args.given.slots.now in
    omega (arith, few, same, whole, c.args.given.numbered)

pub returns : goal.returns
returns c =
    let f = row_by source_view c.args.given in
    c.may_bear.ensures
    ∙ leaf_borne (language_view c.args.language.now) (keyword_view c.args.keyword) f c.deref.result.now (row_by source_view c.new.result) c.requires
    (ap are_leaves c.deref.ensures.value ∙ c.in_ok-others.ensures.leaves) (ap leaf_keywords c.deref.ensures.value ∙ c.in_ok-others.ensures.keywords)
    (ap (λ n. numbered_by source_view n (row_view c.new.result)) c.new.ensures.number ∙ ap (numbered_by source_view 0) c.new.ensures.row)
