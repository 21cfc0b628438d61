use Rattle.std.proofs.Common.{◌≡◌, true, false, ◌&&◌, sym, ap, ap₂, ◌∙◌}
use Rattle.std.proofs.lemmas.Result.{IfOk-weaker}
use Rattle.yspec.specs.linking.Keyword.{type_word, same_keyword}
use Rattle.yspec.specs.linking.Source.{is_source_of}
use Rattle.yspec_wide.specs.Language.{is_yang_1, version_of}
use Rattle.ybase_preorder.specs.View.{row_by, label_by}
use Rattle.ybase_words.specs.KeywordView.{keyword_view}
use Rattle.ylink_grammar.specs.SourceView.{source_view}
use Rattle.ylink_grammar.specs.declared.source.Source.{Source}
use Rattle.ylink.specs.EmptyView.{is_wrong_as, meant_held}
use Rattle.ylink.specs.VerdictView.{table_view}
use Rattle.ylink.proofs.versions.is_wrong.Goals as goal

pub returns : goal.returns
returns c language modules are bare =
    let table = table_view c.args.verdicts.now in
    let node = c.args.statement in
    let s = label_by source_view node in
    let in_union = c.args.in_union in
    let below = row_by source_view node.children in
    let meant = meant_held table s.number in
    let of_types : is_source_of type_word s ≡ true =
    sym (c.is.ensures ∙ ap (λ (l : Source). same_keyword type_word (keyword_view l.keyword)) c.label.ensures) ∙ c.if-not-is.false in
    let of_1 : is_yang_1 (version_of language modules s.home) ≡ true =
    sym (c.is_yang_1.ensures language modules are ∙ ap (λ (l : Source). is_yang_1 (version_of language modules l.home)) c.label-2.ensures) ∙ c.if-not-is_yang_1.false in
    let held = c.meant_held-meant.ensures ∙ ap (meant_held table) c.number.ensures in
    IfOk-weaker c.is_wrong_as.result _ _ (λ b e. e
    ∙ (ap₂ (λ m row. is_wrong_as in_union m row) held (ap (row_by source_view) c.children.ensures)
    ∙ sym (ap₂ (λ x y. x && (y && is_wrong_as in_union meant below)) of_types of_1)))
    (c.is_wrong_as.ensures (λ m e. bare s.number m (sym held ∙ e)))
