use Rattle.std.proofs.Common.{sym, ap, ◌∙◌}
use Rattle.yspec_wide.specs.Sources.{is_call}
use Rattle.ybase_preorder.specs.View.{row_by, label_by}
use Rattle.ylink_grammar.specs.LanguageView.{language_view}
use Rattle.ylink_grammar.specs.SourceView.{source_view}
use Rattle.yschema_expand.proofs.NodeLemmas.{same_call}
use Rattle.yschema_expand.proofs.nodes.ExpandedNode.is_call.Goals as goal

pub returns : goal.returns
returns c =
    let l = language_view c.args.language.now in
    let node = c.args.self.now in
    let n = node.source.number in
    c.is_call.ensures n
    ∙ (ap (λ x. is_call l (source_view n x)) c.label.ensures
    ∙ sym (same_call l node.owner node.is_implied (label_by source_view node.source) (row_by source_view node.source.children)))
