use Rattle.std.proofs.Common.{sym, ap, ◌∙◌}
use Rattle.yspec_wide.specs.Sources.{is_operation}
use Rattle.ybase_preorder.specs.View.{row_by, label_by}
use Rattle.ylink_grammar.specs.LanguageView.{language_view}
use Rattle.ylink_grammar.specs.SourceView.{source_view}
use Rattle.yschema_expand.proofs.NodeLemmas.{same_operation}
use Rattle.yschema_expand.proofs.nodes.ExpandedNode.is_operation.Goals as goal

pub returns : goal.returns
returns c =
    let l = language_view c.args.language.now in
    let node = c.args.self.now in
    let n = node.source.number in
    c.is_operation.ensures n
    ∙ (ap (λ x. is_operation l (source_view n x)) c.label.ensures
    ∙ sym (same_operation l node.owner node.is_implied (label_by source_view node.source) (row_by source_view node.source.children)))
