use Rattle.std.proofs.Common.{sym, ap, ◌∙◌}
use Rattle.std.specs.Prelude.{option_map}
use Rattle.yspec.specs.linking.Source.{argument_with}
use Rattle.ybase_words.specs.KeywordView.{keyword_view}
use Rattle.yschema_expand.specs.NamedView.{row_or_none}
use Rattle.yschema_expand.specs.NodeView.{part_view}
use Rattle.yschema_given.proofs.StatingLemmas.{same_argument}
use Rattle.yschema_expand.proofs.nodes.ExpandedNode.own_argument.Goals as goal

pub returns-in_err-row_stating : goal.returns-in_err-row_stating
returns-in_err-row_stating c =
    let k = keyword_view c.args.keyword in
    ap (option_map (λ text. text.now)) c.from_residual.ensures
    ∙ (ap (λ o. argument_with k (row_or_none o)) (sym c.in_err-row_stating.was)
    ∙ same_argument k (row_or_none c.row_stating.result) (part_view c.args.self.now).own c.row_stating.ensures)

pub returns : goal.returns
returns c =
    let k = keyword_view c.args.keyword in
    c.argument_with.ensures
    ∙ (ap (λ o. argument_with k (row_or_none o)) (sym c.in_ok-row_stating.was)
    ∙ same_argument k (row_or_none c.row_stating.result) (part_view c.args.self.now).own c.row_stating.ensures)
