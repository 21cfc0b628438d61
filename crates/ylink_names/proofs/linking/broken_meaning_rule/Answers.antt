use Rattle.std.proofs.Common.{◌++◌, None, sym, ap, ◌∙◌}
use Rattle.std.proofs.lemmas.Result.{IfOk-weaker}
use Rattle.yspec.specs.linking.Circles.{import_circles, definition_circles}
use Rattle.yspec.specs.linking.Imports.{import_breaks}
use Rattle.yspec.specs.linking.Scopes.{lost_breaks}
use Rattle.yspec.specs.schema.Breaks.{least_from}
use Rattle.yspec.proofs.SchemaProofs.LeastLemmas.{least_of_both}
use Rattle.ylink_grammar.specs.LinkView.{view}
use Rattle.ylink_names.proofs.linking.broken_meaning_rule.Goals as goal

pub returns : goal.returns
returns c held meant =
    let s = view c.args.sources.now in
    let places = c.in_ok-places.ensures in
    let unmet = import_breaks s in
    let lost = lost_breaks s in
    let imports = import_circles s in
    let circles = definition_circles s in
    let so_far = c.in_ok-circular.ensures places
    ∙ ap (λ t. least_from t imports) (c.broken_lost_rule-lost.ensures meant ∙ ap (λ t. least_from t lost) (c.in_ok-unmet.ensures places)) in
    IfOk-weaker c.broken_circle_rule.result _ _ (λ told e. e
    ∙ (ap (λ t. least_from t circles) so_far
    ∙ sym (least_of_both None unmet (lost ++ (imports ++ circles))
    ∙ (least_of_both (least_from None unmet) lost (imports ++ circles)
    ∙ least_of_both (least_from (least_from None unmet) lost) imports circles)))) (c.broken_circle_rule.ensures held meant)
