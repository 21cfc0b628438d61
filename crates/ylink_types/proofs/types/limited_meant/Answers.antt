use Rattle.std.proofs.Common.{◌≡◌, Some, None, sym, ap, ◌∙◌}
use Rattle.std.specs.Prelude.{option_map, option_and_then}
use Rattle.std.proofs.lemmas.Result.{IfOk-weaker}
use Rattle.yspec.specs.linking.TypeStatements as spec
use Rattle.ybase_preorder.specs.View.{row_by}
use Rattle.ylink_grammar.specs.SourceView.{source_view}
use Rattle.ylink_types.specs.TypeView.{meant_view}
use Rattle.ylink_types.proofs.types.limited_meant.Goals as goal

pub returns-in-Some : goal.returns-in-Some
returns-in-Some c =
    let below = row_by source_view c.args.below in
    let restricted : Some (meant_view c.in-Some.restricted) ≡ spec.restricted_in below (meant_view c.args.meant) =
    sym (ap (option_map meant_view) c.in-Some.is) ∙ c.in_ok-restricted.ensures in
    IfOk-weaker c.matched_meant.result _ _ (λ made e. e ∙ ap (option_and_then (spec.matched_meant below)) restricted) c.matched_meant.ensures

pub returns-in-None : goal.returns-in-None
returns-in-None c =
    let below = row_by source_view c.args.below in
    let restricted : None ≡ spec.restricted_in below (meant_view c.args.meant) =
    sym (ap (option_map meant_view) c.in-None.is) ∙ c.in_ok-restricted.ensures in
    ap (option_and_then (spec.matched_meant below)) restricted
