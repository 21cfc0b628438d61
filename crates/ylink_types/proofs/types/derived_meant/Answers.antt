use Rattle.std.proofs.Common.{◌≡◌, Some, None, sym, ap, ◌∙◌}
use Rattle.std.specs.Prelude.{option_map, option_and_then}
use Rattle.std.proofs.lemmas.Result.{IfOk-weaker}
use Rattle.yspec.specs.linking.TypeStatements as spec
use Rattle.yspec_wide.specs.Types.{named_kept}
use Rattle.ybase_preorder.specs.View.{row_by}
use Rattle.ylink_grammar.specs.SourceView.{source_view}
use Rattle.ylink_values.specs.KeptView.{kept_view}
use Rattle.ylink_types.specs.TypeView.{meant_view}
use Rattle.ylink_types.proofs.types.derived_meant.Goals as goal

pub returns-in-Some : goal.returns-in-Some
returns-in-Some c =
    let below = row_by source_view c.args.below in
    let limited : Some (meant_view c.in-Some.limited) ≡ option_and_then (spec.matched_meant below) (spec.restricted_in below (meant_view c.args.meant)) =
    sym (ap (option_map meant_view) c.in-Some.is) ∙ c.in_ok-limited.ensures in
    IfOk-weaker c.named_meant.result _ _ (λ made e. e ∙ ap (option_and_then (spec.named_meant (named_kept (kept_view c.args.kept) below))) limited) c.named_meant.ensures

pub returns-in-None : goal.returns-in-None
returns-in-None c =
    let below = row_by source_view c.args.below in
    let limited : None ≡ option_and_then (spec.matched_meant below) (spec.restricted_in below (meant_view c.args.meant)) =
    sym (ap (option_map meant_view) c.in-None.is) ∙ c.in_ok-limited.ensures in
    ap (option_and_then (spec.named_meant (named_kept (kept_view c.args.kept) below))) limited
