use Rattle.std.proofs.Common.{◌≡◌, Some, None, Option, sym, ap, ◌∙◌}
use Rattle.std.specs.Prelude.{option_and_then}
use Rattle.std.proofs.lemmas.Result.{IfOk-weaker}
use Rattle.yspec.specs.types.Restriction.{of_enums, of_bits}
use Rattle.yspec.specs.types.Types.{YangType}
use Rattle.yspec.specs.linking.TypeStatements.{restricted_to, enum_text, bit_text, value_stated, position_stated}
use Rattle.yspec_wide.specs.Types.{is_restriction_kept}
use Rattle.ybase_preorder.specs.View.{row_by}
use Rattle.ylink_grammar.specs.SourceView.{source_view}
use Rattle.ylink_values.specs.KeptView.{kept_view}
use Rattle.ylink_values.proofs.restricting.renamed_type.Goals as goal

pub returns-in-Some : goal.returns-in-Some
returns-in-Some c =
    let kept = kept_view c.args.kept in
    let below = row_by source_view c.args.below in
    let behind : YangType → Option YangType =
    λ left. restricted_to of_bits bit_text (is_restriction_kept kept left) position_stated below left in
    let left : Some c.in-Some.left ≡ restricted_to of_enums enum_text (is_restriction_kept kept c.args.outer) value_stated below c.args.outer =
    sym c.in-Some.is ∙ c.in_ok-left.ensures in
    IfOk-weaker c.bits_left.result _ _ (λ made e. e ∙ ap (option_and_then behind) left) c.bits_left.ensures

pub returns-in-None : goal.returns-in-None
returns-in-None c =
    let kept = kept_view c.args.kept in
    let below = row_by source_view c.args.below in
    let behind : YangType → Option YangType =
    λ left. restricted_to of_bits bit_text (is_restriction_kept kept left) position_stated below left in
    let left : None ≡ restricted_to of_enums enum_text (is_restriction_kept kept c.args.outer) value_stated below c.args.outer =
    sym c.in-None.is ∙ c.in_ok-left.ensures in
    ap (option_and_then behind) left
