use Rattle.std.proofs.Common.{ap, ◌∙◌}
use Rattle.std.specs.Option.{option_map_or}
use Rattle.yspec.specs.types.Types.{YangType}
use Rattle.yspec.specs.linking.TypeStatements as spec
use Rattle.yspec_wide.specs.Types.{single_type_of}
use Rattle.ybase_preorder.specs.View.{row_by, label_by}
use Rattle.ybase_words.specs.BuiltInView.{built_in_view}
use Rattle.ylink_grammar.specs.SourceView.{source_view}
use Rattle.ylink_values.specs.KeptView.{kept_view}
use Rattle.ylink_types.proofs.TypeLemmas.{other_in_place}
use Rattle.ylink_types.proofs.types.verdict_in_place.Goals as goal

pub returns : goal.returns
returns c modules rests =
    let kept = kept_view c.args.kept in
    let s = c.args.statement in
    c.own_or.ensures
    ∙ (ap (λ made. option_map_or (λ (t : YangType). spec.means (spec.own t)) made spec.wrong)
    (c.in_ok-single_type-in_default.ensures ∙ ap (λ f. single_type_of kept (built_in_view c.args.type_name) (row_by source_view f)) c.children.ensures)
    ∙ other_in_place kept modules c.args.is_member (label_by source_view s) (row_by source_view s.children) _ c.args.type_name
    c.in_default.not-Union c.in_default.not-Leafref c.in_default.not-Identityref)
