use Rattle.std.proofs.Common.{[], refl, sym, ap, ◌∙◌}
use Rattle.std.proofs.lemmas.Result.{IfOk-weaker}
use Rattle.std.specs.List.{flat_map}
use Rattle.yspec.specs.linking.Scopes.{placed}
use Rattle.yspec.specs.schema.Breaks.{least_from}
use Rattle.ybase_preorder.specs.View.{forest_in}
use Rattle.ylink_grammar.specs.BreakView.{seen}
use Rattle.ylink_grammar.specs.LinkView.{view}
use Rattle.ylink_features.specs.VersionView.{version_in}
use Rattle.ylink.specs.EmptyView.{wrong_break}
use Rattle.ylink.specs.VerdictView.{table_view}
use Rattle.ylink.proofs.CoreLemmas.{no_wrong_types}
use Rattle.ylink.proofs.WrongLemmas.{all_bare, all_wrong}
use Rattle.ylink.proofs.versions.broken_version_type_rule.Goals as goal

pub returns-in-Core : goal.returns-in-Core
returns-in-Core c language versions judged =
    let modules = view c.args.sources.now in
    sym (ap (least_from (seen c.args.so_far))
    (no_wrong_types language modules (λ home. sym (ap (λ v. version_in v home) c.in-Core.is) ∙ versions home)))

pub returns-in-Stated : goal.returns-in-Stated
returns-in-Stated c language versions judged =
    let modules = view c.args.sources.now in
    let f = forest_in c.args.sources.now.table in
    let table = table_view c.args.verdicts.now in
    let so_far = seen c.args.so_far in
    IfOk-weaker c.judge_types.result _ _ (λ told is. is
    ∙ (ap (λ row. least_from so_far (flat_map (wrong_break language modules table) (placed [] row))) c.modules.ensures
    ∙ ap (least_from so_far) (all_wrong f table judged language)))
    (c.judge_types.ensures language modules [] versions (all_bare f table judged) refl)
