use Rattle.std.proofs.Common.{◌&&◌, sym, ap, ◌∙◌}
use Rattle.yspec.specs.linking.Planned.{is_leaf_or_leaf_list}
use Rattle.yspec_wide.specs.Types.{is_wide_over, standing_names}
use Rattle.ylink_grammar.specs.LanguageView.{language_view}
use Rattle.ylink_grammar.specs.declared.language.Language.{Language}
use Rattle.yschema_plan.specs.NodesView.{node_view}
use Rattle.yschema_types.specs.TypesView.{is_wide_in}
use Rattle.yschema_resolve.proofs.widths.is_too_wide.Goals as goal

pub returns-in-Core : goal.returns-in-Core
returns-in-Core c = λ plan typed here. ap (λ (l : Language). is_wide_in (language_view l) plan (node_view c.args.node)) (sym c.in-Core.is)

pub returns-in-Rfc : goal.returns-in-Rfc
returns-in-Rfc c = λ plan typed here.
    let p = node_view c.args.node in
    c.is_wide_leaf.ensures (language_view c.args.language.now) plan typed here
    ∙ (ap (λ (l : Language). is_leaf_or_leaf_list p && is_wide_over (standing_names (language_view l) plan.modules) plan p) c.in-Rfc.is
    ∙ ap (λ (l : Language). is_wide_in (language_view l) plan p) (sym c.in-Rfc.is))
