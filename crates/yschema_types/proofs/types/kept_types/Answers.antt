use Rattle.std.proofs.Common.{map, ap, ◌∙◌}
use Rattle.yspec.specs.linking.Planned.{nodes_of}
use Rattle.yspec_wide.specs.Types.{meant_in_of}
use Rattle.ylink.specs.KeptMeaningsView.{meant_held, type_meant_of}
use Rattle.ylink_values.specs.KeptView.{kept_view}
use Rattle.yschema_plan.specs.PlanView.{view}
use Rattle.yschema_types.specs.ReferenceEdges.{edges_of}
use Rattle.yschema_types.proofs.TypeLemmas.{meant_alike}
use Rattle.yschema_types.proofs.types.kept_types.Goals as goal

pub returns : goal.returns
returns c =
    let p = view c.args.plan.now in
    let kept = kept_view c.args.kept in
    let made = c.in_ok-meanings.ensures in
    let same = meant_alike (meant_held c.in_ok-held.held) kept p
    (λ number. c.in_ok-held.ensures number ∙ ap (λ modules. type_meant_of kept modules number) c.requires.named) in
    c.all_made.ensures (meant_in_of kept p) (made.meant ∙ ap (λ meant. map meant (nodes_of p)) same) (made.edges ∙ ap (edges_of p) same)
