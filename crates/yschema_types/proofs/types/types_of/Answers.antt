use Rattle.std.proofs.Common.{◌≡◌, map, sym, ap, ap₂, subst, ◌∙◌}
use Rattle.yspec.specs.Forest.{size}
use Rattle.yspec.specs.linking.DerivedTypes.{type_meant}
use Rattle.yspec.specs.linking.Planned.{nodes_of, meant_in, is_on_circle}
use Rattle.yspec_wide.specs.Features.{stands}
use Rattle.yspec_wide.specs.Types.{all_names, names_where, bears_none, unmarked, standing_names, meant_in_of}
use Rattle.ybase_graph.specs.Edges.{edge_view}
use Rattle.ylink.specs.LinkedView as statements
use Rattle.ylink.proofs.VerdictLemmas.{all_meant}
use Rattle.ylink_grammar.specs.LanguageView.{language_view}
use Rattle.ylink_grammar.specs.declared.language.Language.{Language}
use Rattle.ylink_standing.specs.StandingView.{row_stands}
use Rattle.ylink.specs.KeptMeaningsView.{type_meant_of}
use Rattle.yschema_plan.specs.PlanView.{view}
use Rattle.yschema_types.specs.MadeTypes.{AreTypes}
use Rattle.yschema_types.specs.MadeView.{rows_view}
use Rattle.yschema_types.specs.MeantNodes.{meant_as, target_number}
use Rattle.yschema_types.specs.ReferenceEdges.{edges_of, circled}
use Rattle.yschema_types.specs.TypesView.{meants_view}
use Rattle.yschema_types.proofs.KeptLemmas.{stands_alike, meant_in_alike}
use Rattle.yschema_types.proofs.TypeLemmas.{all_circled, meant_alike}
use Rattle.yschema_types.proofs.types.types_of.Goals as goal
use Rattle.yschema_types.proofs.types.types_of.Goals.{In_ok-circles}

-- what types mean, and to what they refer
told_meant : (c : In_ok-circles) → meants_view c.in_ok-meanings.meanings.meant.items ≡ map (meant_in (view c.args.plan.now)) (nodes_of (view c.args.plan.now))
told_meant c = c.in_ok-meanings.ensures.meant ∙ ap (λ modules. map (meant_as (type_meant modules)) (nodes_of (view c.args.plan.now))) c.requires.named

told_targets : (c : In_ok-circles) → c.in_ok-meanings.meanings.targets.items
    ≡ map (target_number (view c.args.plan.now) (meant_in (view c.args.plan.now))) (nodes_of (view c.args.plan.now))
told_targets c = let plan = view c.args.plan.now in
    c.in_ok-meanings.ensures.targets ∙ ap (λ modules. map (target_number plan (meant_as (type_meant modules))) (nodes_of plan)) c.requires.named

told_edges : (c : In_ok-circles) → map edge_view c.in_ok-meanings.meanings.edges.items ≡ edges_of (view c.args.plan.now) (meant_in (view c.args.plan.now))
told_edges c = let plan = view c.args.plan.now in
    c.in_ok-meanings.ensures.edges ∙ ap (λ modules. edges_of plan (meant_as (type_meant modules))) c.requires.named

told_circles : (c : In_ok-circles) → c.in_ok-circles.circles.items ≡ map (is_on_circle (view c.args.plan.now)) (nodes_of (view c.args.plan.now))
told_circles c =
    c.in_ok-circles.ensures
    ∙ (ap₂ (λ n es. circled n (map edge_view es)) c.nodes.ensures c.as_slice.ensures.value
    ∙ (ap (circled (size (view c.args.plan.now).nodes)) (told_edges c) ∙ all_circled c.args.plan.now))

pub returns-in-Core-clause-meant : goal.returns-in-Core-clause-meant
returns-in-Core-clause-meant c =
    let made = (goal.at.returns-in-Core-clause-meant c).In_ok-circles in
    record { meant = told_meant made; targets = told_targets made; circles = told_circles made }

pub returns-clause-meant : goal.returns-clause-meant
returns-clause-meant c =
    let made = (goal.at.returns-clause-meant c).In_ok-circles in
    record { meant = told_meant made; targets = told_targets made; circles = told_circles made }

pub returns-in-Core-clause-typed : goal.returns-in-Core-clause-typed
returns-in-Core-clause-typed c =
    let p = view c.args.plan.now in
    let linked = statements.view c.args.linked.now in
    let rows = rows_view c.in_ok-standing-in-Core.standing.items in
    let same = meant_alike (type_meant linked) all_names p (λ n. sym (all_meant linked n) ∙ ap (λ modules. type_meant_of all_names modules n) c.requires.named) in
    let are : AreTypes rows p (meant_in_of all_names p) = c.in_ok-standing-in-Core.ensures (meant_in_of all_names p)
    (c.in_ok-meanings.ensures.meant ∙ ap (λ meant. map meant (nodes_of p)) same) (c.in_ok-meanings.ensures.edges ∙ ap (edges_of p) same) in
    let core_is = sym c.in-Core.is in
    record {
      standing = subst (λ (l : Language). AreTypes rows p (meant_in_of (standing_names (language_view l) p.modules) p)) core_is are;
      unmarked = subst (λ (l : Language). AreTypes rows p (meant_in_of (unmarked (language_view l)) p)) core_is are;
    }

pub returns-clause-typed : goal.returns-clause-typed
returns-clause-typed c =
    let p = view c.args.plan.now in
    let language = language_view c.args.language.now in
    let features = c.args.features.now in
    let rfc_is = sym c.in-Rfc.is in
    let standing = rows_view c.in_ok-standing-in-Rfc.standing.items in
    let marked = rows_view c.in_ok-unmarked-in-Rfc.unmarked.items in
    let stand : AreTypes standing p (meant_in_of (names_where (stands language p.modules)) p) =
    subst (AreTypes standing p) (meant_in_alike (row_stands features) (stands language p.modules) p (stands_alike language p.modules features c.requires.on))
    c.in_ok-standing-in-Rfc.ensures in
    record {
      standing = subst (λ (l : Language). AreTypes standing p (meant_in_of (standing_names (language_view l) p.modules) p)) rfc_is
          (subst (λ (l : Language). AreTypes standing p (meant_in_of (names_where (stands (language_view l) p.modules)) p)) c.in-Rfc.is stand);
      unmarked = subst (λ (l : Language). AreTypes marked p (meant_in_of (unmarked (language_view l)) p)) rfc_is
          (subst (λ (l : Language). AreTypes marked p (meant_in_of (names_where (bears_none (language_view l))) p)) c.in-Rfc.is c.in_ok-unmarked-in-Rfc.ensures);
    }
