use Rattle.std.proofs.Common.{◌≡◌, ◌∷◌, List, ℕ, ℤ, Some, map, ap, ap₂, ◌∙◌, rules}
use Rattle.std.specs.Option.{option_map_or}
use Rattle.std.proofs.lemmas.Result.{IfOk-weaker}
use Rattle.yspec.specs.text.Text.{Text}
use Rattle.yspec.specs.types.Names.{Assigned}
use Rattle.yspec.specs.types.Types.{Base, YangType, plain, identity_base}
use Rattle.yspec.specs.linking.Identities.{assigned_identity, identities_of, module_name}
use Rattle.yspec.specs.linking.TypeStatements as types
use Rattle.yspec_wide.specs.Types.{identity_verdict_of, numbers_kept}
use Rattle.ytype.specs.Identities.{identities_view}
use Rattle.ylink_types.specs.IdentityView.{home_view}
use Rattle.ylink_types.proofs.identities.Identities.type_of.Goals as goal

pub returns : goal.returns
returns c kept modules is =
    let set = c.args.self.now in
    let first = c.in-Some.first.now in
    let others = c.in-Some.others.now in
    let made = identities_view c.new-identities.result in
    let whole : first ∷ others ≡ c.args.bases.now = search rules in
    let names : c.in_ok-clone.field-0.value ≡ map (assigned_identity modules) (identities_of modules) = (search rules) ∙ is.names in
    let home : home_view c.in_ok-home.field-0 ≡ module_name modules c.args.home = c.in_ok-home.ensures kept modules is in
    let taken : c.in_ok-derived.derived.value.keys ≡ numbers_kept kept modules (first ∷ others) = c.in_ok-derived.ensures kept modules is in
    let base : made ≡ identity_base (module_name modules c.args.home) (map (assigned_identity modules) (identities_of modules)) (numbers_kept kept modules (first ∷ others)) =
    c.new-identities.ensures
    ∙ (ap₂ (λ (h : Text) (ns : List Assigned). identity_base h ns c.in_ok-derived.derived.value.keys) home names
    ∙ ap (λ (t : List ℤ). identity_base (module_name modules c.args.home) (map (assigned_identity modules) (identities_of modules)) t) taken) in
    IfOk-weaker c.accepted_type.result _ _
    (λ type e. ap (λ o. option_map_or (λ (t : YangType). types.means (types.own t)) o types.wrong) e
    ∙ (ap (λ (b : Base). types.means (types.own (plain b))) base
    ∙ ap (λ (bs : List ℕ). identity_verdict_of kept modules c.args.home bs) whole))
    (c.accepted_type.ensures (Some (plain made)) c.identityref.ensures)
