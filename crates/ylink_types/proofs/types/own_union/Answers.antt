use Rattle.std.proofs.Common.{ap, sym, ◌∙◌, option_map}
use Rattle.std.specs.Option.{option_map_or}
use Rattle.yspec.specs.linking.TypeStatements as spec
use Rattle.ylink_types.proofs.types.own_union.Goals as goal

pub returns-in_ok-of_members-in-Some : goal.returns-in_ok-of_members-in-Some
returns-in_ok-of_members-in-Some c =
    c.in_ok-of_members-in-Some.ensures ∙ (ap spec.of_members c.deref.ensures.value
    ∙ ap (λ o. option_map_or spec.of_members o spec.unjudged) (ap (option_map (λ t. t.items)) (sym c.in-Some.is) ∙ c.in_ok-types.ensures))

pub returns-in-None : goal.returns-in-None
returns-in-None c =
    ap (λ o. option_map_or spec.of_members o spec.unjudged) (ap (option_map (λ t. t.items)) (sym c.in-None.is) ∙ c.in_ok-types.ensures)
