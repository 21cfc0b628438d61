use Rattle.std.proofs.Common.{ap, sym, ◌∙◌, map, option_map}
use Rattle.std.specs.Option.{option_map_or}
use Rattle.yspec.specs.linking.TypeStatements as spec
use Rattle.ylink_types.specs.TypeView.{member_view}
use Rattle.ylink_types.proofs.types.judged_members.Goals as goal

pub returns-in-Some : goal.returns-in-Some
returns-in-Some c =
    c.referring_union.ensures
    ∙ ap (λ o. option_map_or spec.referring_union o spec.unjudged) (ap (option_map (λ m. map member_view m.items)) (sym c.in-Some.is) ∙ c.in_ok-found.ensures)

pub returns-in-None : goal.returns-in-None
returns-in-None c =
    ap (λ o. option_map_or spec.referring_union o spec.unjudged) (ap (option_map (λ m. map member_view m.items)) (sym c.in-None.is) ∙ c.in_ok-found.ensures)
