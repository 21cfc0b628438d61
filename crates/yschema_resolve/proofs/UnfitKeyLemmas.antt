-- Keys that are unfit.
use Rattle.std.proofs.Common.{◌≡◌, ◌&&◌, ℕ, Bool, true, false, map, Option, Some, None, refl, ap, ◌∙◌}
use Rattle.std.specs.Prelude.{option_map, option_and_then, slice_get, unwrap_or}
use Rattle.std.specs.Option.{option_map_or}
use Rattle.std.proofs.lemmas.Option.{slice_get-map}
use Rattle.yspec.specs.Forest.{Forest, end}
use Rattle.yspec.specs.linking.DerivedTypes.{meant_by, type_meant}
use Rattle.yspec.specs.linking.Keyword.{type_word}
use Rattle.yspec.specs.linking.Planned.{Plan, Planned, meant_in, nodes_of}
use Rattle.yspec.specs.linking.Scopes.{Placed, statement_at}
use Rattle.yspec.specs.linking.Source.{Source, first_with}
use Rattle.yspec.specs.linking.TypeStatements as spec
use Rattle.ylink.specs.EmptyView.{IsBareMeant}
use Rattle.ylink.proofs.EmptyLemmas.{bare_meant}
use Rattle.yschema_types.specs.MeantNodes.{meant_at}

-- what is asked of the row below a statement, where there is one
pub asked_below : (test : Forest Source → Bool) → test end ≡ false → (o : Option Placed)
    → test (option_map_or (λ (p : Placed). p.below) o end) ≡ option_map_or (λ (p : Placed). test p.below) o false
asked_below test none None = none
asked_below test none (Some p) = refl

-- what the type of a node means bears no restriction where it is `empty`
pub bare_in : (plan : Plan) (p : Planned) (m : spec.Meant) → meant_in plan p ≡ Some m → IsBareMeant m
bare_in plan p m e = by (first_with type_word p.part.own) e
  where
    of_statement : (o : Option Placed) → option_and_then (meant_by plan.modules) o ≡ Some m → IsBareMeant m
    of_statement None e = absurd cc
    of_statement (Some q) e = bare_meant plan.modules q m e

    by : (o : Option Source) → option_and_then (λ s. type_meant plan.modules s.number) o ≡ Some m → IsBareMeant m
    by None e = absurd cc
    by (Some s) e = of_statement (statement_at plan.modules s.number) e

pub meant_there : (plan : Plan) (n : ℕ) (p : Planned) → slice_get (nodes_of plan) n ≡ Some p
    → meant_at (map (meant_in plan) (nodes_of plan)) n ≡ meant_in plan p
meant_there plan n p at =
    ap (λ o. unwrap_or o None) (slice_get-map (meant_in plan) (nodes_of plan) n ∙ ap (option_map (meant_in plan)) at)

pub regrouped : (a b d : Bool) → ((a && b) && d) ≡ (a && (b && d))
regrouped true b d = refl
regrouped false b d = refl
