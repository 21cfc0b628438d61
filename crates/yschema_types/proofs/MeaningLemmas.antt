-- Where paths lead.
use Rattle.std.proofs.Common.{◌≡◌, List, [], ◌∷◌, Option, Some, None, refl, sym, ap}
use Rattle.std.specs.Prelude.{option_map, option_and_then}
use Rattle.yspec.specs.linking.Prefixes.{NodeName}
use Rattle.yspec.specs.linking.Planned as spec
use Rattle.yspec.specs.linking.Planned.{Plan, data_node_at, data_child_called}
use Rattle.yspec.specs.linking.SchemaNodes.{number_in}

-- where the rest of a path leads from the node found so far
abbrev pub onwards : Plan → Option spec.Planned → List NodeName → Option spec.Planned
onwards plan found [] = found
onwards plan found (name ∷ names) = data_node_at plan (option_map number_in found) (name ∷ names)

pub from_the_top : (plan : Plan) (names : List NodeName) → onwards plan None names ≡ data_node_at plan None names
from_the_top plan [] = refl
from_the_top plan (name ∷ names) = refl

pub one_step : (plan : Plan) (found : Option spec.Planned) (q : spec.Planned) (name : NodeName) (names : List NodeName)
    → Some q ≡ data_child_called plan (option_map number_in found) name → onwards plan found (name ∷ names) ≡ onwards plan (Some q) names
one_step plan found q name [] e = sym e
one_step plan found q name (next ∷ names) e = ap (option_and_then (λ p. data_node_at plan (Some p.number) (next ∷ names))) (sym e)

pub no_step : (plan : Plan) (found : Option spec.Planned) (name : NodeName) (names : List NodeName)
    → None ≡ data_child_called plan (option_map number_in found) name → onwards plan found (name ∷ names) ≡ None
no_step plan found name [] e = sym e
no_step plan found name (next ∷ names) e = ap (option_and_then (λ p. data_node_at plan (Some p.number) (next ∷ names))) (sym e)
