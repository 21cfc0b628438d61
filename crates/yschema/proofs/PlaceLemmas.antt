-- What is told of names of siblings and of operations out of place, one after the other.
use Rattle.std.proofs.Common.{◌≡◌, Option, None, ap, sym, ◌∙◌}
use Rattle.std.specs.List.{flat_map}
use Rattle.yspec.specs.schema.Breaks.{Break, least_from}
use Rattle.yspec.specs.linking.NodeBreaks.{name_breaks}
use Rattle.yspec.specs.linking.Planned.{Plan, nodes_of}
use Rattle.yspec.proofs.SchemaProofs.LeastLemmas.{least_of_both}
use Rattle.yspec_wide.specs.Compiling.{place_phase_in}
use Rattle.yspec_wide.specs.Language.{Language, core}
use Rattle.yspec_wide.specs.Operations.{place_breaks}
use Rattle.yspec_wide.proofs.CoreCompilingLemmas.{places_alike}

pub places_told : (language : Language) (plan : Plan) (named told : Option Break) → named ≡ least_from None (name_breaks plan)
    → told ≡ least_from named (flat_map (place_breaks language plan) (nodes_of plan)) → told ≡ least_from None (place_phase_in language plan)
places_told language plan named told named_is told_is =
    let places = flat_map (place_breaks language plan) (nodes_of plan) in
    told_is ∙ (ap (λ first. least_from first places) named_is ∙ sym (least_of_both None (name_breaks plan) places))

-- under the core no operation is out of place
pub places_in_core : (language : Language) → language ≡ core → (plan : Plan) → least_from None (name_breaks plan) ≡ least_from None (place_phase_in language plan)
places_in_core language is plan = ap (least_from None) (sym (ap (λ k. place_phase_in k plan) is ∙ places_alike plan))
