-- Operations out of place, by what is told of each node.
use Rattle.std.proofs.Common.{◌≡◌, ℕ, suc, Bool, false, not, ◌&&◌, ◌||◌, List, [], ◌∷◌, ◌++◌, map, Option, Some, None, refl, sym, ap, ap₂, ◌∙◌, arith}
use Rattle.std.specs.Prelude.{option_and_then, slice_get}
use Rattle.std.specs.List.{flat_map}
use Rattle.std.specs.Option.{option_map_or}
use Rattle.yspec.specs.schema.Breaks.{when}
use Rattle.yspec.specs.linking.Planned.{Planned, node_of, nodes_of, is_data}
use Rattle.yspec.specs.linking.NodeBreaks.{broken_at}
use Rattle.yspec_wide.specs.Above.{is_under}
use Rattle.yspec_wide.specs.Language.{Language}
use Rattle.yspec_wide.specs.Operations.{bars_operations, is_barred_by, is_misplaced, is_operation_node, place_breaks}
use Rattle.yspec_wide.specs.Sources.{is_added}
use Rattle.yspec_wide.specs.Words.{action_word}
use Rattle.yschema_plan.specs.PlanView.{view}
use Rattle.yschema_plan.specs.declared.plan.Plan as code
use Rattle.yschema_plan.proofs.NodeLemmas.{stands_at}
use Rattle.yschema_resolve.specs.Placing.{is_misplaced_by, place_breaks_by}
use Rattle.yschema_resolve.specs.Standing.{is_told_of}
use Rattle.yschema_resolve.proofs.GuardLemmas.{told_of}
use Rattle.yschema_types.proofs.TypeLemmas.{stands}

module _ (language : Language) (plan : code.Plan) (barred : List Bool) (is : barred ≡ map (is_under (view plan) (bars_operations language)) (nodes_of (view plan))) where
  above_told : (o : Option ℕ) (found : Option Planned) → option_and_then (node_of (view plan)) o ≡ found → (other : Bool)
      → option_map_or (λ above. not (is_data above) || is_told_of barred above) found other ≡ option_map_or (is_barred_by language (view plan)) found other
  above_told o None e other = refl
  above_told None (Some q) e other = absurd cc
  above_told (Some n) (Some q) e other =
      let there : slice_get (nodes_of (view plan)) q.number ≡ Some q = stands plan n q (sym (stands_at plan n) ∙ e) in
      ap (λ b. not (is_data q) || b) (told_of barred (is_under (view plan) (bars_operations language)) plan is q.number q there)

  one_same : (p : Planned) → place_breaks_by language barred (view plan) p ≡ place_breaks language (view plan) p
  one_same p = ap (λ b. when (is_operation_node language p && b) (broken_at 24 p))
      (above_told p.parent (option_and_then (node_of (view plan)) p.parent) refl (is_added language action_word p.part.source))

  each_same : (ps : List Planned) → flat_map (place_breaks_by language barred (view plan)) ps ≡ flat_map (place_breaks language (view plan)) ps
  each_same [] = refl
  each_same (p ∷ ps) = ap₂ (λ xs ys. xs ++ ys) (one_same p) (each_same ps)

  pub places_same : flat_map (place_breaks_by language barred (view plan)) (nodes_of (view plan)) ≡ flat_map (place_breaks language (view plan)) (nodes_of (view plan))
  places_same = each_same (nodes_of (view plan))
