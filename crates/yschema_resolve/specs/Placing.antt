-- C24 by what is told of each node: whether it bars the operations below it, however deep, or one above it does.
use Rattle.std.specs.Prelude.{◌&&◌, ◌||◌, Bool, not, List, option_and_then}
use Rattle.std.specs.Option.{option_map_or}
use Rattle.yspec.specs.linking.Planned.{Planned, Plan, node_of, is_data}
use Rattle.yspec.specs.linking.NodeBreaks.{broken_at}
use Rattle.yspec.specs.schema.Breaks.{Break, when}
use Rattle.yspec_wide.specs.Language.{Language}
use Rattle.yspec_wide.specs.Words.{action_word}
use Rattle.yspec_wide.specs.Sources.{is_added}
use Rattle.yspec_wide.specs.Operations.{is_operation_node}
use Rattle.yschema_resolve.specs.Standing.{is_told_of}

module _ (language : Language) (barred : List Bool) (plan : Plan) where
  abbrev pub is_misplaced_by : Planned → Bool
  is_misplaced_by p = option_map_or (λ above. not (is_data above) || is_told_of barred above) (option_and_then (node_of plan) p.parent)
      (is_added language action_word p.part.source)

  abbrev pub place_breaks_by : Planned → List Break
  place_breaks_by p = when (is_operation_node language p && is_misplaced_by p) (broken_at 24 p)
