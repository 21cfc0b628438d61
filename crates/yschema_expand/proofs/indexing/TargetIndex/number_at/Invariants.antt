use Rattle.std.proofs.Common.{◌≡◌, map, length}
use Rattle.yspec.specs.Forest.{Forest}
use Rattle.yspec.specs.linking.Source as sources
use Rattle.yspec.specs.linking.Prefixes as spec
use Rattle.ylink_arguments.specs.NameView.{names_view}
use Rattle.ylink_names.specs.PrefixView.{IsOf}
use Rattle.yschema_expand.specs.Indexing.{led, led_on, look_in}
use Rattle.yschema_expand.proofs.indexing.TargetIndex.number_at.Given as goal

-- the steps that are left lead on from the node so far to where all lead
abbrev pub invariant-loop-name : goal.invariant-loop-name
invariant-loop-name l = (modules : Forest sources.Source) → IsOf l.prefixes modules
    → led_on (look_in l.self) l.number (map (spec.node_name modules l.home l.owner) (names_view l.left))
    ≡ led (look_in l.self) l.self.parent (map (spec.node_name modules l.home l.owner) (names_view l.fn.path))

abbrev pub decreases-loop-name : goal.decreases-loop-name
decreases-loop-name l = length l.left
