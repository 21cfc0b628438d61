-- Configuration that must be, added to a node of another module: C15. It is asked of each augment, whether its target stands or
-- not (RFC 7950, 7.17); one with a `when` may add such in YANG 1.1. Nothing is configuration in an operation.
use Rattle.std.specs.Prelude.{ℕ, ◌&&◌, ◌||◌, Bool, false, List, [], option_and_then, if◌then◌else◌}
use Rattle.std.specs.Option.{option_map_or}
use Rattle.yspec.specs.Forest.{Forest, end, node}
use Rattle.yspec.specs.linking.Planned.{Planned, Plan, node_of}
use Rattle.yspec.specs.linking.NodeBreaks.{must_be, row_below, is_foreign, broken_in}
use Rattle.yspec.specs.schema.Breaks.{Break, when}
use Rattle.yspec_wide.specs.Language.{Language}
use Rattle.yspec_wide.specs.Standing.{is_standing}
use Rattle.yspec_wide.specs.Operations.{is_in_operation}
use Rattle.yspec_wide.specs.Guards.{is_let_add}

module _ (language : Language) (plan : Plan) where
  -- whether a node is no operation, and all its conditions hold
  abbrev pub stands_itself : Planned → Bool
  stands_itself p = is_standing language plan.modules p.part

  abbrev pub has_mandatory_standing : Forest Planned → Bool
  has_mandatory_standing end = false
  has_mandatory_standing (node p below after) =
      (stands_itself p && must_be p (has_mandatory_standing below)) || has_mandatory_standing after

  abbrev pub is_needed_standing : Planned → Bool
  is_needed_standing p = stands_itself p && must_be p (has_mandatory_standing (row_below plan p.number))

-- told at the `augment` of a number
abbrev pub broken_unless_let : Language → Plan → ℕ → List Break
broken_unless_let language plan number = if is_let_add language plan number then [] else broken_in plan number

-- of the nodes of a whole set
abbrev pub addition_breaks_in : Language → Plan → Planned → List Break
addition_breaks_in language plan p = if is_in_operation language plan p then []
    else when (is_foreign p (option_and_then (node_of plan) p.parent) && (p.config && is_needed_standing language plan p))
    (option_map_or (broken_unless_let language plan) p.part.added_by [])
