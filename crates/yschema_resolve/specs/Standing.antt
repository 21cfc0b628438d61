-- C15 by what is told of each node: whether it stands itself.
use Rattle.std.specs.Prelude.{◌≡◌, ◌&&◌, ℕ, Bool, true, false, List, [], Some, get_or, option_and_then, slice_get, if◌then◌else◌}
use Rattle.std.specs.Option.{option_map_or}
use Rattle.yspec.specs.linking.Planned.{Planned, Plan, node_of, nodes_of}
use Rattle.yspec.specs.linking.NodeBreaks.{is_foreign, broken_in}
use Rattle.yspec.specs.schema.Breaks.{Break, when}
use Rattle.yspec_wide.specs.Language.{Language}
use Rattle.yspec_wide.specs.Additions.{broken_unless_let, stands_itself}
use Rattle.yschema_plan.specs.Needs.{is_needed_by}

-- it is told of each node of a plan, by its number; one of which nothing is told stands itself
abbrev pub TellsStanding : List Bool → Language → Plan → Type 0
TellsStanding standing language plan = (number : ℕ) (p : Planned) → slice_get (nodes_of plan) number ≡ Some p
    → get_or standing number true ≡ stands_itself language plan p

abbrev pub is_wrong_addition : (Planned → Bool) → Plan → Planned → Bool
is_wrong_addition stands plan p =
    is_foreign p (option_and_then (node_of plan) p.parent) && (p.config && is_needed_by stands plan p)

-- told at every augment, and at those that aren't let
abbrev pub addition_breaks_by : (Planned → Bool) → Plan → Planned → List Break
addition_breaks_by stands plan p = when (is_wrong_addition stands plan p) (option_map_or (broken_in plan) p.part.added_by [])

-- whether it is told of a node
abbrev pub is_told_of : List Bool → Planned → Bool
is_told_of told p = get_or told p.number false

abbrev pub addition_breaks_unless_let : Language → (Planned → Bool) → Plan → Planned → List Break
addition_breaks_unless_let language stands plan p =
    when (is_wrong_addition stands plan p) (option_map_or (broken_unless_let language plan) p.part.added_by [])

-- of those that are in no operation
abbrev pub addition_breaks_outside : Language → (Planned → Bool) → List Bool → Plan → Planned → List Break
addition_breaks_outside language stands inside plan p =
    if is_told_of inside p then [] else addition_breaks_unless_let language stands plan p
