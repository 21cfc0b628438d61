-- The phases of compiling in a language behind those of linking, in parts: of expansion, of names besides, and of what nodes
-- refer to.
use Rattle.std.specs.Prelude.{◌≡◌, List, [], ◌∷◌, ◌++◌, Option, Some, None, Result, Ok, Err, nat_lt}
use Rattle.std.specs.List.{flat_map}
use Rattle.yspec.specs.Forest.{Forest}
use Rattle.yspec.specs.text.Statement.{Statement}
use Rattle.yspec.specs.schema.Breaks.{Break, least_from, limit_breaks, node_limit}
use Rattle.yspec.specs.linking.Source.{Source}
use Rattle.yspec.specs.linking.Planned.{Plan, nodes_of}
use Rattle.yspec_wide.specs.Compiling.{is_too_deep_in}
use Rattle.yspec_wide.specs.Additions.{addition_breaks_in}
use Rattle.yspec_wide.specs.Compiling.{node_breaks_in, place_phase_in}
use Rattle.yspec_wide.specs.Expansion.{augment_breaks_in, unfit_breaks_in}
use Rattle.yspec_wide.specs.Language.{Language}
use Rattle.yspec_wide.specs.NodeCounts.{node_count_in}
use Rattle.ylink_grammar.specs.BreakView.{break_view, seen}
use Rattle.ylink_grammar.specs.declared.fault.BrokenRule.{BrokenRule}

-- refines and augments without a fitting target
abbrev pub target_breaks : Language → Forest Source → List Break
target_breaks language sources = unfit_breaks_in language sources ++ augment_breaks_in language sources

-- what is told before there are nodes, and of refines and augments
abbrev pub expansion_part : Language → Forest Statement → Forest Source → List (List Break)
expansion_part language modules sources =
    limit_breaks (nat_lt node_limit (node_count_in language sources)) modules ∷ target_breaks language sources ∷ []

-- and of the names of all nodes, and operations out of place
abbrev pub plan_part : Language → Forest Statement → Plan → List (List Break)
plan_part language modules whole = expansion_part language modules whole.modules ++ place_phase_in language whole ∷ []

-- of what all nodes add, and of those that stand
abbrev pub rule_part : Language → Forest Statement → Plan → Plan → List (List Break)
rule_part language modules whole plan = node_breaks_in language whole plan ∷ limit_breaks (is_too_deep_in language plan) modules ∷ []

abbrev pub all_addition_breaks : Language → Plan → List Break
all_addition_breaks language whole = flat_map (addition_breaks_in language whole) (nodes_of whole)

-- what is told of all nodes of a set: of their names and places, and else of what augments add
abbrev pub Judges : Result (Option BrokenRule) BrokenRule → Language → Plan → Type 0
Judges (Ok added) language whole = (None ≡ least_from None (place_phase_in language whole))
    × (seen added ≡ least_from None (all_addition_breaks language whole))
Judges (Err found) language whole = Some (break_view found) ≡ least_from None (place_phase_in language whole)
