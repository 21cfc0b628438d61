-- Groups that are read as the specification's, with trees of the engine.
use Rattle.std.specs.Prelude.{List, [], ◌∷◌, Option, Some, None, map, reverse, option_map}
use Rattle.regex_hir.specs.Re.{Re}
use Rattle.regex_hir.specs.Meaning.{meaning}
use Rattle.yspec_patterns.specs.Sets.{Set}
use Rattle.yspec_patterns.specs.Quantities as parts
use Rattle.yspec_patterns.specs.Reading as spec
use Rattle.ytype_patterns.specs.Engine.{engine}
use Rattle.ytype_patterns.specs.PartView.{times_of}
use Rattle.ytype_patterns.specs.declared.times.Times.{Times}
use Rattle.ytype_patterns.specs.declared.building.Level.{Level}
use Rattle.ytype_patterns.specs.declared.building.Groups.{Groups}

abbrev pub level_view : Level → spec.Level Re
level_view level = record { branches = map meaning level.branches.items; pieces = map meaning level.pieces.items }

abbrev pub times_given : Option Times → Option parts.Times
times_given times = option_map times_of times

-- the group at hand
abbrev pub level_of : Groups → spec.Level Re
level_of groups = level_view groups.level

-- those around it, the innermost first
abbrev pub around_of : Groups → List (spec.Level Re)
around_of groups = reverse (map level_view groups.around.items)

abbrev pub pair_of : Groups → spec.Level Re × List (spec.Level Re)
pair_of groups = (level_of groups, around_of groups)

-- out of a group, which is a piece of the one around it
abbrev pub closed_in : spec.Level Re → List (spec.Level Re) → Option parts.Times → Option (spec.Level Re × List (spec.Level Re))
closed_in level [] times = None
closed_in level (outer ∷ around) times = Some (spec.with_piece engine outer (spec.quantified engine (spec.group engine level) times), around)

-- the groups behind a part
abbrev pub part_built : parts.Part Set → spec.Level Re → List (spec.Level Re) → Option (spec.Level Re × List (spec.Level Re))
part_built (parts.open_group, times) level around = Some (spec.no_level, level ∷ around)
part_built (parts.close_group, times) level around = closed_in level around times
part_built (parts.bar, times) level around = Some (spec.next_branch engine level, around)
part_built (parts.atom set, times) level around = Some (spec.with_piece engine level (spec.quantified engine (engine.single set) times), around)

-- the tree of what was read, where no group is open
abbrev pub ended_in : spec.Level Re → List (spec.Level Re) → Option Re
ended_in level [] = Some (spec.group engine level)
ended_in level (outer ∷ around) = None
