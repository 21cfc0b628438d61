-- Groupings: each `uses` replaced, where it stands, by the nodes of its grouping, refined (RFC 7950, 7.12 and 7.13).
use Rattle.std.specs.Prelude.{ℕ, zero, suc, ◌==◌, ◌&&◌, Bool, not, List, [], ◌∷◌, ◌++◌, map, count_by, find, false, Option, Some, None, option_and_then, unwrap_or, if◌then◌else◌}
use Rattle.std.specs.List.{list_any, list_all, filter_map}
use Rattle.std.specs.Option.{option_map_or}
use Rattle.yspec.specs.Forest.{Forest, end, node, size, row, join, change_nth, change_below, below_nth}
use Rattle.yspec.specs.text.Text.{is_text}
use Rattle.yspec.specs.schema.Breaks.{Break, broken, when, is_wrong_count}
use Rattle.yspec.specs.linking.Keyword.{Keyword, same_keyword}
use Rattle.yspec.specs.linking.Keyword as word
use Rattle.yspec.specs.linking.Arguments.{relative_path_of}
use Rattle.yspec.specs.linking.Table.{Allowed, rule_of}
use Rattle.yspec.specs.linking.Source.{Source, is_source_of, argument_in}
use Rattle.yspec.specs.linking.Prefixes.{NodeName, node_name}
use Rattle.yspec.specs.linking.Scopes.{Placed, statements_of}
use Rattle.yspec.specs.linking.DerivedTypes.{number_named}
use Rattle.yspec.specs.linking.Parts.{Part, defines_node, part_of, within}
use Rattle.yspec.specs.linking.Planned.{same_number}

-- ---- nodes and `uses`

-- The statements of a row that define nodes, with those that use groupings among them. What stands below a `uses`, its
-- refines, are its own statements.
unfoldable pub laid : Forest Source → Forest Part
laid end = end
laid (node s below after) = if defines_node s.keyword then node (part_of s below) (within s (laid below)) (laid after)
    else (if is_source_of word.uses_word s then node (part_of s below) end (laid after) else laid after)

abbrev pub is_uses : Part → Bool
is_uses p = is_source_of word.uses_word p.source

-- a grouping, by the number of its statement, with the nodes and `uses` in it
pub record Grouping : Type 0 where
  pub number : ℕ
  pub row : Forest Part

abbrev pub grouping_at : Placed → Option Grouping
grouping_at p = if is_source_of word.grouping_word p.source
    then Some (record { number = p.source.number; row = laid p.below }) else None

-- all groupings of a set of modules, those inside others too
abbrev pub groupings_of : Forest Source → List Grouping
groupings_of modules = filter_map grouping_at (statements_of modules)

abbrev pub row_in : List Grouping → ℕ → Forest Part
row_in groupings number = option_map_or (λ g. g.row) (find (λ g. g.number == number) groupings) end

-- the row of the grouping that a `uses` names where it stands
abbrev pub row_used : Forest Source → List Grouping → Part → Forest Part
row_used modules groupings u = option_map_or (row_in groupings) (number_named modules u.source.number) end

-- ---- a node at a path: the first child of each name (RFC 7950, 6.5)

abbrev pub is_step : NodeName → Part → Bool
is_step name p = same_number name.module_number (Some p.owner) && is_text name.name (argument_in p.source)

abbrev pub part_at : List NodeName → Forest Part → Option Part
part_at [] nodes = None
part_at (step ∷ []) nodes = find (is_step step) (row nodes)
part_at (step ∷ next ∷ steps) nodes =
    option_and_then (part_at (next ∷ steps)) (below_nth (is_step step) 0 nodes)

-- the nodes with that one changed, given what stands below and after it
abbrev pub changed_at : List NodeName → (Part → Forest Part → Forest Part → Forest Part) → Forest Part → Forest Part
changed_at [] change nodes = nodes
changed_at (step ∷ []) change nodes = change_nth (is_step step) 0 change nodes
changed_at (step ∷ next ∷ steps) change nodes =
    change_below (is_step step) 0 (changed_at (next ∷ steps) change) nodes

-- ---- refine (RFC 7950, 7.13.2)

abbrev pub is_refine : Source → Bool
is_refine s = is_source_of word.refine_word s

-- The path of a refine in nodes of a module; a name without a prefix is of that module.
abbrev pub refine_steps : Forest Source → ℕ → Source → List NodeName
refine_steps modules owner s =
    map (node_name modules s.home owner) (unwrap_or (relative_path_of (argument_in s)) [])

-- whether the table has a statement of a refine below a keyword, and as many of its kind as the refine gives
abbrev pub is_borne : Keyword → Forest Source → Source → Bool
is_borne k given s = list_any (λ (a : Allowed). same_keyword a.keyword s.keyword
    && not (is_wrong_count a.count (count_by (is_source_of s.keyword) (row given)))) (rule_of k).substatements

abbrev pub may_bear : Part → Forest Source → Bool
may_bear p given = list_all (is_borne p.source.keyword given) (row given)

-- whether a refine has a target among some nodes that may bear all that it gives
abbrev pub is_fit : Forest Source → ℕ → Source → Forest Source → Forest Part → Bool
is_fit modules owner s given nodes =
    option_map_or (λ p. may_bear p given) (part_at (refine_steps modules owner s) nodes) false

-- a row without the statements of the kinds that a refine gives
abbrev pub others : Forest Source → Forest Source → Forest Source
others given end = end
others given (node s below after) = if list_any (is_source_of s.keyword) (row given) then others given after
    else node s below (others given after)

-- What a refine gives takes the place of all that its target states of those kinds.
abbrev pub overridden : Forest Source → Part → Forest Part → Forest Part → Forest Part
overridden given p below after = node (record p { own = join (others given p.own) given }) below after

-- one that isn't fit changes nothing
abbrev pub after_refine : Forest Source → ℕ → Source → Forest Source → Forest Part → Forest Part
after_refine modules owner s given nodes = if is_refine s && is_fit modules owner s given nodes
    then changed_at (refine_steps modules owner s) (overridden given) nodes else nodes

-- the refines of a row of statements, one after another
unfoldable pub refined : Forest Source → ℕ → Forest Source → Forest Part → Forest Part
refined modules owner end nodes = nodes
refined modules owner (node s given after) nodes =
    refined modules owner after (after_refine modules owner s given nodes)

-- ---- `uses` (RFC 7950, 7.13)

-- the nodes belong to the module that finally uses them
abbrev pub owned_by : ℕ → Part → Part
owned_by owner p = record p { owner = owner }

-- the nodes of a row, given what each `uses` stands for
unfoldable pub replaced : (Part → Forest Part) → ℕ → Forest Part → Forest Part
replaced meant owner end = end
replaced meant owner (node p below after) = if is_uses p then join (meant p) (replaced meant owner after)
    else node (owned_by owner p) (replaced meant owner below) (replaced meant owner after)

-- What a `uses` stands for: the nodes of its grouping, each `uses` in it replaced first, and then refined; by way of so many
-- groupings at most.
unfoldable pub stands_for : Forest Source → List Grouping → ℕ → ℕ → Part → Forest Part
stands_for modules groupings owner zero u = end
stands_for modules groupings owner (suc depth) u = refined modules owner u.own
    (replaced (stands_for modules groupings owner depth) owner (row_used modules groupings u))

-- No grouping uses itself, so there are no more on a way than there are statements.
abbrev pub expanded : Forest Source → List Grouping → ℕ → Forest Part → Forest Part
expanded modules groupings owner nodes =
    replaced (stands_for modules groupings owner (suc (size modules))) owner nodes

abbrev pub expanded_from : Forest Source → List Grouping → Forest Source → Forest Part
expanded_from modules groupings end = end
expanded_from modules groupings (node s below after) =
    join (expanded modules groupings s.home (laid below)) (expanded_from modules groupings after)

-- the top nodes of a set of modules, with all below them
abbrev pub expanded_parts : Forest Source → Forest Part
expanded_parts modules = expanded_from modules (groupings_of modules) modules

-- ---- C14: refines that aren't fit, wherever their `uses` is replaced

abbrev pub refine_breaks : Forest Source → ℕ → Forest Source → Forest Part → List Break
refine_breaks modules owner end nodes = []
refine_breaks modules owner (node s given after) nodes =
    when (is_refine s && not (is_fit modules owner s given nodes)) (broken 14 s.home s.statement.line)
    ++ refine_breaks modules owner after (after_refine modules owner s given nodes)

-- all refines of a row, as where there is no node that they could refine
abbrev pub all_refine_breaks : Forest Source → List Break
all_refine_breaks end = []
all_refine_breaks (node s given after) =
    when (is_refine s) (broken 14 s.home s.statement.line) ++ all_refine_breaks after

-- those of a row, given those of each `uses`
unfoldable pub unfit_in : (Part → List Break) → Forest Part → List Break
unfit_in told end = []
unfit_in told (node p below after) = (if is_uses p then told p else unfit_in told below) ++ unfit_in told after

unfoldable pub unfit_for : Forest Source → List Grouping → ℕ → ℕ → Part → List Break
unfit_for modules groupings owner zero u = []
unfit_for modules groupings owner (suc depth) u =
    unfit_in (unfit_for modules groupings owner depth) (row_used modules groupings u)
    ++ refine_breaks modules owner u.own
    (replaced (stands_for modules groupings owner depth) owner (row_used modules groupings u))

abbrev pub unfit_from : Forest Source → List Grouping → Forest Source → List Break
unfit_from modules groupings end = []
unfit_from modules groupings (node s below after) =
    unfit_in (unfit_for modules groupings s.home (suc (size modules))) (laid below)
    ++ unfit_from modules groupings after

abbrev pub unfit_breaks : Forest Source → List Break
unfit_breaks modules = unfit_from modules (groupings_of modules) modules
