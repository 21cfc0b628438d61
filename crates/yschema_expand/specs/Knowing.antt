-- What is known of groupings before they are used.
use Rattle.std.specs.Prelude.{◌≡◌, ℕ, suc, List, Option, None, option_and_then, min}
use Rattle.std.specs.List.{Contains}
use Rattle.std.specs.Option.{option_map_or}
use Rattle.yspec.specs.Forest.{Forest, end, size}
use Rattle.yspec.specs.linking.Source.{Source}
use Rattle.yspec.specs.linking.DerivedTypes.{number_named}
use Rattle.yspec.specs.linking.Expansion.{groupings_of, laid, row_in}
use Rattle.yspec.specs.linking.Scopes.{Placed, statements_of}
use Rattle.yspec.specs.linking.NodeCounts.{count_in}
use Rattle.yspec_wide.specs.NodeCounts.{all_counts_in}
use Rattle.yspec.specs.schema.Breaks.{Break, least_from}
use Rattle.yspec_wide.specs.Language.{Language}
use Rattle.ylink_names.specs.Ordered.{IsNamed}
use Rattle.yschema_expand.specs.NamedView.{row_named}
use Rattle.yschema_expand.specs.Walk.{nodes_for, breaks_for, AllEnd}
use Rattle.yschema_expand.specs.Counting.{count_at, many, refine_at}
use Rattle.ylink_grammar.specs.declared.fault.BrokenRule.{BrokenRule}
use Rattle.yschema_expand.specs.declared.groupings.Groupings.{Groupings}

-- how many nodes the grouping has that the statement of a number uses
abbrev pub count_named : Groupings → Forest Source → ℕ → ℕ
count_named g modules number = option_map_or (count_at g.counts.items) (number_named modules number) 0

-- the refine or augment that is told in it
abbrev pub refine_named : Groupings → Forest Source → ℕ → Option Break
refine_named g modules number = option_and_then (refine_at g.refines.items) (number_named modules number)

-- a table holds how many nodes each grouping has that a statement names, up to the bound
abbrev pub AreCounts : List ℕ → Language → Forest Source → Type 0
AreCounts counts language modules = (e : ℕ) → IsNamed modules e → count_at counts e ≡ min (count_in (all_counts_in language modules) e) many

-- and which refine or augment is told in each that has none
abbrev pub AreRefines : List (Option BrokenRule) → Language → Forest Source → Type 0
AreRefines refines language modules = (e owner depth : ℕ) → IsNamed modules e → count_in (all_counts_in language modules) e ≡ 0
    → AllEnd language modules depth (row_in (groupings_of modules) e)
    → refine_at refines e ≡ least_from None (breaks_for language modules owner depth (row_in (groupings_of modules) e))

-- Where a grouping has no nodes, none come of it, and what is told in it is known.
abbrev pub KnowsEmpty : Groupings → Language → Forest Source → Type 0
KnowsEmpty g language modules = (number owner depth : ℕ) → count_named g modules number ≡ 0 → AllEnd language modules depth (row_named modules number)
    → (nodes_for language modules owner depth (row_named modules number) ≡ end)
    × (refine_named g modules number ≡ least_from None (breaks_for language modules owner depth (row_named modules number)))

-- No grouping leads to itself: no `uses` below a statement leads over more others than there are statements.
abbrev pub AreStraight : Language → Forest Source → Type 0
AreStraight language modules = (p : Placed) → Contains (statements_of modules) p → AllEnd language modules (suc (size modules)) (laid p.below)

abbrev pub Knows : Groupings → Language → Forest Source → Type 0
Knows g language modules = AreStraight language modules × KnowsEmpty g language modules
