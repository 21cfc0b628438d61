-- What comes of the statements of a row where each `uses` is replaced.
use Rattle.std.specs.Prelude.{◌≡◌, ◌++◌, ◌&&◌, ◌||◌, ℕ, zero, suc, Bool, true, false, List, length, Option, if◌then◌else◌}
use Rattle.std.specs.List.{list_all}
use Rattle.yspec.specs.Forest.{Forest}
use Rattle.yspec.specs.linking.Keyword.{uses_word}
use Rattle.yspec.specs.linking.Source.{Source, is_source_of}
use Rattle.yspec.specs.linking.Parts.{Part, as_cases, defines_node}
use Rattle.yspec.specs.linking.Augments.{Augment}
use Rattle.yspec.specs.linking.Expansion.{Grouping, groupings_of, laid, replaced, row_used, unfit_in}
use Rattle.yspec.specs.linking.Rewriting.{all_uses}
use Rattle.yspec.specs.schema.Breaks.{Break, least_from}
use Rattle.yspec_wide.specs.Language.{Language}
use Rattle.yspec_wide.specs.Expansion.{inner_augments, stands_for_in, unfit_for_in}
use Rattle.ybase_preorder.specs.Layout.{Place, places}
use Rattle.ylink_grammar.specs.BreakView.{seen}
use Rattle.yschema_expand.specs.TableView.{slots_of, parts_in}
use Rattle.yschema_expand.specs.declared.expanding.Made.{Made}

-- in a choice single nodes stand for cases
abbrev pub chosen : Bool → Forest Part → Forest Part
chosen in_choice nodes = if in_choice then as_cases nodes else nodes

-- whether a statement defines nodes or uses some
abbrev pub is_laid : Source → Bool
is_laid s = defines_node s.keyword || is_source_of uses_word s

-- ---- for the module that uses them, by way of so many groupings at most

abbrev pub nodes_for : Language → Forest Source → ℕ → ℕ → Forest Part → Forest Part
nodes_for language modules owner depth parts =
    replaced (stands_for_in language modules (groupings_of modules) owner depth) owner parts

abbrev pub breaks_for : Language → Forest Source → ℕ → ℕ → Forest Part → List Break
breaks_for language modules owner depth parts =
    unfit_in (unfit_for_in language modules (groupings_of modules) owner depth) parts

-- whether what the augments of a `uses` use passes a test, each
abbrev pub all_inner : (Part → Bool) → List Augment → Bool
all_inner test augments = list_all (λ (a : Augment). all_uses test (laid a.given)) augments

-- whether a `uses` leads on, by its grouping and its augments, over fewer others than a number
unfoldable pub ends_within_in : Language → Forest Source → List Grouping → ℕ → Part → Bool
ends_within_in language modules groupings zero u = false
ends_within_in language modules groupings (suc depth) u = all_uses (ends_within_in language modules groupings depth) (row_used modules groupings u)
    && all_inner (ends_within_in language modules groupings depth) (inner_augments language u.own)

-- no `uses` leads over more
abbrev pub AllEnd : Language → Forest Source → ℕ → Forest Part → Type 0
AllEnd language modules depth parts = all_uses (ends_within_in language modules (groupings_of modules) depth) parts ≡ true

-- ---- what a step adds

-- Nodes come into a table, below one of its nodes or at the top, and the least of some breaks is told.
abbrev pub Adds : Option ℕ → Forest Part → List Break → Made → Made → Type 0
Adds parent nodes breaks old new =
    (parts_in new.table ≡ parts_in old.table ++ places parent (length (slots_of old.table)) nodes)
    × (seen new.told ≡ least_from (seen old.told) breaks)

abbrev pub AddsParts : Language → Forest Source → Option ℕ → ℕ → ℕ → Forest Part → Made → Made → Type 0
AddsParts language modules parent owner depth parts =
    Adds parent (nodes_for language modules owner depth parts) (breaks_for language modules owner depth parts)

-- Where some nodes are the last ones of a table, from a number on, they become others, and the least of some breaks is told.
abbrev pub Changes : ℕ → Forest Part → Forest Part → List Break → Made → Made → Type 0
Changes first before after breaks old new = (earlier : List (Place Part)) (parent : Option ℕ) → length earlier ≡ first
    → parts_in old.table ≡ earlier ++ places parent first before
    → (parts_in new.table ≡ earlier ++ places parent first after) × (seen new.told ≡ least_from (seen old.told) breaks)
