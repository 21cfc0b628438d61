-- How many nodes a set of modules defines in a language, counted without expanding (RFC 7950, 7.13 and 7.17).
use Rattle.std.specs.Prelude.{ℕ, zero, suc, ◌+◌, ◌&&◌, not, List, [], ◌∷◌, map, Option, Some, None, if◌then◌else◌}
use Rattle.std.specs.List.{filter_map}
use Rattle.std.specs.Option.{option_map_or}
use Rattle.yspec.specs.Forest.{Forest, end, node, size}
use Rattle.yspec.specs.linking.Keyword.{Keyword, same_keyword, grouping_word, uses_word, choice_word, case_word, augment_word, module_word}
use Rattle.yspec.specs.linking.Source.{Source, is_source_of}
use Rattle.yspec.specs.linking.Scopes.{Placed, statements_of}
use Rattle.yspec.specs.linking.DerivedTypes.{number_named}
use Rattle.yspec.specs.linking.Parts.{defines_node}
use Rattle.yspec.specs.linking.NodeCounts.{GroupingCount, count_in}
use Rattle.yspec.specs.linking.Augments.{Augment, augments_of}
use Rattle.yspec_wide.specs.Language.{Language}
use Rattle.yspec_wide.specs.Sources.{is_augment_in}

-- the case for which a single node of a choice stands
abbrev pub count_of_case : Keyword → Source → ℕ
count_of_case above s = if same_keyword choice_word above && not (is_source_of case_word s) then 1 else 0

-- a grouping by its number, with what stands below it
pub record GroupingRow : Type 0 where
  pub number : ℕ
  pub row : Forest Source

abbrev pub grouping_row_at : Placed → Option GroupingRow
grouping_row_at p =
    if is_source_of grouping_word p.source then Some (record { number = p.source.number; row = p.below }) else None

abbrev pub grouping_rows : Forest Source → List GroupingRow
grouping_rows modules = filter_map grouping_row_at (statements_of modules)

module _ (language : Language) where
  -- Of a statement by the keyword of the one above it, given what the grouping has that it uses, and how many stand below it: below
  -- a `uses` its augments count by what they add.
  abbrev pub counted_alone : (Source → ℕ) → Keyword → Source → ℕ → ℕ
  counted_alone meant above s inner = if same_keyword uses_word above then (if is_augment_in language s then inner else 0)
      else (if defines_node s.keyword then count_of_case above s + suc inner
      else (if is_source_of uses_word s then count_of_case above s + (meant s + inner) else 0))

  -- of a row
  unfoldable pub counted_below : (Source → ℕ) → Keyword → Forest Source → ℕ
  counted_below meant above end = 0
  counted_below meant above (node s below after) =
      counted_alone meant above s (counted_below meant s.keyword below) + counted_below meant above after

  -- how many the grouping has that a `uses` names, by a table of counts
  abbrev pub count_used_in : Forest Source → List GroupingCount → Source → ℕ
  count_used_in modules counts s = option_map_or (count_in counts) (number_named modules s.number) 0

  abbrev pub counted_by_in : Forest Source → List GroupingCount → GroupingRow → GroupingCount
  counted_by_in modules counts g =
      record { number = g.number; count = counted_below (count_used_in modules counts) grouping_word g.row }

  -- all groupings, by way of so many at most
  unfoldable pub counts_within_in : Forest Source → List GroupingRow → ℕ → List GroupingCount
  counts_within_in modules groupings zero = []
  counts_within_in modules groupings (suc depth) =
      map (counted_by_in modules (counts_within_in modules groupings depth)) groupings

  abbrev pub all_counts_in : Forest Source → List GroupingCount
  all_counts_in modules = counts_within_in modules (grouping_rows modules) (suc (size modules))

  abbrev pub counted_in_from : Forest Source → List GroupingCount → Forest Source → ℕ
  counted_in_from modules counts end = 0
  counted_in_from modules counts (node s below after) =
      counted_below (count_used_in modules counts) module_word below + counted_in_from modules counts after

  -- those that augments add; a single node of a choice counts without the case for which it stands
  abbrev pub counted_by_augments : Forest Source → List GroupingCount → List Augment → ℕ
  counted_by_augments modules counts [] = 0
  counted_by_augments modules counts (a ∷ others) =
      counted_below (count_used_in modules counts) augment_word a.given + counted_by_augments modules counts others

  -- the nodes of a set of modules
  abbrev pub node_count_in : Forest Source → ℕ
  node_count_in modules = let counts = all_counts_in modules in
      counted_in_from modules counts modules + counted_by_augments modules counts (augments_of modules)
