-- How many nodes a set of modules defines, counted without expanding (RFC 7950, 7.13 and 7.17).
use Rattle.std.specs.Prelude.{ℕ, zero, suc, ◌+◌, ◌==◌, List, [], ◌∷◌, map, find, if◌then◌else◌}
use Rattle.std.specs.Option.{option_map_or}
use Rattle.yspec.specs.Forest.{Forest, end, node, size}
use Rattle.yspec.specs.linking.Source.{Source}
use Rattle.yspec.specs.linking.DerivedTypes.{number_named}
use Rattle.yspec.specs.linking.Parts.{Part}
use Rattle.yspec.specs.linking.Expansion.{Grouping, is_uses, laid, groupings_of}
use Rattle.yspec.specs.linking.Augments.{Augment, augments_of}

-- of a row, given how many nodes each `uses` stands for
unfoldable pub counted : (Part → ℕ) → Forest Part → ℕ
counted meant end = 0
counted meant (node p below after) =
    (if is_uses p then meant p else suc (counted meant below)) + counted meant after

-- the number of nodes of a grouping, by the grouping's number
pub record GroupingCount : Type 0 where
  pub number : ℕ
  pub count : ℕ

abbrev pub count_in : List GroupingCount → ℕ → ℕ
count_in counts number = option_map_or (λ c. c.count) (find (λ c. c.number == number) counts) 0

-- how many a `uses` stands for, by a table of counts
abbrev pub count_used : Forest Source → List GroupingCount → Part → ℕ
count_used modules counts u = option_map_or (count_in counts) (number_named modules u.source.number) 0

-- each grouping counted by a table
abbrev pub counted_by : Forest Source → List GroupingCount → Grouping → GroupingCount
counted_by modules counts g =
    record { number = g.number; count = counted (count_used modules counts) g.row }

-- all groupings, by way of so many at most
unfoldable pub counts_within : Forest Source → List Grouping → ℕ → List GroupingCount
counts_within modules groupings zero = []
counts_within modules groupings (suc depth) =
    map (counted_by modules (counts_within modules groupings depth)) groupings

abbrev pub counted_from : Forest Source → List GroupingCount → Forest Source → ℕ
counted_from modules counts end = 0
counted_from modules counts (node s below after) =
    counted (count_used modules counts) (laid below) + counted_from modules counts after

-- those that augments add; a single node of a choice counts without the case for which it stands
abbrev pub counted_in : Forest Source → List GroupingCount → List Augment → ℕ
counted_in modules counts [] = 0
counted_in modules counts (a ∷ others) =
    counted (count_used modules counts) (laid a.given) + counted_in modules counts others

-- the nodes of a set of modules
abbrev pub node_count : Forest Source → ℕ
node_count modules = let groupings = groupings_of modules in
    let counts = counts_within modules groupings (suc (size modules)) in
    counted_from modules counts modules + counted_in modules counts (augments_of modules)
