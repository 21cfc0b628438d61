-- Parts: the statements that define schema nodes, with what they state of them (RFC 7950, 7.5 to 7.9).
use Rattle.std.specs.Prelude.{ℕ, Bool, true, false, Option, None, if◌then◌else◌}
use Rattle.yspec.specs.Forest.{Forest, end, node}
use Rattle.yspec.specs.linking.Keyword.{Keyword}
use Rattle.yspec.specs.linking.Keyword as word
use Rattle.yspec.specs.linking.Source.{Source, is_source_of}

-- A statement that defines a schema node. `own` are its substatements that define none; the forest below it is made of
-- parts again. `owner` is the module to which the node belongs, by its number in the set; `added_by` the number of the
-- `augment` that put it below its target.
pub record Part : Type 0 where
  pub source : Source
  pub own : Forest Source
  pub owner : ℕ
  pub added_by : Option ℕ

abbrev pub defines_node : Keyword → Bool
defines_node word.container_word = true
defines_node word.leaf_word = true
defines_node word.leaf_list_word = true
defines_node word.list_word = true
defines_node word.choice_word = true
defines_node word.case_word = true
defines_node _ = false

-- the row without the statements that define nodes, each with all below it
abbrev pub own_of : Forest Source → Forest Source
own_of end = end
own_of (node s below after) = if defines_node s.keyword then own_of after else node s below (own_of after)

abbrev pub part_of : Source → Forest Source → Part
part_of s below = record { source = s; own = own_of below; owner = s.home; added_by = None }

-- ---- a single node in a choice stands for a case of its name that holds it (RFC 7950, 7.9.2)

abbrev pub case_for : Part → Part
case_for p = record p { source = record p.source { keyword = word.case_word }; own = end }

abbrev pub as_cases : Forest Part → Forest Part
as_cases end = end
as_cases (node p below after) = if is_source_of word.case_word p.source then node p below (as_cases after)
    else node (case_for p) (node p below end) (as_cases after)

abbrev pub within : Source → Forest Part → Forest Part
within s parts = if is_source_of word.choice_word s then as_cases parts else parts
