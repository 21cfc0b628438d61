-- The statements that linking stands on: those of the table, each with its keyword, its number and its module.
use Rattle.std.specs.Prelude.{ℕ, suc, ◌+◌, Bool, false, List, [], filter, find, Option, Some, None, option_map, option_and_then, unwrap_or, if◌then◌else◌}
use Rattle.yspec.specs.Forest.{Forest, end, node, row, join, size}
use Rattle.yspec.specs.text.Text.{Text}
use Rattle.yspec.specs.text.Statement.{Statement}
use Rattle.yspec.specs.linking.Keyword.{Keyword, same_keyword, keyword_named, extension_word}

-- A statement is named by its number in preorder over the whole set, modules as given; `home` is the number of its module
-- in the set, and `may_refer` says whether a member of a union may be a leafref there.
pub record Source : Type 0 where
  pub keyword : Keyword
  pub statement : Statement
  pub number : ℕ
  pub home : ℕ
  pub may_refer : Bool

-- An `extension` says nothing to a compiler, nor does a statement with a keyword that isn't in the table, as a prefixed
-- one.
abbrev pub unless_extension : Keyword → Option Keyword
unless_extension k = if same_keyword k extension_word then None else Some k

abbrev pub kept_keyword : Statement → Option Keyword
kept_keyword s = option_and_then unless_extension (keyword_named s.keyword)

-- those that are left, the others being left out with all below them
abbrev pub kept_at : Option Keyword → Statement → Forest (Keyword × Statement) → Forest (Keyword × Statement)
    → Forest (Keyword × Statement)
kept_at None s below after = after
kept_at (Some k) s below after = node (k, s) below after

unfoldable pub kept : Forest Statement → Forest (Keyword × Statement)
kept end = end
kept (node s below after) = kept_at (kept_keyword s) s (kept below) (kept after)

-- numbered from a number on
unfoldable pub numbered : Bool → ℕ → ℕ → Forest (Keyword × Statement) → Forest Source
numbered may home number end = end
numbered may home number (node (k, s) below after) =
    node (record { keyword = k; statement = s; number = number; home = home; may_refer = may }) (numbered may home (number + 1) below)
    (numbered may home (number + suc (size below)) after)

-- The top statements of a set, from a module and a number on. No member of a union is a leafref.
unfoldable pub sources_from : ℕ → ℕ → Forest Statement → Forest Source
sources_from home number end = end
sources_from home number (node s below after) = let module_row = kept (node s below end) in
    join (numbered false home number module_row) (sources_from (home + 1) (number + size module_row) after)

abbrev pub sources_of : Forest Statement → Forest Source
sources_of modules = sources_from 0 0 modules

-- ---- questions

-- the argument; a statement without one is called by its keyword, as `input` and `output` are (RFC 7950, 7.14.2 and 7.14.3)
abbrev pub argument_in : Source → Text
argument_in s = unwrap_or s.statement.argument s.statement.keyword

abbrev pub is_source_of : Keyword → Source → Bool
is_source_of k s = same_keyword k s.keyword

-- the first of a row with a keyword, and all of them
abbrev pub first_with : Keyword → Forest Source → Option Source
first_with k sources = find (is_source_of k) (row sources)

abbrev pub all_with : Keyword → Forest Source → List Source
all_with k sources = filter (is_source_of k) (row sources)

-- the argument of the first of a row with a keyword
abbrev pub argument_with : Keyword → Forest Source → Option Text
argument_with k sources = option_map argument_in (first_with k sources)

-- the argument of a statement, with the number of the module in which it stands
pub record Stated : Type 0 where
  pub home : ℕ
  pub text : Text

abbrev pub stated_by : Source → Stated
stated_by s = record { home = s.home; text = argument_in s }

abbrev pub stated_with : Keyword → Forest Source → Option Stated
stated_with k sources = option_map stated_by (first_with k sources)

-- the first of a row with a keyword, and what stands below it
abbrev pub found_with : Keyword → Forest Source → Option (Source × Forest Source)
found_with k end = None
found_with k (node s below after) = if is_source_of k s then Some (s, below) else found_with k after
