-- What is said of the first node of a line that has the name of another one (C13; RFC 7950, 6.2.1 and 7.9).
use Rattle.std.specs.Prelude.{ℕ, ◌==◌, ◌++◌, ◌&&◌, ◌||◌, Bool, not, List, [], ◌∷◌, codes, decimal, filter, Option, Some, None, option_map, option_and_then, unwrap_or, if◌then◌else◌}
use Rattle.yspec.specs.Forest.{Forest, end, node, row, first_of}
use Rattle.yspec.specs.text.Text.{Text}
use Rattle.yspec.specs.text.Statement.{Statement}
use Rattle.ysay_text.specs.Line.{shown}
use Rattle.ysay_names.specs.Rows.{entries, is_named, is_word}
use Rattle.ysay_names.specs.Keys.{defines_node}

-- ---- the nodes of one scope

-- names below choices and cases are in the scope around them
abbrev pub is_passed : Statement → Bool
is_passed s = is_word (codes "choice") s || is_word (codes "case") s

abbrev pub node_at : Statement → List Statement
node_at s = if defines_node s && not (is_word (codes "case") s) then s ∷ [] else []

abbrev pub scope : Forest Statement → List Statement
scope end = []
scope (node s below after) = node_at s ++ ((if is_passed s then scope below else []) ++ scope after)

-- the cases of a choice, short ones among them
abbrev pub cases : Forest Statement → List Statement
cases below = filter defines_node (row below)

-- ---- what is said

-- the line of the first of a name that stands in another line
abbrev pub is_other : ℕ → Text → Statement → Bool
is_other line name s = is_named name s && not (s.line == line)

abbrev pub other_line : ℕ → Text → List Statement → Option ℕ
other_line line name [] = None
other_line line name (s ∷ ss) = if is_other line name s then Some s.line else other_line line name ss

abbrev pub doubled : Text → Text → ℕ → Text
doubled front name other = front ++ (shown name ++ (codes "; the other stands in line " ++ (decimal other ++ codes ".")))

abbrev pub of_name : Text → ℕ → List Statement → Text → Option Text
of_name front line all name = option_map (doubled front name) (other_line line name all)

abbrev pub of_node : Text → ℕ → List Statement → Statement → Option Text
of_node front line all s = if s.line == line then option_and_then (of_name front line all) s.argument else None

abbrev pub of_nodes : Text → ℕ → List Statement → List Statement → Option Text
of_nodes front line all [] = None
of_nodes front line all (s ∷ ss) = first_of (of_node front line all s) (of_nodes front line all ss)

abbrev pub of_all : Text → ℕ → List Statement → Option Text
of_all front line all = of_nodes front line all all

-- ---- of a line

abbrev pub of_entry : ℕ → Statement × Forest Statement → Option Text
of_entry line e = if is_word (codes "choice") e.0 then of_all (codes "two cases are called ") line (cases e.1)
    else (if is_word (codes "case") e.0 then None else of_all (codes "two nodes are called ") line (scope e.1))

abbrev pub of_entries : ℕ → List (Statement × Forest Statement) → Text
of_entries line [] = []
of_entries line (e ∷ es) = unwrap_or (of_entry line e) (of_entries line es)

-- what is said of a line of a module's statements
unfoldable pub of_line : ℕ → Forest Statement → Text
of_line line top = of_entries line (entries top)
