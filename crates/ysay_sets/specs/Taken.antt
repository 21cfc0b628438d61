-- What is said of the first statement of a line that takes a name which another one has (C7; RFC 7950, 5.5 and 6.2.1).
use Rattle.std.specs.Prelude.{ℕ, ◌==◌, ◌++◌, ◌&&◌, Bool, false, List, [], ◌∷◌, codes, decimal, Option, Some, None, option_and_then, unwrap_or, if◌then◌else◌}
use Rattle.std.specs.List.{list_any}
use Rattle.yspec.specs.Forest.{Forest, end, node, row, first_of}
use Rattle.yspec.specs.text.Text.{Text, is_text}
use Rattle.yspec.specs.text.Statement.{Statement}
use Rattle.ysay_text.specs.Line.{shown}
use Rattle.ysay_names.specs.Rows.{below_first, entries, is_named, is_word}
use Rattle.ysay_names.specs.Prefixes.{is_among}
use Rattle.ysay_names.specs.Names.{built_in_names}

-- ---- modules

abbrev pub has_named : Text → Forest Statement → Bool
has_named name modules = list_any (is_named name) (row modules)

-- whether two modules have a name
abbrev pub has_two : Text → Forest Statement → Bool
has_two name end = false
has_two name (node s below after) = if is_named name s then has_named name after else has_two name after

abbrev pub of_module : Forest Statement → Text → Option Text
of_module modules name = if has_two name modules then Some (codes "two modules are called " ++ (shown name ++ codes ".")) else None

-- ---- definitions

abbrev pub is_called : Text → Text → Statement → Bool
is_called word name s = is_word word s && is_named name s

-- the line of the first statement of a row with a keyword and a name
abbrev pub line_in : Text → Text → Forest Statement → Option ℕ
line_in word name end = None
line_in word name (node s below after) = if is_called word name s then Some s.line else line_in word name after

-- of several definitions around a statement the outermost has the name, and there the first
abbrev pub held_in : Text → Text → Option ℕ → Forest Statement → Option ℕ
held_in word name held below = first_of held (line_in word name below)

-- the line of the definition that has the name where the first one of a line stands
abbrev pub holder : Text → Text → ℕ → Option ℕ → Forest Statement → Option ℕ
holder word name line held end = None
holder word name line held (node s below after) = first_of
    (if s.line == line && is_called word name s then held else holder word name line (held_in word name held below) below)
    (holder word name line held after)

abbrev pub several : Text → Text
several word = if is_text word (codes "identity") then codes "identities" else word ++ codes "s"

abbrev pub taken : Text → Text → ℕ → Text
taken word name other = codes "two " ++ (several word ++ (codes " are called " ++ (shown name
    ++ (codes "; the other stands in line " ++ (decimal other ++ codes ".")))))

abbrev pub unless_itself : Text → Text → ℕ → ℕ → Option Text
unless_itself word name line other = if other == line then None else Some (taken word name other)

abbrev pub of_name : ℕ → Forest Statement → Text → Text → Option Text
of_name line top word name = option_and_then (unless_itself word name line) (holder word name line None top)

-- RFC 7950, 4.2.4 and 7.3
abbrev pub of_typedef : Text → Option Text
of_typedef name = if is_among built_in_names name then Some (shown name ++ codes " is a built-in type.") else None

abbrev pub definition_words : List Text
definition_words = codes "grouping" ∷ codes "identity" ∷ codes "feature" ∷ []

abbrev pub of_definition : ℕ → Forest Statement → Text → Text → Option Text
of_definition line top word name = if is_text word (codes "typedef") then first_of (of_typedef name) (of_name line top word name)
    else (if is_among definition_words word then of_name line top word name else None)

-- ---- of a line

abbrev pub of_top : ℕ → Forest Statement → Forest Statement → Option Text
of_top line modules end = None
of_top line modules (node s below after) = if s.line == line && is_word (codes "module") s then option_and_then (of_module modules) s.argument else None

abbrev pub of_entry : ℕ → Forest Statement → Statement × Forest Statement → Option Text
of_entry line top e = if e.0.line == line then option_and_then (of_definition line top e.0.keyword) e.0.argument else None

abbrev pub of_entries : ℕ → Forest Statement → List (Statement × Forest Statement) → Text
of_entries line top [] = []
of_entries line top (e ∷ es) = unwrap_or (of_entry line top e) (of_entries line top es)

-- what is said of a line of the statements of a module of a set
unfoldable pub of_line : ℕ → Forest Statement → Forest Statement → Text
of_line line modules top = unwrap_or (of_top line modules top) (of_entries line top (entries (below_first top)))
