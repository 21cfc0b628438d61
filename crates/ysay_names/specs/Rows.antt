-- Statements of a module by keyword.
use Rattle.std.specs.Prelude.{ℕ, ◌==◌, ◌&&◌, ◌++◌, Bool, false, List, [], ◌∷◌, filter, Option, Some, None, option_map, unwrap_or, if◌then◌else◌}
use Rattle.std.specs.List.{flat_map, list_any}
use Rattle.std.specs.Option.{option_map_or}
use Rattle.yspec.specs.Forest.{Forest, end, node, preorder, row}
use Rattle.yspec.specs.text.Text.{Text, is_text}
use Rattle.yspec.specs.text.Statement.{Statement}

abbrev pub is_word : Text → Statement → Bool
is_word word s = is_text s.keyword word

abbrev pub is_named : Text → Statement → Bool
is_named name s = option_map_or (λ t. is_text t name) s.argument false

-- whether a row has a statement with a keyword
abbrev pub has_word : Text → Forest Statement → Bool
has_word word below = list_any (is_word word) (row below)

-- its argument, where it has one
abbrev pub argument_of : Statement → List Text
argument_of s = unwrap_or (option_map (λ t. t ∷ []) s.argument) []

abbrev pub argument_called : Text → Statement → List Text
argument_called word s = if is_word word s then argument_of s else []

-- the arguments of the statements of a row with a keyword
abbrev pub arguments_called : Text → Forest Statement → List Text
arguments_called word end = []
arguments_called word (node s below after) = argument_called word s ++ arguments_called word after

-- and those below them
abbrev pub all_arguments_called : Text → Forest Statement → List Text
all_arguments_called word top = flat_map (argument_called word) (preorder top)

-- the statements of a row, and below it, whose keywords stand in a line
abbrev pub in_line : ℕ → Forest Statement → List Statement
in_line line top = filter (λ s. s.line == line) (preorder top)

-- the statements of a row and below it, in preorder, each with what stands below it
abbrev pub entries : Forest Statement → List (Statement × Forest Statement)
entries end = []
entries (node s below after) = (s, below) ∷ (entries below ++ entries after)

abbrev pub is_called : Text → Text → Statement × Forest Statement → Bool
is_called word name e = is_word word e.0 && is_named name e.0

abbrev pub alone : Statement × Forest Statement → Bool → Option (Statement × Forest Statement)
alone e others = if others then None else Some e

-- the one with a keyword and a name, if there is one alone
abbrev pub only_called : Text → Text → List (Statement × Forest Statement) → Option (Statement × Forest Statement)
only_called word name [] = None
only_called word name (e ∷ es) = if is_called word name e then alone e (list_any (is_called word name) es) else only_called word name es

-- what stands below the first of a row
abbrev pub below_first : Forest Statement → Forest Statement
below_first end = end
below_first (node s below after) = below
