-- What is said of the first augment of a line that adds a node which must be there (C15; RFC 7950, 3 and 7.17).
use Rattle.std.specs.Prelude.{ℕ, ◌==◌, ◌++◌, ◌&&◌, Bool, not, List, [], ◌∷◌, codes, decimal, find, Option, Some, None, option_map, unwrap_or, if◌then◌else◌}
use Rattle.yspec.specs.Forest.{Forest, end, node, first_of}
use Rattle.yspec.specs.text.Text.{Text, is_text}
use Rattle.yspec.specs.text.Statement.{Statement}
use Rattle.ysay_text.specs.Line.{shown}
use Rattle.ysay_names.specs.Rows.{arguments_called, below_first, entries, has_word, is_word}
use Rattle.ysay_names.specs.Prefixes.{is_among}

-- ---- which nodes must be there

-- whether a row has a statement with a keyword and an argument
abbrev pub states : Text → Text → Forest Statement → Bool
states word t below = is_among (arguments_called word below) t

abbrev pub name_of : Statement → Text
name_of s = unwrap_or s.argument []

-- a name, and the line where it stands
abbrev pub placed : Statement → Text
placed s = shown (name_of s) ++ (codes " (line " ++ (decimal s.line ++ codes ")"))

abbrev pub flagged_words : List Text
flagged_words = codes "leaf" ∷ codes "choice" ∷ codes "anydata" ∷ codes "anyxml" ∷ []

abbrev pub counted_words : List Text
counted_words = codes "leaf-list" ∷ codes "list" ∷ []

abbrev pub of_flagged : Statement → Forest Statement → Option Text
of_flagged s below = if states (codes "mandatory") (codes "true") below then Some (placed s ++ codes " is mandatory.") else None

abbrev pub is_amount : Text → Bool
is_amount t = not (is_text t (codes "0"))

-- how many there must be, where a row says so
abbrev pub least_amount : Forest Statement → Option Text
least_amount below = find is_amount (arguments_called (codes "min-elements") below)

abbrev pub amount_text : Statement → Text → Text
amount_text s t = placed s ++ (codes " has min-elements " ++ (shown t ++ codes "."))

abbrev pub of_counted : Statement → Forest Statement → Option Text
of_counted s below = option_map (amount_text s) (least_amount below)

abbrev pub of_node : Statement → Forest Statement → Option Text
of_node s below = if is_among flagged_words s.keyword then of_flagged s below
    else (if is_among counted_words s.keyword then of_counted s below else None)

-- a container without presence must be there where something in it must be
abbrev pub is_plain : Statement → Forest Statement → Bool
is_plain s below = is_word (codes "container") s && not (has_word (codes "presence") below)

-- the nodes of a row, and in place of such containers those in them; what a `uses` brings isn't looked at
abbrev pub inner_nodes : Forest Statement → List (Statement × Forest Statement)
inner_nodes end = []
inner_nodes (node s below after) = (if is_plain s below then inner_nodes below else (s, below) ∷ []) ++ inner_nodes after

-- ---- of a line

-- state may be added
abbrev pub added : Forest Statement → List (Statement × Forest Statement)
added end = []
added (node s below after) = (if states (codes "config") (codes "false") below then [] else inner_nodes (node s below end)) ++ added after

-- of the first of several that must be there
abbrev pub of_nodes : List (Statement × Forest Statement) → Option Text
of_nodes [] = None
of_nodes (e ∷ es) = first_of (of_node e.0 e.1) (of_nodes es)

abbrev pub of_entry : ℕ → Statement × Forest Statement → Option Text
of_entry line e = if e.0.line == line && is_word (codes "augment") e.0 then of_nodes (added e.1) else None

abbrev pub of_entries : ℕ → List (Statement × Forest Statement) → Text
of_entries line [] = []
of_entries line (e ∷ es) = unwrap_or (of_entry line e) (of_entries line es)

-- what is said of a line of a module's statements
unfoldable pub of_line : ℕ → Forest Statement → Text
of_line line top = of_entries line (entries (below_first top))
