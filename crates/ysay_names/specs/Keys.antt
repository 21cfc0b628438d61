-- What is said of the list of a line, the key or a unique of which names nothing (C12; RFC 7950, 7.8.2 and 7.8.3).
use Rattle.std.specs.Prelude.{ℕ, ◌==◌, ◌++◌, ◌&&◌, ◌||◌, Bool, List, [], ◌∷◌, codes, map, Option, Some, None, option_and_then, unwrap_or, if◌then◌else◌}
use Rattle.std.specs.List.{flat_map}
use Rattle.std.specs.Option.{option_map_or}
use Rattle.yspec.specs.Forest.{Forest, end, node, row, first_of}
use Rattle.yspec.specs.text.Text.{Text}
use Rattle.yspec.specs.text.Statement.{Statement}
use Rattle.yspec.specs.linking.Arguments.{Name, unique_of}
use Rattle.ysay_text.specs.Line.{shown}
use Rattle.ysay_text.specs.Near.{nearest}
use Rattle.ysay_names.specs.Rows.{argument_of, has_word, is_named, is_word}
use Rattle.ysay_names.specs.Prefixes.{is_among}

-- ---- where paths lead, by what stands in the text

abbrev pub node_words : List Text
node_words = codes "container" ∷ codes "leaf" ∷ codes "leaf-list" ∷ codes "list" ∷ codes "choice" ∷ codes "case" ∷ codes "anydata" ∷ codes "anyxml" ∷ []

abbrev pub defines_node : Statement → Bool
defines_node s = is_among node_words s.keyword

abbrev pub child_at : Statement → List Text
child_at s = if defines_node s then argument_of s else []

-- the names of the nodes that a row defines
abbrev pub children : Forest Statement → List Text
children below = flat_map child_at (row below)

abbrev pub is_child : Text → Statement → Bool
is_child name s = defines_node s && is_named name s

-- what stands below the first node of a name
abbrev pub below_child : Text → Forest Statement → Forest Statement
below_child name end = end
below_child name (node s below after) = if is_child name s then below else below_child name after

-- what a `uses` brings isn't known
abbrev pub has_uses : Forest Statement → Bool
has_uses below = has_word (codes "uses") below

-- ---- what is said

abbrev pub absent : Text → Text → Option Text → Text
absent word step None = codes "the " ++ (word ++ (codes " names " ++ (shown step ++ codes ", which isn't there.")))
absent word step (Some near) = codes "the " ++ (word ++ (codes " names " ++ (shown step ++ (codes ", which isn't there; near it: " ++ (near ++ codes ".")))))

-- of the first step of a path that leads nowhere; what a `uses` brings isn't known
abbrev pub of_path : Text → List Text → Forest Statement → Option Text
of_path word [] below = None
of_path word (step ∷ steps) below = if has_uses below then None
    else (if is_among (children below) step then of_path word steps (below_child step below)
    else Some (absent word step (nearest step (children below))))

abbrev pub of_paths : Text → Forest Statement → List (List Text) → Option Text
of_paths word below [] = None
of_paths word below (path ∷ paths) = first_of (of_path word path below) (of_paths word below paths)

abbrev pub steps_of : List Name → List Text
steps_of names = map (λ (n : Name). n.identifier) names

-- the names of a key are paths of one step
abbrev pub paths_of : Text → List (List Text)
paths_of t = option_map_or (map steps_of) (unique_of t) []

abbrev pub names_leafs : Statement → Bool
names_leafs s = is_word (codes "key") s || is_word (codes "unique") s

abbrev pub of_argument : Forest Statement → Text → Text → Option Text
of_argument below word t = of_paths word below (paths_of t)

abbrev pub of_statement : Forest Statement → Statement → Option Text
of_statement below s = if names_leafs s then option_and_then (of_argument below s.keyword) s.argument else None

abbrev pub of_statements : Forest Statement → List Statement → Text
of_statements below [] = []
of_statements below (s ∷ ss) = unwrap_or (of_statement below s) (of_statements below ss)

-- of a list, by what stands right below it
abbrev pub of_list : Forest Statement → Text
of_list below = of_statements below (row below)

-- what stands below the first list of a line
abbrev pub list_in : ℕ → Forest Statement → Option (Forest Statement)
list_in line end = None
list_in line (node s below after) = if s.line == line && is_word (codes "list") s then Some below
    else first_of (list_in line below) (list_in line after)

unfoldable pub of_line : ℕ → Forest Statement → Text
of_line line top = option_map_or of_list (list_in line top) []
