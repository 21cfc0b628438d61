-- What is said of the statements of a line in which a prefix isn't declared, or is given twice (C6; RFC 7950, 5.1 and 7.1.4).
use Rattle.std.specs.Prelude.{ℕ, ◌==◌, ◌++◌, Bool, not, List, [], ◌∷◌, codes, find, position, take, Option, Some, None, if◌then◌else◌}
use Rattle.std.specs.List.{flat_map, list_any, slice_split}
use Rattle.std.specs.Option.{option_map_or}
use Rattle.yspec.specs.Forest.{Forest, end, node, first_of}
use Rattle.yspec.specs.text.Text.{Text, is_text, colon, slash}
use Rattle.yspec.specs.text.Statement.{Statement}
use Rattle.ysay_text.specs.Line.{shown}
use Rattle.ysay_text.specs.Near.{nearest}
use Rattle.ysay_names.specs.Rows.{arguments_called, argument_called, below_first, in_line, is_word}

-- ---- what a module declares

abbrev pub prefixes_at : Statement → Forest Statement → List Text
prefixes_at s below = argument_called (codes "prefix") s ++ (if is_word (codes "import") s then arguments_called (codes "prefix") below else [])

-- its own prefix and those of its imports, by what stands right below it
abbrev pub prefixes_of : Forest Statement → List Text
prefixes_of end = []
prefixes_of (node s below after) = prefixes_at s below ++ prefixes_of after

-- ---- what names say

abbrev pub is_slash : ℕ → Bool
is_slash x = x == slash

abbrev pub is_colon : ℕ → Bool
is_colon x = x == colon

-- the prefix of a name, where it has one
abbrev pub prefix_of : Text → List Text
prefix_of name = option_map_or (λ n. take n name ∷ []) (position is_colon name) []

abbrev pub prefixes_among : List Text → List Text
prefixes_among names = flat_map prefix_of names

-- those of a name, or of the names of a path
abbrev pub prefixes_used : Text → List Text
prefixes_used t = prefixes_among (slice_split is_slash t)

abbrev pub is_among : List Text → Text → Bool
is_among names t = list_any (λ n. is_text n t) names

abbrev pub unknown_among : List Text → List Text → Option Text
unknown_among declared used = find (λ p. not (is_among declared p)) used

-- statements whose arguments name something
abbrev pub naming_words : List Text
naming_words = codes "type" ∷ codes "uses" ∷ codes "base" ∷ codes "path" ∷ codes "augment" ∷ codes "refine" ∷ codes "key" ∷ codes "unique" ∷ codes "if-feature" ∷ []

abbrev pub names_something : Statement → Bool
names_something s = is_among naming_words s.keyword

abbrev pub unknown_in : List Text → Statement → Option Text
unknown_in declared s = if names_something s then option_map_or (λ t. unknown_among declared (prefixes_used t)) s.argument None else None

abbrev pub first_unknown : List Text → List Statement → Option Text
first_unknown declared [] = None
first_unknown declared (s ∷ ss) = first_of (unknown_in declared s) (first_unknown declared ss)

-- ---- what is said

abbrev pub undeclared : Text → Option Text → Text
undeclared prefix None = codes "no import declares the prefix " ++ (shown prefix ++ codes ".")
undeclared prefix (Some near) = codes "no import declares the prefix " ++ (shown prefix ++ (codes "; near it: " ++ (near ++ codes ".")))

abbrev pub twice : List Text → Text
twice [] = []
twice (prefix ∷ others) = codes "the prefix " ++ (shown prefix ++ codes " is given twice.")

abbrev pub prefixes_given : List Statement → List Text
prefixes_given ss = flat_map (argument_called (codes "prefix")) ss

abbrev pub of_statements : List Text → List Statement → Text
of_statements declared ss = option_map_or (λ p. undeclared p (nearest p declared)) (first_unknown declared ss) (twice (prefixes_given ss))

-- what is said of a line of a module's statements
unfoldable pub of_line : ℕ → Forest Statement → Text
of_line line top = of_statements (prefixes_of (below_first top)) (in_line line top)
