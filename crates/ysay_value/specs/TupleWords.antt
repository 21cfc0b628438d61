-- What is said of the values of a key or a `unique` (RFC 7950, 7.8.2 and 7.8.3).
use Rattle.std.specs.Prelude.{ℕ, ◌++◌, ◌-◌, ◌==◌, List, [], ◌∷◌, codes, length, map, slice_get, unwrap_or, Option, Some, None, option_and_then, if◌then◌else◌}
use Rattle.std.specs.Option.{option_map_or}
use Rattle.yspec.specs.text.Text.{Text}
use Rattle.yspec.specs.types.Types.{Raw}
use Rattle.yspec.specs.schema.Schema.{Schema, Kind, list, Tuples, LeafPath, node_at}
use Rattle.yspec.specs.document.Document.{Tree, step_to}
use Rattle.ysay_value.specs.Joining.{joined}
use Rattle.ysay_place.specs.KeyedPath.{name_of, leaf_in}
use Rattle.ysay_place.specs.Places.{row_to}
use Rattle.ysay_value.specs.Values.{bare_text, quoted, value_text}

-- ---- what the schema says of a list

abbrev pub tuples_in : Kind → Option Tuples
tuples_in (list tuples amount) = Some tuples
tuples_in _ = None

abbrev pub tuples_at : Schema → ℕ → Option Tuples
tuples_at schema number = option_and_then (λ n. tuples_in n.kind) (node_at schema number)

abbrev pub keys_at : Schema → ℕ → List ℕ
keys_at schema number = option_map_or (λ t. t.keys) (tuples_at schema number) []

-- the leafs of a `unique`; the first is 1
abbrev pub unique_of : Tuples → ℕ → List LeafPath
unique_of tuples u = unwrap_or (slice_get tuples.uniques (u - 1)) []

abbrev pub unique_at : Schema → ℕ → ℕ → List LeafPath
unique_at schema number u = option_map_or (λ t. unique_of t u) (tuples_at schema number) []

-- ---- the leafs below an entry

-- the value of a leaf in the containers that lead to it
abbrev pub leaf_at : Tree → LeafPath → Option Raw
leaf_at row [] = None
leaf_at row (number ∷ []) = leaf_in row number
leaf_at row (number ∷ next ∷ path) = leaf_at (row_to row (step_to number)) (next ∷ path)

-- a leaf that isn't stored has its default
abbrev pub found_words : Option Raw → Text
found_words None = codes "by default"
found_words (Some raw) = value_text (Some raw)

-- its name behind those of the containers
abbrev pub path_name : Schema → LeafPath → Text
path_name schema path = joined (codes "/") (map (name_of schema) path)

abbrev pub leaf_words : Schema → Tree → LeafPath → Text
leaf_words schema row path = path_name schema path ++ (codes " " ++ found_words (leaf_at row path))

-- ---- what is said of them

-- `name='value'`
abbrev pub key_words : Schema → Tree → ℕ → Text
key_words schema row key = name_of schema key ++ (codes "=" ++ quoted (bare_text (leaf_in row key)))

abbrev pub key_noun : ℕ → Text
key_noun n = if n == 1 then codes "key " else codes "keys "

abbrev pub that_of : ℕ → Text
that_of n = if n == 1 then codes " is that of " else codes " are those of "

abbrev pub keys_said : Schema → Tree → List ℕ → Text
keys_said schema row keys = codes "its " ++ (key_noun (length keys)
    ++ (joined (codes " and ") (map (key_words schema row) keys) ++ that_of (length keys)))

abbrev pub leafs_said : Schema → Tree → List LeafPath → Text
leafs_said schema row paths =
    codes "its " ++ (joined (codes " and ") (map (leaf_words schema row) paths) ++ that_of (length paths))
