-- The text of a path with keys in place of positions (RFC 7951, 6.11; RFC 7950, 9.13), which an edit takes.
use Rattle.std.specs.Prelude.{ℕ, ◌++◌, ◌==◌, Bool, not, List, [], ◌∷◌, codes, Option, Some, None, option_and_then, option_map, unwrap_or, if◌then◌else◌}
use Rattle.std.specs.List.{list_any}
use Rattle.std.specs.Option.{option_map_or}
use Rattle.yspec.specs.text.Text.{Text, single_quote, double_quote}
use Rattle.yspec.specs.types.Types.{Raw}
use Rattle.yspec.specs.schema.Schema.{Schema, SchemaNode, Kind, list, node_at, written_name}
use Rattle.yspec.specs.document.Document.{Stored, Tree, Step, stored_in}
use Rattle.yspec.specs.document.Path.{position_text, module_after}
use Rattle.yspec.specs.edit.Editing.{text_of}
use Rattle.ysay_text.specs.Control.{has_control}
use Rattle.ysay_place.specs.Places.{instance_to, row_to}

-- the name of the node of a number
abbrev pub name_of : Schema → ℕ → Text
name_of schema number = option_map_or (λ n. n.name) (node_at schema number) []

-- the value of a leaf in the row below an entry
abbrev pub leaf_in : Tree → ℕ → Option Raw
leaf_in row number = option_and_then (λ s. s.value) (stored_in number row)

-- ---- predicates, as an edit's path has them

abbrev pub has_byte : ℕ → Text → Bool
has_byte x t = list_any (λ y. y == x) t

-- The quotes around a text in a path: single ones, or double ones where it has a single one. A text with both can't stand in a
-- path, nor is one written there that a terminal would obey.
abbrev pub quotes_for : Text → Option Text
quotes_for t = if has_control t then None
    else (if not (has_byte single_quote t) then Some (codes "'")
    else (if not (has_byte double_quote t) then Some (codes "\"") else None))

abbrev pub in_quotes : Text → Option Text
in_quotes t = option_map (λ quotes. quotes ++ (t ++ quotes)) (quotes_for t)

-- the canonical text of a key in the row below an entry, by which an edit finds the entry; none where it is missing or invalid
abbrev pub key_text : Schema → Tree → ℕ → Option Text
key_text schema row key = option_and_then (text_of schema) (stored_in key row)

-- `[name='text']`
abbrev pub key_predicate : Schema → Tree → ℕ → Option Text
key_predicate schema row key = option_map (λ text. codes "[" ++ (name_of schema key ++ (codes "=" ++ (text ++ codes "]"))))
    (option_and_then in_quotes (key_text schema row key))

-- those of some keys, where each has one
abbrev pub all_predicates : Schema → Tree → List ℕ → Option Text
all_predicates schema row [] = Some []
all_predicates schema row (key ∷ keys) =
    option_and_then (λ first. option_map (λ others. first ++ others) (all_predicates schema row keys)) (key_predicate schema row key)

-- those of the keys of a list, where there are any
abbrev pub key_predicates : Schema → Tree → List ℕ → Option Text
key_predicates schema row [] = None
key_predicates schema row (key ∷ keys) = all_predicates schema row (key ∷ keys)

-- what stands behind the name of a list for the entry at a position, and behind that of a leaf-list for the item: its keys,
-- else the position
abbrev pub instance_predicate : Schema → Kind → Tree → ℕ → Text
instance_predicate schema (list tuples amount) below position =
    unwrap_or (key_predicates schema below tuples.keys) (position_text (Some position))
instance_predicate schema _ below position = position_text (Some position)

abbrev pub found_predicate : Schema → Option SchemaNode → Option (Stored × Tree) → ℕ → Text
found_predicate schema (Some n) (Some found) position = instance_predicate schema n.kind found.1 position
found_predicate schema _ _ position = position_text (Some position)

-- nothing stands behind the name of a list as a whole
abbrev pub predicate : Schema → Tree → Step → Option ℕ → Text
predicate schema row step None = []
predicate schema row step (Some position) =
    found_predicate schema (node_at schema step.schema_number) (instance_to row step) position

-- ---- paths

abbrev pub named_step : Schema → Option ℕ → ℕ → Text
named_step schema parent number = option_map_or (λ n. codes "/" ++ written_name schema parent n) (node_at schema number) []

abbrev pub keyed_step : Schema → Option ℕ → Tree → Step → Text
keyed_step schema parent row step =
    named_step schema parent step.schema_number ++ predicate schema row step step.position

-- from a node of a module, or from the top
abbrev pub keyed_from : Schema → Option ℕ → Tree → List Step → Text
keyed_from schema parent row [] = []
keyed_from schema parent row (step ∷ steps) = keyed_step schema parent row step
    ++ keyed_from schema (module_after schema step) (row_to row step) steps

-- the root is `/`
abbrev pub keyed_path : Schema → Tree → List Step → Text
keyed_path schema tree [] = codes "/"
keyed_path schema tree (step ∷ steps) = keyed_from schema None tree (step ∷ steps)
