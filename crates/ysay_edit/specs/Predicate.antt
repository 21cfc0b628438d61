-- What is said of the path of an edit, one of whose predicates is missing, out of place, or of another kind than is due (E3).
use Rattle.std.specs.Prelude.{ℕ, ◌&&◌, ◌++◌, Bool, true, false, List, [], ◌∷◌, codes, Option, Some, None, if◌then◌else◌}
use Rattle.std.specs.List.{flat_map}
use Rattle.std.specs.Option.{option_map_or}
use Rattle.yspec.specs.text.Text.{Text}
use Rattle.yspec.specs.schema.Schema.{Schema, Kind, JsonForm, by_type, any_value, any_object, container, leaf, leaf_list, list, child_written, has_value, is_many, node_at}
use Rattle.yspec.specs.edit.EditText.{Edit, Path, Predicate, create, replace, remove, move_to}
use Rattle.yspec.specs.edit.Editing.{fits_kind, says_nothing}

-- ---- what is due behind a name

-- `[name='..']`, of the key of a number
abbrev pub key_due : Schema → ℕ → Text
key_due schema number = codes "[" ++ (option_map_or (λ n. n.name) (node_at schema number) [] ++ codes "='..']")

abbrev pub keyed : Text → Text → Text
keyed name keys = name ++ (codes " is a list: write " ++ (name ++ (keys ++ (codes " or " ++ (name ++ codes "[1].")))))

abbrev pub keys_due : Schema → Text → List ℕ → Text
keys_due schema name keys = keyed name (flat_map (key_due schema) keys)

-- behind that of a list with these keys
abbrev pub list_due : Schema → Text → List ℕ → Text
list_due schema name [] = name ++ (codes " is a list without keys: write " ++ (name ++ codes "[1]."))
list_due schema name (key ∷ keys) = keys_due schema name (key ∷ keys)

-- that a node is what holds a value so
abbrev pub leaf_called : JsonForm → Text
leaf_called by_type = codes " is a leaf"
leaf_called any_value = codes " is an anyxml"
leaf_called any_object = codes " is an anydata"

abbrev pub kind_due : Schema → Text → Kind → Text
kind_due schema name (list tuples amount) = list_due schema name tuples.keys
kind_due schema name (leaf_list type defaults amount) = name ++ (codes " is a leaf-list: write " ++ (name ++ codes "[1]."))
kind_due schema name (container presence) = name ++ codes " is a container: no predicate stands behind it."
kind_due schema name (leaf type absence) = name ++ (leaf_called type.form ++ codes ": no predicate stands behind it.")
kind_due schema name _ = []

-- what one instance of a node is called that may have several
abbrev pub one_called : Kind → Text
one_called kind = if has_value kind then codes "item" else codes "entry"

-- behind the last name of `create`
abbrev pub nothing_due : Text → Kind → Text
nothing_due name kind = codes "create adds the " ++ (one_called kind ++ (codes " last: write " ++ (name ++ codes " without a predicate.")))

-- ---- steps; it is told whether it is the last step of `create`, which bears no predicate

abbrev pub due_of : Schema → Bool → Text → Kind → Text
due_of schema is_added name kind = if is_added && is_many kind then nothing_due name kind else kind_due schema name kind

abbrev pub due_at : Schema → Bool → ℕ → Text → Text
due_at schema is_added number name = option_map_or (λ n. due_of schema is_added name n.kind) (node_at schema number) []

-- whether a predicate is in place behind the name of a node
abbrev pub is_in_place : Schema → Bool → ℕ → Predicate → Bool
is_in_place schema is_added number predicate = if is_added then says_nothing predicate
    else option_map_or (λ n. fits_kind schema n.kind predicate) (node_at schema number) false

abbrev pub is_end : Path → Bool
is_end [] = true
is_end (s ∷ steps) = false

-- of the first step, from a node or the top on, whose predicate isn't in place
abbrev pub of_predicates : Schema → Bool → Option ℕ → Path → Text
of_predicates schema is_create parent [] = []
of_predicates schema is_create parent (s ∷ steps) = let is_added = is_create && is_end steps in
    option_map_or (λ number. if is_in_place schema is_added number s.predicate
    then of_predicates schema is_create (Some number) steps else due_at schema is_added number s.name)
    (child_written schema parent s.name) []

abbrev pub said_of_predicates : Schema → Edit → Text
said_of_predicates schema (create path text) = of_predicates schema true None path
said_of_predicates schema (replace path text) = of_predicates schema false None path
said_of_predicates schema (remove path) = of_predicates schema false None path
said_of_predicates schema (move_to path position) = of_predicates schema false None path
