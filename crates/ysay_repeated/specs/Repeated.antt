-- Which member a JSON text gives twice in one object: the first, in the order of the text, whose name an earlier member of
-- the same object has (RFC 8259, 4). Members are looked at one after another, each with all that stands in it. One whose
-- name is no child's is passed over: a document that reads has none, but in a value that a later member replaces.
use Rattle.std.specs.Prelude.{ℕ, ◌+◌, ◌||◌, ◌++◌, Bool, false, List, [], ◌∷◌, Option, Some, None, option_and_then, if◌then◌else◌}
use Rattle.std.specs.Option.{option_map_or}
use Rattle.std.specs.Str.{is_utf8}
use Rattle.json.specs.Json.{Json, array, object, Items, no_items, item, Members, no_members, member, document}
use Rattle.yspec.specs.Forest.{first_of}
use Rattle.yspec.specs.text.Text.{Text}
use Rattle.yspec.specs.types.Names.{is_among}
use Rattle.yspec.specs.schema.Schema.{Schema, child_written}
use Rattle.yspec.specs.document.Document.{Step, step_at, step_to}

-- the JSON value of a text, whose objects have every member that is given, where there is one
abbrev pub json_in : List ℕ → Option Json
json_in bytes = if is_utf8 bytes then document bytes else None

-- ---- the place of the first that is given twice

-- of one member, by whether an earlier one has its name: itself, or what its value gives twice, by the number of its node
abbrev pub at_name : Schema → Option ℕ → List Step → Bool → Text → (ℕ → Option (List Step)) → Option (List Step)
at_name schema parent place is_repeated name inner =
    option_and_then (λ node. if is_repeated then Some (place ++ step_to node ∷ []) else inner node) (child_written schema parent name)

abbrev mutual
  -- of the members of an object behind those of some names; the place is that of the object
  pub repeated_members : Schema → Option ℕ → List Step → List Text → Members → Option (List Step)
  repeated_members schema parent place before no_members = None
  repeated_members schema parent place before (member name j ms) = first_of
      (at_name schema parent place (is_among before name) name (λ node. repeated_value schema node place j))
      (repeated_members schema parent place (name ∷ before) ms)

  -- in the value of a member, by the number of its node; the place is that of the object
  pub repeated_value : Schema → ℕ → List Step → Json → Option (List Step)
  repeated_value schema node place (array js) = repeated_items schema node place 1 js
  repeated_value schema node place (object ms) = repeated_members schema (Some node) (place ++ step_to node ∷ []) [] ms
  repeated_value schema node place _ = None

  -- in the entries of an array from a position on
  pub repeated_items : Schema → ℕ → List Step → ℕ → Items → Option (List Step)
  repeated_items schema node place position no_items = None
  repeated_items schema node place position (item j js) = first_of
      (repeated_entry schema node (place ++ step_at node position ∷ []) j)
      (repeated_items schema node place (position + 1) js)

  -- in an entry; the place is its own
  pub repeated_entry : Schema → ℕ → List Step → Json → Option (List Step)
  repeated_entry schema node place (object ms) = repeated_members schema (Some node) place [] ms
  repeated_entry schema node place _ = None

abbrev pub repeated_at_top : Schema → Json → Option (List Step)
repeated_at_top schema (object ms) = repeated_members schema None [] [] ms
repeated_at_top schema _ = None

-- of a text
unfoldable pub repeated_in : Schema → List ℕ → Option (List Step)
repeated_in schema bytes = option_and_then (repeated_at_top schema) (json_in bytes)

-- ---- whether any is given twice, under no schema

abbrev mutual
  pub repeats : Json → Bool
  repeats (array js) = items_repeat js
  repeats (object ms) = members_repeat [] ms
  repeats _ = false

  pub items_repeat : Items → Bool
  items_repeat no_items = false
  items_repeat (item j js) = repeats j || items_repeat js

  -- behind members of some names
  pub members_repeat : List Text → Members → Bool
  members_repeat before no_members = false
  members_repeat before (member name j ms) = is_among before name || (repeats j || members_repeat (name ∷ before) ms)

unfoldable pub has_repeated : Text → Bool
has_repeated text = option_map_or repeats (json_in text) false
