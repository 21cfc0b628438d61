-- The nodes that hang on a row, one after another, and what each of them holds and gives.
use Rattle.std.specs.Prelude.{ℕ, ◌++◌, List, [], ◌∷◌, Option, Some}
use Rattle.std.specs.List.{flat_map}
use Rattle.yspec.specs.Forest.{Forest, end, node}
use Rattle.yspec.specs.schema.Schema.{Schema, SchemaNode, row_at}
use Rattle.yspec.specs.document.Document.{Tree, instances_in}
use Rattle.yspec_play.specs.Absences.{Absent, Default, absences_in, defaults_in}
use Rattle.yspec_play.specs.Over.{told_over, used_over}
use Rattle.ylive_facts.specs.Given.{referred, own_values}
use Rattle.ylive_facts.specs.Keys.{Holding, held_with, held_by}
use Rattle.ystore_rows.specs.declared.row.Row.{Row}
use Rattle.ystore_rows.specs.declared.row.Row.TheVariants.{Below}
use Rattle.ystore_tree.specs.Hanging.{Numbered, Branches, stored_of, tree_of}
use Rattle.ystore_tree.specs.Ways.{Way, around}

-- a node, the row in which it stands, and what stands below it
pub record Standing : Type 0 where
  pub row : Row
  pub label : Numbered
  pub below : Branches

-- in preorder
abbrev pub standing : Row → Branches → List Standing
standing above end = []
standing above (node n below after) =
    record { row = above; label = n; below = below } ∷ (standing (Below n.id) below ++ standing above after)

-- what is so of each of some
abbrev pub Every : {A : Type 0} → (A → Type 0) → List A → Type 0
Every P [] = Unit {0}
Every P (x ∷ xs) = P x × Every P xs

-- ---- of a node

abbrev pub keys_held : Schema → Standing → List Holding
keys_held schema s = held_with s.label.id (held_by schema s.row (stored_of s.label) (tree_of s.below))

-- what is told of what isn't stored in a row below a node of a schema node, or at the top, and the defaults in use in it, of
-- schema nodes that are referred to
abbrev pub absences_in_row : Schema → Option ℕ → Tree → List Absent
absences_in_row schema above t = absences_in (instances_in t) [] (row_at schema above)

abbrev pub defaults_in_row : Schema → Option ℕ → Tree → List Default
defaults_in_row schema above t = referred schema (defaults_in (instances_in t) [] (row_at schema above))

-- of one child of the schema row alone, which may be none
abbrev pub absences_over : Option (SchemaNode × Forest SchemaNode) → Tree → List Absent
absences_over child t = told_over (instances_in t) child

abbrev pub defaults_over : Schema → Option (SchemaNode × Forest SchemaNode) → Tree → List Default
defaults_over schema child t = referred schema (used_over (instances_in t) child)

-- of the row below a node
abbrev pub absences_there : Schema → Standing → List Absent
absences_there schema s = absences_in_row schema (Some s.label.schema.0) (tree_of s.below)

-- its value and the defaults in use below it
abbrev pub values_given : Schema → Standing → List Default
values_given schema s =
    referred schema (own_values schema (stored_of s.label)) ++ defaults_in_row schema (Some s.label.schema.0) (tree_of s.below)

-- ---- of all

abbrev pub all_held : Schema → Row → Branches → List Holding
all_held schema above f = flat_map (keys_held schema) (standing above f)

abbrev pub all_given : Schema → Row → Branches → List Default
all_given schema above f = flat_map (values_given schema) (standing above f)

-- ---- of the nodes on a way, from its end up

abbrev pub on_the_way : Row → Way → Branches → List Standing
on_the_way above [] f = []
on_the_way above (frame ∷ way) f =
    on_the_way (Below frame.label.id) way f ++ record { row = above; label = frame.label; below = around way f } ∷ []

abbrev pub way_held : Schema → Row → Way → Branches → List Holding
way_held schema above way f = flat_map (keys_held schema) (on_the_way above way f)
