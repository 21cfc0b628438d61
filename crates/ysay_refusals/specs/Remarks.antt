-- Everything in a JSON value for which a document is refused, where its definition tells the first alone: depth first, members in
-- byte order of their names, items by position (RFC 7951, 4 to 6).
use Rattle.std.specs.Prelude.{ℕ, ◌+◌, List, [], ◌∷◌, ◌++◌, Option, Some, None, if◌then◌else◌}
use Rattle.std.specs.Option.{option_map_or}
use Rattle.serde_json.specs.Data.{Data, null, boolean, number, string, array, object, Items, no_items, item, Members, no_members, member}
use Rattle.yspec.specs.text.Text.{Text}
use Rattle.yspec.specs.schema.Schema.{Schema, SchemaNode, Kind, JsonForm, form_in, has_value, is_many, module_at, row_at}
use Rattle.yspec.specs.document.Document.{Step, below_place, instance_place}
use Rattle.yspec.specs.document.Reading.{Named, child, other_form, unknown, named, raw_by, refused_by}

-- why a document isn't read, by the number behind the `J`, and the place
pub data Remark : Type 0 where
  -- an object there has a member of a name that isn't known, or isn't in the form that is due
  of_name : ℕ → List Step → Text → Remark
  -- this value stands there
  of_value : ℕ → List Step → Data → Remark

-- of a member, by what its name means in the object at a place
abbrev pub name_remarks : List Step → Text → (SchemaNode → List Remark) → Named → List Remark
name_remarks place name inner (child n below) = inner n
name_remarks place name inner other_form = of_name 4 place name ∷ []
name_remarks place name inner unknown = of_name 3 place name ∷ []

-- of the value of a leaf or an item
abbrev pub leaf_remarks : JsonForm → List Step → Data → List Remark
leaf_remarks form place d = option_map_or (λ _. []) (raw_by form d) (of_value (refused_by form d) place d ∷ [])

-- of a value, with these of what stands in it; none of that is a node's where a leaf or an item has it
abbrev pub value_remarks : Kind → List Step → Data → List Remark → List Remark
value_remarks kind place d inner = if has_value kind then leaf_remarks (form_in kind) place d else inner

-- of a value that is no object
abbrev pub plain_remarks : Kind → List Step → Data → List Remark
plain_remarks kind place d = value_remarks kind place d (of_value 5 place d ∷ [])

-- a list or leaf-list is an array
abbrev pub unless_many : Kind → List Step → Data → List Remark → List Remark
unless_many kind place d remarks = if is_many kind then of_value 5 place d ∷ [] else remarks

unfoldable mutual
  -- of the members of an object below a node, or at the top
  pub member_remarks : Schema → Option ℕ → List Step → Members → List Remark
  member_remarks schema parent place no_members = []
  member_remarks schema parent place (member name d ms) = name_remarks place name (λ n. node_remarks schema n place d)
      (named schema (module_at schema parent) name (row_at schema parent)) ++ member_remarks schema parent place ms

  -- of the value of a member, whose node stands below the place
  pub node_remarks : Schema → SchemaNode → List Step → Data → List Remark
  node_remarks schema n place (array ds) = if is_many n.kind then item_remarks schema n place 1 ds
      else plain_remarks n.kind (below_place place n) (array ds)
  node_remarks schema n place (object ms) = unless_many n.kind (below_place place n) (object ms)
      (value_remarks n.kind (below_place place n) (object ms) (member_remarks schema (Some n.number) (below_place place n) ms))
  node_remarks schema n place null = unless_many n.kind (below_place place n) null (plain_remarks n.kind (below_place place n) null)
  node_remarks schema n place (boolean b) =
      unless_many n.kind (below_place place n) (boolean b) (plain_remarks n.kind (below_place place n) (boolean b))
  node_remarks schema n place (number x) =
      unless_many n.kind (below_place place n) (number x) (plain_remarks n.kind (below_place place n) (number x))
  node_remarks schema n place (string s) =
      unless_many n.kind (below_place place n) (string s) (plain_remarks n.kind (below_place place n) (string s))

  -- of the entries or items of an array from a position on
  pub item_remarks : Schema → SchemaNode → List Step → ℕ → Items → List Remark
  item_remarks schema n place position no_items = []
  item_remarks schema n place position (item d ds) =
      instance_remarks schema n (instance_place place n position) d ++ item_remarks schema n place (position + 1) ds

  -- of what stands at a container, an entry, a leaf or an item; the place is its own
  pub instance_remarks : Schema → SchemaNode → List Step → Data → List Remark
  instance_remarks schema n place (object ms) =
      value_remarks n.kind place (object ms) (member_remarks schema (Some n.number) place ms)
  instance_remarks schema n place (array ds) = plain_remarks n.kind place (array ds)
  instance_remarks schema n place null = plain_remarks n.kind place null
  instance_remarks schema n place (boolean b) = plain_remarks n.kind place (boolean b)
  instance_remarks schema n place (number x) = plain_remarks n.kind place (number x)
  instance_remarks schema n place (string s) = plain_remarks n.kind place (string s)

-- of a whole value; of one that is no object there are none
abbrev pub all_remarks : Schema → Data → List Remark
all_remarks schema (object ms) = member_remarks schema None [] ms
all_remarks schema _ = []
