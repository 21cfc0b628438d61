-- The steps of a path that are bound: each is a child of the one before it, which the schema has under its number.
use Rattle.std.proofs.Common.{◌≡◌, ℕ, ◌+◌, Bool, true, false, cond, List, [], ◌∷◌, Option, Some, None, refl, ap, subst}
use Rattle.yspec.specs.Forest.{Forest, end, node, join}
use Rattle.yspec.specs.text.Text.{Text, is_text}
use Rattle.yspec.specs.schema.Schema.{Schema, SchemaNode, is_data, data_row, child_in, node_at, children_of, written_name, other_name}
use Rattle.yspec.specs.document.Reading.{Named, child, other_form, unknown, named, named_in, other_or}
use Rattle.yspec.specs.document.Fitting.{IsNumbered}
use Rattle.yspec.specs.edit.EditText.{Path}
use Rattle.yspec.specs.edit.Editing.{BoundStep, bound_named, bound_steps, are_in_place, is_spelled, bound}
use Rattle.yspec.proofs.DocumentProofs.CheckingRowLemmas.{Has}
use Rattle.yspec.proofs.DocumentProofs.DataRowLemmas.{Rises, data_rises, AreFound, data_found}
use Rattle.yspec.proofs.EditProofs.AnswerLemmas.{If, if_then, if_cond}

-- ---- a node of a row

-- a node is in a row, with these nodes below it
pub data InRow (n : SchemaNode) (below : Forest SchemaNode) : Forest SchemaNode → Type 0 where
  first : {after : Forest SchemaNode} → InRow n below (node n below after)
  later : {m : SchemaNode} {inner after : Forest SchemaNode} → InRow n below after → InRow n below (node m inner after)

abbrev Found : Type 0
Found = SchemaNode × Forest SchemaNode

found_of : Named → Found → Found
found_of (child n below) other = (n, below)
found_of other_form other = other
found_of unknown other = other

past_other : (b : Bool) (x : Named) (n : SchemaNode) (below : Forest SchemaNode) → other_or b x ≡ child n below → x ≡ child n below
past_other b (child m inner) n below e = e
past_other true other_form n below e = absurd cc
past_other false other_form n below e = absurd cc
past_other true unknown n below e = absurd cc
past_other false unknown n below e = absurd cc

-- the node that a name means
pub named_in_row : (s : Schema) (m : Option ℕ) (name : Text) (f : Forest SchemaNode) (n : SchemaNode) (below : Forest SchemaNode)
    → named_in s m name f ≡ child n below → InRow n below f
unfolding found_of
named_in_row s m name end n below e = absurd cc
named_in_row s m name (node k inner after) n below e =
    by (is_text name (written_name s m k)) e (λ rest. named_in_row s m name after n below rest)
  where
    by : (b : Bool) → cond b (child k inner) (other_or (is_text name (other_name s m k)) (named_in s m name after)) ≡ child n below
        → (named_in s m name after ≡ child n below → InRow n below after) → InRow n below (node k inner after)
    by true e h = let same : (k, inner) ≡ (n, below) = ap (λ x. found_of x (n, below)) e in
        subst (λ (x : Found). InRow x.0 x.1 (node k inner after)) same first
    by false e h = later (h (past_other (is_text name (other_name s m k)) (named_in s m name after) n below e))

-- ---- what is known of it

found_there : (others : Forest SchemaNode) (n : SchemaNode) (below f : Forest SchemaNode) → AreFound others f → InRow n below f
    → child_in others n.number ≡ Some (n, below)
found_there others n below f found first = found.0
found_there others n below f found (later {after = after} there) = found_there others n below after found.1 there

numbered_there : (n : SchemaNode) (below f : Forest SchemaNode) (k : ℕ) → Rises k f → InRow n below f → IsNumbered (n.number + 1) below
numbered_there n below f k rises first = rises.1
numbered_there n below f k rises (later {m = m} {after = after} there) = numbered_there n below after (m.number + 1) rises.2 there

has_joined : (s : Schema) (f g : Forest SchemaNode) → Has s f → Has s g → Has s (join f g)
has_joined s end g one other = other
has_joined s (node n below after) g one other = (one.0, one.1, one.2, has_joined s after g one.3 other)

has_data : (s : Schema) (f : Forest SchemaNode) → Has s f → Has s (data_row f)
has_data s end has = tt
has_data s (node n below after) has = by (is_data n.kind) (has_data s below has.2) (has_data s after has.3)
  where
    by : (b : Bool) → Has s (data_row below) → Has s (data_row after) → Has s (cond b (node n below (data_row after)) (join (data_row below) (data_row after)))
    by true inner rest = (has.0, has.1, has.2, rest)
    by false inner rest = has_joined s (data_row below) (data_row after) inner rest

-- the schema has a node under its number, with these nodes below it
abbrev pub IsAt : Schema → SchemaNode → Forest SchemaNode → Type 0
IsAt s n below = (node_at s n.number ≡ Some n) × (children_of s n.number ≡ below)

at_there : (s : Schema) (n : SchemaNode) (below f : Forest SchemaNode) → Has s f → InRow n below f → IsAt s n below × Has s below
at_there s n below f has first = ((has.0, has.1), has.2)
at_there s n below f has (later {after = after} there) = at_there s n below after has.3 there

-- a row of the schema
abbrev pub Stands : Schema → Forest SchemaNode → Type 0
Stands s f = ((k : ℕ) × IsNumbered k f) × Has s f

pub stands_below : (s : Schema) (f : Forest SchemaNode) (n : SchemaNode) (below : Forest SchemaNode) → Stands s f → InRow n below (data_row f) → Stands s below
stands_below s f n below stands there = (
  (n.number + 1, numbered_there n below (data_row f) stands.0.0 (data_rises f stands.0.0 stands.0.1) there),
  (at_there s n below (data_row f) (has_data s f stands.1) there).1,
)

pub is_child : (s : Schema) (f : Forest SchemaNode) (n : SchemaNode) (below : Forest SchemaNode) → Stands s f → InRow n below (data_row f)
    → child_in (data_row f) n.number ≡ Some (n, below)
is_child s f n below stands there = found_there (data_row f) n below (data_row f) (data_found f stands.0.0 stands.0.1) there

pub is_at : (s : Schema) (f : Forest SchemaNode) (n : SchemaNode) (below : Forest SchemaNode) → Stands s f → InRow n below (data_row f) → IsAt s n below
is_at s f n below stands there = (at_there s n below (data_row f) (has_data s f stands.1) there).0

-- ---- bound steps

-- each is a data node below the one before it
abbrev pub BoundIn : Forest SchemaNode → List BoundStep → Type 0
BoundIn f [] = Unit {0}
BoundIn f (b ∷ bs) = (below : Forest SchemaNode) × InRow b.schema_node below (data_row f) × BoundIn below bs

pub steps_bound : (s : Schema) (m : Option ℕ) (f : Forest SchemaNode) (path : Path) → If (BoundIn f) (bound_steps s m f path)
steps_bound s m f [] = tt
steps_bound s m f (x ∷ path) = by (named s m x.name f) refl (λ n below. steps_bound s (Some n.module_number) below path)
  where
    by : (nm : Named) → named s m x.name f ≡ nm → ((n : SchemaNode) (below : Forest SchemaNode) → If (BoundIn below) (bound_steps s (Some n.module_number) below path))
        → If (BoundIn f) (bound_named nm x.predicate (λ n below. bound_steps s (Some n.module_number) below path))
    by (child n below) is rest = if_then (BoundIn below) (BoundIn f) (bound_steps s (Some n.module_number) below path) _ (rest n below)
        (λ bs inner. (below, named_in_row s m x.name (data_row f) n below is, inner))
    by other_form is rest = tt
    by unknown is rest = tt

pub path_bound : (s : Schema) (is_create : Bool) (path : Path) → If (BoundIn s.nodes) (bound s is_create path)
path_bound s is_create path = if_cond (BoundIn s.nodes) (is_spelled path) _ _
    (if_then (BoundIn s.nodes) (BoundIn s.nodes) (bound_steps s None s.nodes path) _ (steps_bound s None s.nodes path)
    (λ bs inner. if_cond (BoundIn s.nodes) (are_in_place s is_create bs) _ _ inner tt)) tt
