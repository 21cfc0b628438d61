-- The names that are asked for, and the paths of augments by the places of their names among these.
use Rattle.std.specs.Prelude.{◌≡◌, ℕ, ◌+◌, ◌<◌, List, [], ◌∷◌, map, length, slice_get, Some, unwrap_or}
use Rattle.std.specs.Borrow.{Bor}
use Rattle.yspec.specs.Forest.{Forest}
use Rattle.yspec.specs.text.Text.{Text}
use Rattle.yspec.specs.linking.Arguments.{Name, absolute_path_of}
use Rattle.yspec.specs.linking.Augments.{Augment}
use Rattle.yspec.specs.linking.Prefixes.{node_name}
use Rattle.yspec.specs.linking.Source.{Source, argument_in}
use Rattle.ybase_preorder.specs.declared.slot.Slot.{Slot}
use Rattle.ybase_index.specs.Names.{text_in}
use Rattle.yschema_expand.specs.NodeView.{part_view}
use Rattle.yschema_expand.specs.declared.nodes.ExpandedNode.{ExpandedNode}
use Rattle.yschema_augment.specs.declared.search.Step.{Step}

abbrev pub texts_seen : List (Bor Text) → List Text
texts_seen texts = map (λ t. t.now) texts

-- the name of a node
abbrev pub row_name : Slot ExpandedNode → Text
row_name r = argument_in (part_view r.label).source

-- each node's text is its name
abbrev pub AreNames : List Text → List (Slot ExpandedNode) → Type 0
AreNames texts slots = (number : ℕ) (r : Slot ExpandedNode) → slice_get slots number ≡ Some r
    → (number < length texts) × (text_in texts number ≡ row_name r)

-- the names in the path of an augment
abbrev pub path_of : Augment → List Name
path_of a = unwrap_or (absolute_path_of (argument_in a.source)) []

abbrev pub identifiers : List Name → List Text
identifiers path = map (λ n. n.identifier) path

abbrev pub texts_of_path : Augment → List Text
texts_of_path a = identifiers (path_of a)

-- the steps of a path in a module, the first name of which has a place
abbrev pub steps_from : Forest Source → ℕ → ℕ → List Name → List Step
steps_from modules home next [] = []
steps_from modules home next (n ∷ path) =
    record { «module» = (node_name modules home home n).module_number; text = next } ∷ steps_from modules home (next + 1) path

-- those of all augments
abbrev pub paths_from : Forest Source → ℕ → List Augment → List (List Step)
paths_from modules next [] = []
paths_from modules next (a ∷ augments) = steps_from modules a.source.home next (path_of a)
    ∷ paths_from modules (next + length (path_of a)) augments
