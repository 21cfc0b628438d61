-- Tables whose last nodes are put below one before them.
use Rattle.std.specs.Prelude.{◌≡◌, ◌≤◌, ◌<◌, ◌+◌, ◌++◌, ℕ, List, length, Option, IfSome}
use Rattle.yspec.specs.Forest.{Forest, size}
use Rattle.yspec.specs.linking.Parts.{Part}
use Rattle.ybase_preorder.specs.Layout.{Place, places}
use Rattle.yschema_expand.specs.Hanging.{hung_at}
use Rattle.yschema_expand.specs.TableView.{parts_in}
use Rattle.yschema_expand.specs.declared.hanging.Hanging.{Hanging}
use Rattle.yschema_expand.specs.declared.table.NodeTable.{NodeTable}

-- where there is a target, it is among the nodes that lie before those that are put below it
abbrev pub IsAmong : Hanging → Type 0
IsAmong h = IfSome h.target (λ t. (h.first ≤ t) × (t < h.start))

-- Where the last nodes of a table, from a number on, stand below one of some before them, they come last below that one.
abbrev pub Puts : Hanging → NodeTable → NodeTable → Type 0
Puts h old new = (earlier : List (Place Part)) (parent : Option ℕ) (f added : Forest Part) → length earlier ≡ h.first → h.start ≡ h.first + size f
    → parts_in old ≡ (earlier ++ places parent h.first f) ++ places h.target h.start added
    → parts_in new ≡ earlier ++ places parent h.first (hung_at h.target h.first added f)
