-- What stands in a row, and what else is held of few rows, as contracts see it.
use Rattle.std.specs.Prelude.{ℕ, Bool, List, []}
use Rattle.ycheck.specs.declared.fault.FaultCode.{FaultCode}
use Rattle.yschema_model.specs.declared.node.SchemaId.{SchemaId}
use Rattle.ystore_rows.specs.Children.{nodes_of, room_of}
use Rattle.ystore_rows.specs.Rows.{Child}
use Rattle.ystore_rows.specs.declared.extent.Extent.{Extent}
use Rattle.ystore_rows.specs.declared.extent.Extent.TheVariants.{Small, Large}

-- the nodes of a row, the room for them, the flags of the node above it, and what is told of what isn't stored in it
pub record Within : Type 0 where
  pub children : List Child
  pub room : ℕ
  pub same : List Bool
  pub play : List (FaultCode × SchemaId)

abbrev pub within_of : Extent → Within
within_of (Small play place) = record { children = []; room = 0; same = []; play = play.items }
within_of (Large parts) = record {
  children = nodes_of parts.value.children;
  room = room_of parts.value.children;
  same = parts.value.same.items;
  play = parts.value.play.items;
}

-- where the node above was put
abbrev pub place_of : Extent → ℕ
place_of (Small play place) = place
place_of (Large parts) = parts.value.place
