-- The keys that nodes hold before a change as well as after it.
use Rattle.std.specs.Prelude.{◌&&◌, ◌==◌, Bool}
use Rattle.ystore.specs.Store.{same_key}
use Rattle.ystore_rows.specs.declared.row.NodeId.{NodeId}
use Rattle.ystore.specs.declared.key.Key.{Key}

-- whether two pairs are of the same node and key
abbrev pub is_same : Key × NodeId → Key × NodeId → Bool
is_same p q = p.1.0 == q.1.0 && same_key p.0 q.0
