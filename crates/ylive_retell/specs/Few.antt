-- Not too many defaults to be counted.
use Rattle.std.specs.Prelude.{ℕ, ◌≤◌, ◌^◌}
use Rattle.yspec.specs.Forest.{weigh}
use Rattle.yspec.specs.schema.Schema.{Schema, SchemaNode}
use Rattle.yspec_reach.specs.Sizes.{default_count}

abbrev pub own_defaults : SchemaNode → ℕ
own_defaults n = default_count n.kind

abbrev pub HasFewDefaults : Schema → Type 0
HasFewDefaults schema = weigh own_defaults schema.nodes ≤ 2 ^ 32
