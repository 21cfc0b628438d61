-- What members denote below a node, each member taken out once it is read.
use Rattle.std.specs.Prelude.{ℕ, List, Option, Some, if◌then◌else◌}
use Rattle.std.specs.Ordering.{is_eq, nat_cmp}
use Rattle.std.specs.Cmp.Lexicographic.{slice_cmp}
use Rattle.serde_json.specs.Data.{Data, Members, no_members, member}
use Rattle.serde_json.specs.Find.{get_member}
use Rattle.yspec.specs.Forest.{Forest, end, node, join}
use Rattle.yspec.specs.schema.Schema.{Schema, SchemaNode, is_data, written_name}
use Rattle.yspec.specs.document.Document.{Tree}
use Rattle.yspec.specs.document.Reading.{members_of, instance_row}

-- the members without the one of a name
abbrev pub without : List ℕ → Members → Members
without name no_members = no_members
without name (member other d ms) = if is_eq (slice_cmp nat_cmp name other) then ms else member other d (without name ms)

-- the row so far, and the members that are left
abbrev pub Taken : Type 0
Taken = Tree × Members

-- both behind a row of schema nodes below a parent of a module
unfoldable pub taken : Schema → Option ℕ → Forest SchemaNode → Taken → Taken
taken schema parent end so_far = so_far
taken schema parent (node n below after) so_far = taken schema parent after (if is_data n.kind
    then (
      join so_far.0 (instance_row n (λ d. (taken schema (Some n.module_number) below (end, members_of d)).0) (get_member (written_name schema parent n) so_far.1)),
      without (written_name schema parent n) so_far.1,
    )
    else taken schema parent below so_far)

-- what stands below an instance of a node
abbrev pub taken_in : Schema → SchemaNode → Forest SchemaNode → Data → Tree
taken_in schema n below d = (taken schema (Some n.module_number) below (end, members_of d)).0
