-- How many reading calls an edit of a document in a store makes, at most.
use Rattle.std.specs.Prelude.{ℕ, ◌+◌, ◌*◌, ◌≤◌, List, Result, Ok, Err, if◌then◌else◌, nat_lt}
use Rattle.yspec.specs.Results.{◌>>=◌}
use Rattle.yspec.specs.text.Text.{Text}
use Rattle.yspec.specs.schema.Schema.{Schema}
use Rattle.yspec.specs.document.Document.{Step, Tree, instances_in}
use Rattle.yspec.specs.edit.Editing.{BoundStep, EditRefusal, Target, branch_of, is_there, last_meant, refused}
use Rattle.yspec_reach.specs.Parts.{Exchange, comes, gives_way, goes, stays}
use Rattle.yspec_reach.specs.Shared.{value_pairs}
use Rattle.yspec_reach.specs.Sizes.{breadth, levels, part_size}
use Rattle.yinst_path.specs.declared.edit.EditFault.{EditFault}
use Rattle.yinst_path.specs.declared.edit.EditFault.TheVariants.{Refused, Memory}
use Rattle.ystore.specs.Store.{reads}
use Rattle.ystore.specs.declared.nodes.Nodes.{Nodes}
use Rattle.ystore_tree.specs.Hanging.{Branches, tree_of}

-- unless memory ran out
abbrev pub ReadsWithin : {X : Type 0} → ℕ → Nodes → Nodes → Result X EditFault → Type 0
ReadsWithin most before after (Ok x) = reads after ≤ reads before + most
ReadsWithin most before after (Err (Refused code doc)) = reads after ≤ reads before + most
ReadsWithin most before after (Err Memory) = Unit {0}

-- a change of a row by the parts of an edit
abbrev pub exchange_reads : Schema → Tree → Exchange → ℕ
exchange_reads schema tree x = (levels schema + 2)
    * (8 * (part_size schema x.old + (part_size schema x.new + value_pairs schema x tree)) + (16 * breadth schema + 3))

-- and the numbers of the nodes that go; an edit that is refused otherwise than by the number of nodes has no parts
abbrev pub parts_reads : Schema → Tree → Result Exchange EditRefusal → ℕ
parts_reads schema tree (Ok x) = 4 * part_size schema x.old + exchange_reads schema tree x
parts_reads schema tree (Err refusal) = 0

-- ---- the parts of an edit that stands at a target

-- in a row with these branches, by the last step of its path
abbrev pub row_target : List Step → Branches → BoundStep → Target
row_target steps f last = record { above = steps; row = tree_of f; last = last }

abbrev pub created_parts : Schema → Text → Target → Result Exchange EditRefusal
created_parts schema text t =
    if is_there t then refused 8 else branch_of schema t.last.schema_node.number text >>= (λ b. Ok (comes t b))

abbrev pub replaced_parts : Schema → Text → Target → Result Exchange EditRefusal
replaced_parts schema text t = last_meant schema t >>= (λ step.
    branch_of schema t.last.schema_node.number text >>= (λ b. Ok (gives_way t step b)))

abbrev pub removed_parts : Schema → Target → Result Exchange EditRefusal
removed_parts schema t = last_meant schema t >>= (λ step. Ok (goes t step))

abbrev pub moved_parts : Schema → ℕ → Target → Result Exchange EditRefusal
moved_parts schema position t = last_meant schema t >>= (λ step.
    if nat_lt (instances_in t.row t.last.schema_node.number) position then refused 5 else Ok (stays t step position))
