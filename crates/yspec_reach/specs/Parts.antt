-- What an edit takes away from a document, and what it puts in.
use Rattle.std.specs.Prelude.{ℕ, zero, suc, true, false, Result, Ok, if◌then◌else◌, nat_lt}
use Rattle.yspec.specs.Forest.{end, node}
use Rattle.yspec.specs.Results.{◌>>=◌}
use Rattle.yspec.specs.schema.Schema.{Schema}
use Rattle.yspec.specs.document.Document.{Tree, Step, instances_in}
use Rattle.yspec.specs.edit.Edit.{edit_at, is_of, instance_index}
use Rattle.yspec.specs.edit.EditText.{Edit, create, replace, remove, move_to}
use Rattle.yspec.specs.edit.Editing.{EditRefusal, refused, Target, target_of, target_to_move, is_there, last_meant, Branch, branch_of, with_branch, with_instead, with_moved, without, within_limit}

-- An edit in the row in which it stands: the old part, which it takes away, and the new part, which it puts in, each a row
-- of one branch or of none; and the row without the old part, and with the new one instead.
pub record Exchange : Type 0 where
  pub target : Target
  pub old : Tree
  pub new : Tree
  pub without_old : Tree → Tree
  pub with_new : Tree → Tree

-- ---- branches as rows of their own

abbrev pub alone : Branch → Tree
alone b = node b.label b.below end

-- that of the instance of a schema node which has an index among those of that node in a row, from 0
abbrev pub instance_alone : ℕ → ℕ → Tree → Tree
instance_alone number place end = end
instance_alone number zero (node s below after) =
    if is_of number s then node s below end else instance_alone number zero after
instance_alone number (suc place) (node s below after) =
    if is_of number s then instance_alone number place after else instance_alone number (suc place) after

-- that of the node which a step means
abbrev pub meant_alone : Step → Tree → Tree
meant_alone step row = instance_alone step.schema_number (instance_index step) row

-- ---- the parts

-- nothing is taken away
abbrev pub comes : Target → Branch → Exchange
comes t b = record { target = t; old = end; new = alone b; without_old = λ row. row; with_new = with_branch b }

-- nothing is put in
abbrev pub goes : Target → Step → Exchange
goes t step = record {
  target = t;
  old = meant_alone step t.row;
  new = end;
  without_old = without step;
  with_new = without step;
}

abbrev pub gives_way : Target → Step → Branch → Exchange
gives_way t step b = record {
  target = t;
  old = meant_alone step t.row;
  new = alone b;
  without_old = without step;
  with_new = with_instead step b;
}

-- nothing is taken away or put in: a node of the row stands elsewhere in it
abbrev pub stays : Target → Step → ℕ → Exchange
stays t step position = record {
  target = t;
  old = end;
  new = end;
  without_old = λ row. row;
  with_new = with_moved step position;
}

-- The parts of an edit, or why it is refused. How many nodes a document may have isn't asked: an edit that E11 refuses has
-- its parts, as if it were accepted.
unfoldable pub exchange_of : Schema → Tree → Edit → Result Exchange EditRefusal
exchange_of schema tree (create path text) = target_of schema tree true path >>= (λ t. if is_there t then refused 8
    else branch_of schema t.last.schema_node.number text >>= (λ b. Ok (comes t b)))
exchange_of schema tree (replace path text) = target_of schema tree false path >>= (λ t. last_meant schema t >>= (λ step.
    branch_of schema t.last.schema_node.number text >>= (λ b. Ok (gives_way t step b))))
exchange_of schema tree (remove path) =
    target_of schema tree false path >>= (λ t. last_meant schema t >>= (λ step. Ok (goes t step)))
exchange_of schema tree (move_to path position) = target_to_move schema tree path position >>= (λ t. last_meant schema t >>= (λ step.
    if nat_lt (instances_in t.row t.last.schema_node.number) position then refused 5 else Ok (stays t step position)))

-- ---- the trees

-- what stands outside the parts, which is the tree before without the old part, and the tree after without the new one; of a
-- node that is moved the places it doesn't tell
abbrev pub outside : Exchange → Tree → Tree
outside x tree = edit_at x.target.above x.without_old tree

-- the tree after the edit
abbrev pub exchanged : Exchange → Tree → Tree
exchanged x tree = edit_at x.target.above x.with_new tree

-- the row in which it stands, after it
abbrev pub row_after : Exchange → Tree
row_after x = x.with_new x.target.row

-- the tree after the edit of these parts, or its refusal; and where it may not have too many nodes (E11)
abbrev pub tree_with : Tree → Result Exchange EditRefusal → Result Tree EditRefusal
tree_with tree parts = parts >>= (λ x. Ok (exchanged x tree))

abbrev pub tree_within : Tree → Result Exchange EditRefusal → Result Tree EditRefusal
tree_within tree parts = parts >>= (λ x. within_limit (exchanged x tree))
