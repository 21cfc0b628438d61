use Rattle.std.proofs.Common.{◌≡◌, ℕ, Option, drop, map}
use Rattle.yspec.specs.Forest.{first_of}
use Rattle.yspec.specs.linking.Prefixes.{NodeName}
use Rattle.ybase_preorder.specs.Layout.{laid, seen}
use Rattle.ybase_index.specs.Index.{texts_of}
use Rattle.yschema_expand.specs.Indexing.{first_child, look_by, row_name}
use Rattle.yschema_expand.specs.NodeView.{numbered_part}
use Rattle.yschema_expand.proofs.indexing.index_of.Given as goal

-- what is found so far, and among the nodes that are left where nothing is
abbrev pub invariant-loop-number : goal.invariant-loop-number
invariant-loop-number l = record {
  texts : texts_of l.index ≡ map row_name l.slots;
  look : (above : Option ℕ) (name : NodeName) → first_of (look_by l.index above name)
      (first_child above name l.number (seen numbered_part l.number (laid (drop l.number l.slots))))
      ≡ first_child above name 0 (seen numbered_part 0 (laid l.slots));
}
